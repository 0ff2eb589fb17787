-- The highest of a list of ranked things. `below x y` says that y exceeds x.
use Rattle.std.specs.Prelude.{◌≡◌, ℕ, suc, ◌<◌, Bool, true, false, if◌then◌else◌, List, [], ◌∷◌, length, Some, None, Option, slice_index_or}

module _ {X : Type 0} (below : X → X → Bool) where
  -- x ahead of the highest of the things after it, which is told with its place: x keeps the lead unless that one exceeds it.
  abbrev pub ahead : X → ℕ × X → ℕ × X
  ahead x rest = if below x rest.1 then (suc rest.0, rest.1) else (0, x)

  -- The place of the highest of x and the things after it, beside that highest thing itself; of equals the first leads.
  abbrev pub leading : X → List X → ℕ × X
  leading x [] = (0, x)
  leading x (y ∷ ys) = ahead x (leading y ys)

  -- The place of the first thing that none exceeds, or none for an empty list.
  abbrev pub highest_place : List X → Option ℕ
  highest_place [] = None
  highest_place (x ∷ xs) = Some (leading x xs).0

  -- What the place promises: none exceeds what stands there, and it exceeds everything before it.
  abbrev pub FirstHighest : List X → Option ℕ → Type 0
  FirstHighest xs None = length xs ≡ 0
  FirstHighest xs (Some p) =
      (p < length xs)
      × ((k : ℕ) (d : X) → k < length xs → below (slice_index_or xs p d) (slice_index_or xs k d) ≡ false)
      × ((k : ℕ) (d : X) → k < p → below (slice_index_or xs k d) (slice_index_or xs p d) ≡ true)
