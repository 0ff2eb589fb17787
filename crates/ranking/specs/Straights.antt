-- Straights. `f r` tells how many cards of the hand have rank r.
use Rattle.std.specs.Prelude.{ℕ, ◌+◌, Bool, if◌then◌else◌, ◌&&◌, List, [], ◌∷◌, ◌==◌, nat_le}
use Rattle.ranking.specs.Counts.{some_of}

-- the hand has a card of rank r, where the ace also counts 1
abbrev pub has_rank : (ℕ → ℕ) → ℕ → Bool
has_rank f r = nat_le 1 (f (if r == 1 then 14 else r))

-- five different ranks that follow one another, the lowest of them l
abbrev pub run_from : (ℕ → ℕ) → ℕ → Bool
run_from f l = has_rank f l && (has_rank f (l + 1) && (has_rank f (l + 2) && (has_rank f (l + 3) && has_rank f (l + 4))))

-- A straight runs from ten (to the ace), from nine, .., or from one (the ace below the two). No run goes past the ace.
abbrev pub straight_starts : List ℕ
straight_starts = 10 ∷ 9 ∷ 8 ∷ 7 ∷ 6 ∷ 5 ∷ 4 ∷ 3 ∷ 2 ∷ 1 ∷ []

abbrev pub straight : (ℕ → ℕ) → Bool
straight f = some_of (run_from f) straight_starts
