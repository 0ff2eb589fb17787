-- How many cards of a hand have a rank, and tests over ranks.
use Rattle.std.specs.Prelude.{ℕ, zero, suc, ◌+◌, ◌<◌, ◌≤◌, Bool, false, if◌then◌else◌, ◌||◌, List, [], ◌∷◌, length, ◌==◌, slice_index}

-- how many of these ranks are r
abbrev pub held : List ℕ → ℕ → ℕ
held [] r = 0
held (s ∷ rs) r = (if s == r then 1 else 0) + held rs r

-- does some number of the list pass the test?
abbrev pub some_of : (ℕ → Bool) → List ℕ → Bool
some_of p [] = false
some_of p (r ∷ rs) = p r || some_of p rs

-- the n lowest ranks, the highest of them first
abbrev pub lowest_ranks : ℕ → List ℕ
lowest_ranks zero = []
lowest_ranks (suc n) = (n + 2) ∷ lowest_ranks n

-- does some rank, ace to two, pass the test?
abbrev pub some_rank : (ℕ → Bool) → Bool
some_rank p = some_of p (lowest_ranks 13)

-- every number of the list is a card's rank
abbrev pub AllRanks : List ℕ → Type 0
AllRanks rs = (k : ℕ) → k < length rs → (2 ≤ slice_index rs k) × (slice_index rs k ≤ 14)
