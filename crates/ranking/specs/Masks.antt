-- What the private functions of `straight.rt` promise one another. No public promise rests on this file.
use Rattle.std.specs.Prelude.{◌≡◌, ℕ, ◌*◌, ◌^◌, ◌≤◌, ◌≢◌, Bool, false, List, [], ◌∷◌, is_some, Some, None, Option, MatchOption, ◌==◌, bit_or}
use Rattle.ranking.specs.Straights.{run_from, straight}

-- the mask m, with the digit of each of these ranks set
abbrev pub masked : ℕ → List ℕ → ℕ
masked m [] = m
masked m (r ∷ rs) = masked (bit_or m (2 ^ r)) rs

-- what is told of a mask of 32 digits: where it is five ones in a row, the place of the lowest of them
abbrev pub RunStart : ℕ → Option ℕ → Type 0
RunStart m start = MatchOption start ((l : ℕ) → l ≤ 27 → m ≢ 31 * 2 ^ l) (λ l. m ≡ 31 * 2 ^ l)

-- does the straight that was told run from k?
abbrev pub starts_at : Option ℕ → ℕ → Bool
starts_at None k = false
starts_at (Some l) k = l == k

-- What is told of a straight: whether the hand has one, and from which rank it runs.
pub record Told (f : ℕ → ℕ) (start : Option ℕ) : Type 0 where
  pub there : straight f ≡ is_some start
  pub runs : (k : ℕ) → 1 ≤ k → k ≤ 10 → run_from f k ≡ starts_at start k
