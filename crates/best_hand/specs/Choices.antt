-- All choices of some things from a list, in order of places.
use Rattle.std.specs.Prelude.{ℕ, zero, suc, List, [], ◌∷◌, ◌++◌, map}

-- first those with the first thing of the list, then those without it; each keeps the order of the list
abbrev pub choose : {X : Type 0} → ℕ → List X → List (List X)
choose zero xs = [] ∷ []
choose (suc n) [] = []
choose (suc n) (x ∷ xs) = map (λ chosen. x ∷ chosen) (choose n xs) ++ choose (suc n) xs
