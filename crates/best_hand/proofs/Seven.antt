-- A list of seven, item by item; a default stands for each place.
use Rattle.std.proofs.Common.{◌≡◌, List, [], ◌∷◌, length, get_or, refl, arith}

pub seven_items : {X : Type 0} (xs : List X) (d0 d1 d2 d3 d4 d5 d6 : X) → length xs ≡ 7
    → get_or xs 0 d0 ∷ get_or xs 1 d1 ∷ get_or xs 2 d2 ∷ get_or xs 3 d3 ∷ get_or xs 4 d4 ∷ get_or xs 5 d5 ∷ get_or xs 6 d6 ∷ [] ≡ xs
seven_items [] d0 d1 d2 d3 d4 d5 d6 h = absurd (omega arith)
seven_items (a ∷ []) d0 d1 d2 d3 d4 d5 d6 h = absurd (omega arith)
seven_items (a ∷ b ∷ []) d0 d1 d2 d3 d4 d5 d6 h = absurd (omega arith)
seven_items (a ∷ b ∷ c ∷ []) d0 d1 d2 d3 d4 d5 d6 h = absurd (omega arith)
seven_items (a ∷ b ∷ c ∷ e ∷ []) d0 d1 d2 d3 d4 d5 d6 h = absurd (omega arith)
seven_items (a ∷ b ∷ c ∷ e ∷ f ∷ []) d0 d1 d2 d3 d4 d5 d6 h = absurd (omega arith)
seven_items (a ∷ b ∷ c ∷ e ∷ f ∷ g ∷ []) d0 d1 d2 d3 d4 d5 d6 h = absurd (omega arith)
seven_items (a ∷ b ∷ c ∷ e ∷ f ∷ g ∷ k ∷ []) d0 d1 d2 d3 d4 d5 d6 h = refl
seven_items (a ∷ b ∷ c ∷ e ∷ f ∷ g ∷ k ∷ m ∷ xs) d0 d1 d2 d3 d4 d5 d6 h = absurd (omega arith)
