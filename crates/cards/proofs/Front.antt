-- The front of a line that has two letters or more.
use Rattle.std.proofs.Common.{◌≡◌, ℕ, ◌≤◌, List, [], ◌∷◌, length, get_or, refl, arith}
use Rattle.cards.specs.Letters.{card_in_front, card_lettered}

-- the card in front is that of the first two letters
pub front_letters : (line : List ℕ) → 2 ≤ length line → card_in_front line ≡ card_lettered (get_or line 0 0) (get_or line 1 0)
front_letters [] h = absurd (omega arith)
front_letters (r ∷ []) h = absurd (omega arith)
front_letters (r ∷ s ∷ rest) h = refl
