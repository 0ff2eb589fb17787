-- The four suits, their numbers and their letters. No suit is higher than another; the number only serves a card's code.
use Rattle.std.specs.Prelude.{ℕ, List, [], ◌∷◌}
use Rattle.cards.specs.declared.suit.Suit.{Suit}
use Rattle.cards.specs.declared.suit.Suit.TheVariants.{Clubs, Diamonds, Hearts, Spades}

abbrev pub suit_number : Suit → ℕ
suit_number Clubs = 0
suit_number Diamonds = 1
suit_number Hearts = 2
suit_number Spades = 3

-- the letter that stands for a suit, as the code of its character: c, d, h, s
abbrev pub suit_letter : Suit → ℕ
suit_letter Clubs = 99  -- c
suit_letter Diamonds = 100  -- d
suit_letter Hearts = 104  -- h
suit_letter Spades = 115  -- s

abbrev pub suits : List Suit
suits = Clubs ∷ Diamonds ∷ Hearts ∷ Spades ∷ []
