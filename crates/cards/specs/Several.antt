-- Several cards.
use Rattle.std.specs.Prelude.{◌≡◌, ◌++◌, ℕ, zero, suc, Bool, true, false, not, ◌&&◌, ◌||◌, List, [], ◌∷◌, drop, Some, None, Ok, Err, Option, Result, ◌==◌}
use Rattle.cards.specs.declared.card.Card.{Card}
use Rattle.cards.specs.declared.fault.TextFault.{TextFault}
use Rattle.cards.specs.Codes.{code_of}
use Rattle.cards.specs.Letters.{card_letters, card_lettered, card_in_front}

-- the card is one of the others; cards with the same code are the same card
abbrev pub among : Card → List Card → Bool
among c [] = false
among c (d ∷ ds) = code_of c == code_of d || among c ds

-- no card is there twice
abbrev pub different : List Card → Bool
different [] = true
different (c ∷ cs) = not (among c cs) && different cs

-- a card in front of others, where there is one and where they are cards
abbrev pub in_front : Result Card TextFault → Option (List Card) → Option (List Card)
in_front (Ok c) (Some cs) = Some (c ∷ cs)
in_front (Ok c) None = None
in_front (Err e) cs = None

-- the cards of a text that is nothing but cards, two letters each
abbrev pub cards_of : List ℕ → Option (List Card)
cards_of [] = Some []
cards_of (r ∷ []) = None
cards_of (r ∷ s ∷ rest) = in_front (card_lettered r s) (cards_of rest)

-- a card and the cards behind it; of two faults the first
abbrev pub before_cards : Result Card TextFault → Result (List Card) TextFault → Result (List Card) TextFault
before_cards (Ok c) (Ok cs) = Ok (c ∷ cs)
before_cards (Ok c) (Err fault) = Err fault
before_cards (Err fault) cs = Err fault

-- the first n cards of a line, two letters each; the first fault where one of them is none
abbrev pub cards_in_front : ℕ → List ℕ → Result (List Card) TextFault
cards_in_front zero line = Ok []
cards_in_front (suc n) line = before_cards (card_in_front line) (cards_in_front n (drop 2 line))

-- the letters of cards, one card after the other
abbrev pub letters_of : List Card → List ℕ
letters_of [] = []
letters_of (c ∷ cs) = card_letters c ++ letters_of cs

-- the line is these cards in letters, and then the rest
abbrev pub InFront : List Card → List ℕ → List ℕ → Type 0
InFront cs rest line = line ≡ letters_of cs ++ rest
