-- A card is written as two letters, rank then suit.
use Rattle.std.specs.Prelude.{◌≡◌, ℕ, if◌then◌else◌, List, [], ◌∷◌, Ok, Err, Result, MatchResult, ◌==◌, ◌≢◌}
use Rattle.cards.specs.declared.card.Card.{Card}
use Rattle.cards.specs.declared.rank.Rank.{Rank}
use Rattle.cards.specs.declared.suit.Suit.{Suit}
use Rattle.cards.specs.declared.fault.TextFault.{TextFault}
use Rattle.cards.specs.declared.fault.TextFault.TheVariants.{TooShort, NoSuchRank, NoSuchSuit}
use Rattle.cards.specs.Ranks.{rank_letter, ranks}
use Rattle.cards.specs.Suits.{suit_letter, suits}

-- the first of a list that has this letter, or a fault where none has it
abbrev pub lettered : {X : Type 0} → (X → ℕ) → ℕ → TextFault → List X → Result X TextFault
lettered letter_of l fault [] = Err fault
lettered letter_of l fault (x ∷ xs) = if l == letter_of x then Ok x else lettered letter_of l fault xs

abbrev pub rank_lettered : ℕ → Result Rank TextFault
rank_lettered l = lettered rank_letter l (NoSuchRank l) ranks

abbrev pub suit_lettered : ℕ → Result Suit TextFault
suit_lettered l = lettered suit_letter l (NoSuchSuit l) suits

abbrev pub with_suit : Rank → Result Suit TextFault → Result Card TextFault
with_suit r (Ok s) = Ok (record { rank = r; suit = s })
with_suit r (Err e) = Err e

abbrev pub with_rank : Result Rank TextFault → Result Suit TextFault → Result Card TextFault
with_rank (Ok r) s = with_suit r s
with_rank (Err e) s = Err e

-- the card of two letters; the rank is judged first
abbrev pub card_lettered : ℕ → ℕ → Result Card TextFault
card_lettered r s = with_rank (rank_lettered r) (suit_lettered s)

abbrev pub card_letters : Card → List ℕ
card_letters c = rank_letter c.rank ∷ suit_letter c.suit ∷ []

-- the card found has these letters; where none is found, no card has them
abbrev pub WrittenSo : List ℕ → Result Card TextFault → Type 0
WrittenSo letters found = MatchResult found (λ c. card_letters c ≡ letters) (λ _. (c : Card) → card_letters c ≢ letters)

-- the card in the first two letters of a line
abbrev pub card_in_front : List ℕ → Result Card TextFault
card_in_front [] = Err TooShort
card_in_front (r ∷ []) = Err TooShort
card_in_front (r ∷ s ∷ rest) = card_lettered r s
