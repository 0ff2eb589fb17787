-- The ranks and the suit of the cards of a hand.
use Rattle.std.proofs.Math.Bool.{or-false}
use Rattle.std.proofs.Common.{◌≡◌, zero, suc, ◌≤◌, Bool, true, ◌&&◌, eqb, List, [], ◌∷◌, ◌<◌, length, get_or, refl, ap₂, le_of_suc-le-suc, arith, rules}
use Rattle.std.specs.List.{list_all}
use Rattle.cards.specs.declared.card.Card.{Card}
use Rattle.cards.specs.declared.rank.Rank.{Rank}
use Rattle.cards.specs.declared.rank.Rank.TheVariants.{Two}
use Rattle.cards.specs.declared.suit.Suit.{Suit}
use Rattle.cards.specs.declared.suit.Suit.TheVariants.{Clubs}
use Rattle.cards.specs.contracts.suit.SuitPartialEq.TheImpl as suits
use Rattle.cards.specs.Ranks.{rank_number}
use Rattle.cards.specs.Suits.{suit_number}
use Rattle.ranking.specs.Counts.{some_of, AllRanks}
use Rattle.ranking.specs.Descriptions.{ranks_of, all_of_suit, one_suit}

-- a card to stand for what lies past a list's end
pub any_card : Card
any_card = record { rank = Two; suit = Clubs }

rank_in_range : (r : Rank) → (2 ≤ rank_number r) × (rank_number r ≤ 14)
rank_in_range r = search rules

pub ranks_lawful : (h : List Card) → AllRanks (ranks_of h)
ranks_lawful [] k h = absurd (omega arith)
ranks_lawful (c ∷ h) zero k = rank_in_range c.rank
ranks_lawful (c ∷ h) (suc n) k = ranks_lawful h n (le_of_suc-le-suc k)

same_suit : (s t : Suit) → suits.ghosts.eq s t ≡ eqb (suit_number s) (suit_number t)
same_suit s t = search rules

pub all_same_suit : (s : Suit) (h : List Card) → list_all (λ c. suits.ghosts.eq c.suit s) h ≡ all_of_suit (suit_number s) h
all_same_suit s [] = refl
all_same_suit s (c ∷ h) = ap₂ ◌&&◌ (same_suit c.suit s) (all_same_suit s h)

with_suit : (s : Suit) (h : List Card) → some_of (λ k. eqb (suit_number s) k && all_of_suit k h) (0 ∷ 1 ∷ 2 ∷ 3 ∷ []) ≡ all_of_suit (suit_number s) (record { rank = Two; suit = s } ∷ h)
with_suit s h = search (rules, or-false)

-- a hand is of one suit where all have the suit of the first
pub suit_of_first : (h : List Card) (d : Card) → 0 < length h → one_suit h ≡ all_of_suit (suit_number (get_or h 0 d).suit) h
suit_of_first [] d h = absurd (omega arith)
suit_of_first (c ∷ h) d _ = with_suit c.suit h

-- four tests joined from the left are the four joined from the right
pub and_four : (x y z w : Bool) → (((x && y) && z) && w) ≡ (x && (y && (z && (w && true))))
and_four x y z w = search rules
