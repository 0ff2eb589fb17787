-- What each class describes. A hand may meet several descriptions; its class is the best of them.
use Rattle.std.specs.Prelude.{ℕ, Bool, true, if◌then◌else◌, not, ◌&&◌, List, [], ◌∷◌, map, ◌==◌, nat_le}
use Rattle.cards.specs.declared.card.Card.{Card}
use Rattle.cards.specs.Ranks.{rank_number}
use Rattle.cards.specs.Suits.{suit_number, suits}
use Rattle.ranking.specs.declared.class.Class.{Class}
use Rattle.ranking.specs.declared.class.Class.TheVariants.{NoPair, OnePair, TwoPairs, ThreeOfAKind, Straight, Flush, FullHouse, FourOfAKind, StraightFlush, RoyalFlush}
use Rattle.ranking.specs.Counts.{held, some_of, some_rank}
use Rattle.ranking.specs.Straights.{run_from, straight}

abbrev pub ranks_of : List Card → List ℕ
ranks_of h = map (λ c. rank_number c.rank) h

-- how many cards of the hand have rank r
abbrev pub count : List Card → ℕ → ℕ
count h = held (ranks_of h)

abbrev pub all_of_suit : ℕ → List Card → Bool
all_of_suit s [] = true
all_of_suit s (c ∷ h) = suit_number c.suit == s && all_of_suit s h

-- all cards have the same suit
abbrev pub one_suit : List Card → Bool
one_suit h = some_of (λ s. all_of_suit s h) (map suit_number suits)

-- n cards of the same rank
abbrev pub of_a_kind : ℕ → (ℕ → ℕ) → Bool
of_a_kind n f = some_rank (λ r. nat_le n (f r))

-- m cards of one rank and n cards of another
abbrev pub of_two_kinds : ℕ → ℕ → (ℕ → ℕ) → Bool
of_two_kinds m n f = some_rank (λ r. nat_le m (f r) && some_rank (λ s. not (r == s) && nat_le n (f s)))

abbrev pub meets : Class → List Card → Bool
meets RoyalFlush h = one_suit h && run_from (count h) 10
meets StraightFlush h = one_suit h && straight (count h)
meets FourOfAKind h = of_a_kind 4 (count h)
meets FullHouse h = of_two_kinds 3 2 (count h)
meets Flush h = one_suit h
meets Straight h = straight (count h)
meets ThreeOfAKind h = of_a_kind 3 (count h)
meets TwoPairs h = of_two_kinds 2 2 (count h)
meets OnePair h = of_a_kind 2 (count h)
meets NoPair h = true

-- the first class of the list that the hand meets
abbrev pub first_met : List Class → List Card → Class
first_met [] h = NoPair
first_met (c ∷ cs) h = if meets c h then c else first_met cs h

-- the best class whose description the hand meets
abbrev pub class_of : List Card → Class
class_of h = first_met (RoyalFlush ∷ StraightFlush ∷ FourOfAKind ∷ FullHouse ∷ Flush ∷ Straight ∷ ThreeOfAKind ∷ TwoPairs ∷ OnePair ∷ []) h
