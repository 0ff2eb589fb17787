-- The best hand does not depend on the order of the cards.
use Rattle.std.proofs.Common.{◌≡◌, ℕ, ◌+◌, Bool, true, false, cond, ◌&&◌, eqb, List, [], ◌∷◌, refl, ap, ap₂, arith}
use mathlib.Core.Path.{fun_ext}
use Rattle.std.specs.List.Sorted.{IsPermutation}
use Rattle.std.specs.Prelude.{All}
use Rattle.std.proofs.lemmas.List.Elements.{All-map, All-contains, All-head, All-nil}
use Rattle.std.proofs.lemmas.List.Sorted.{IsPermutation-sym}
use Rattle.cards.specs.declared.card.Card.{Card}
use Rattle.cards.specs.Ranks.{rank_number}
use Rattle.cards.specs.Suits.{suit_number}
use Rattle.ranking.specs.declared.class.Class.{Class}
use Rattle.ranking.specs.declared.class.Class.TheVariants.{NoPair, OnePair, TwoPairs, ThreeOfAKind, Straight, Flush, FullHouse, FourOfAKind, StraightFlush, RoyalFlush}
use Rattle.ranking.specs.declared.value.Value.{Value}
use Rattle.ranking.specs.Counts.{some_of}
use Rattle.ranking.specs.Straights.{run_from, straight}
use Rattle.ranking.specs.Descriptions.{ranks_of, count, all_of_suit, one_suit, of_a_kind, of_two_kinds, meets, first_met, class_of}
use Rattle.ranking.specs.Values.{read_ranks, value_of}
use Rattle.ranking.specs.Order.{lower}
use Rattle.ranking.proofs.Arranged.{same_arrangement}
use Rattle.ranking.proofs.Lower.{lower_same}
use Rattle.best_hand.specs.Choices.{choose}
use Rattle.best_hand.specs.Best.{highest_value, values_of_choices, best_hand}
use Rattle.best_hand.proofs.HighestValue.{highest_value_is_one, none_exceeds_highest}
use Rattle.best_hand.proofs.Rearrangements.{AnyOrder, any_order, all_unmap, choices_carry}

-- a hand has as many cards of a rank in any order
count_any_order : (r : ℕ) → AnyOrder (λ h. count h r)
count_any_order r =
    any_order (λ h. count h r) (λ c n. cond (eqb (rank_number c.rank) r) 1 0 + n) (λ c h. refl) (λ c d n. omega arith)

and_exchanged : (a b c : Bool) → (a && (b && c)) ≡ (b && (a && c))
and_exchanged true b c = refl
and_exchanged false true c = refl
and_exchanged false false c = refl

-- its cards have the suit in any order
suit_any_order : (s : ℕ) → AnyOrder (all_of_suit s)
suit_any_order s =
    any_order (all_of_suit s) (λ c rest. eqb (suit_number c.suit) s && rest) (λ c h. refl)
    (λ c d rest. and_exchanged (eqb (suit_number c.suit) s) (eqb (suit_number d.suit) s) rest)

-- The value of a hand depends on how often it has each rank, and on whether it has one suit.
module _ (g h : List Card) (same_count : count h ≡ count g) (same_suit : one_suit h ≡ one_suit g) where
  same_meets : (c : Class) → meets c h ≡ meets c g
  same_meets RoyalFlush = ap₂ (λ s f. s && run_from f 10) same_suit same_count
  same_meets StraightFlush = ap₂ (λ s f. s && straight f) same_suit same_count
  same_meets FourOfAKind = ap (of_a_kind 4) same_count
  same_meets FullHouse = ap (of_two_kinds 3 2) same_count
  same_meets Flush = same_suit
  same_meets Straight = ap straight same_count
  same_meets ThreeOfAKind = ap (of_a_kind 3) same_count
  same_meets TwoPairs = ap (of_two_kinds 2 2) same_count
  same_meets OnePair = ap (of_a_kind 2) same_count
  same_meets NoPair = refl

  same_first_met : (cs : List Class) → first_met cs h ≡ first_met cs g
  same_first_met [] = refl
  same_first_met (c ∷ cs) = ap₂ (λ met rest. cond met c rest) (same_meets c) (same_first_met cs)

  same_class : class_of h ≡ class_of g
  same_class =
      same_first_met (RoyalFlush ∷ StraightFlush ∷ FourOfAKind ∷ FullHouse ∷ Flush ∷ Straight ∷ ThreeOfAKind ∷ TwoPairs ∷ OnePair ∷ [])

  same_ranks : read_ranks h ≡ read_ranks g
  same_ranks =
      ap₂ (λ low rest. cond low (5 ∷ 4 ∷ 3 ∷ 2 ∷ 1 ∷ []) rest) (ap (λ f. run_from f 1) same_count)
      (same_arrangement (ranks_of g) (ranks_of h) (λ r. ap (λ f. f r) same_count))

  same_value : value_of h ≡ value_of g
  unfolding value_of
  same_value = λ i. record { class = same_class i; ranks = same_ranks i }

-- a hand has the same value in any order
pub value_any_order : AnyOrder value_of
value_any_order g h s =
    same_value g h (fun_ext (λ r. count_any_order r g h s))
    (ap (λ test. some_of test (0 ∷ 1 ∷ 2 ∷ 3 ∷ [])) (fun_ext (λ n. suit_any_order n g h s)))

-- what holds of the values of all choices from the cards holds of those from the shuffled cards
values_carry : (P : Value → Type 0) (cards others : List Card) → IsPermutation cards others
    → All P (values_of_choices cards) → All P (values_of_choices others)
values_carry P cards others s all =
    All-map P value_of (choose 5 others)
    (choices_carry P cards others s 5 value_of value_any_order (all_unmap P value_of (choose 5 cards) all))

-- the highest of vs is not lower than w
abbrev Reaches : List Value → Value → Type 0
Reaches vs w = lower (highest_value vs) w ≡ false

-- what holds of all values holds of the highest
highest_holds : (P : Value → Type 0) (v : Value) (vs : List Value) → All P (v ∷ vs) → P (highest_value (v ∷ vs))
highest_holds P v vs all = All-contains P (v ∷ vs) (highest_value (v ∷ vs)) all (highest_value_is_one (v ∷ vs) (omega arith))

-- lists with the same values, in whatever order and however often, have the same highest value
same_highest : (vs ws : List Value) → ((P : Value → Type 0) → All P vs → All P ws) → ((P : Value → Type 0) → All P ws → All P vs)
    → highest_value ws ≡ highest_value vs
same_highest [] [] there back = refl
same_highest [] (w ∷ ws) there back = absurd (All-head (λ u. ⊥) w ws (there (λ u. ⊥) (All-nil _)))
same_highest (v ∷ vs) [] there back = absurd (All-head (λ u. ⊥) v vs (back (λ u. ⊥) (All-nil _)))
same_highest (v ∷ vs) (w ∷ ws) there back =
    lower_same (highest_value (w ∷ ws)) (highest_value (v ∷ vs))
    (highest_holds (Reaches (w ∷ ws)) v vs (back (Reaches (w ∷ ws)) (none_exceeds_highest (w ∷ ws))))
    (highest_holds (Reaches (v ∷ vs)) w ws (there (Reaches (v ∷ vs)) (none_exceeds_highest (v ∷ vs))))

-- The best hand is the same in any order of the cards.
pub best_in_any_order : (cards others : List Card) → IsPermutation cards others → best_hand others ≡ best_hand cards
unfolding best_hand
best_in_any_order cards others s =
    let same = same_highest (values_of_choices cards) (values_of_choices others) (λ P. values_carry P cards others s)
    (λ P. values_carry P others cards (IsPermutation-sym cards others s)) in
    λ i. record { value = same i }
