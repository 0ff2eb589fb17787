-- The class of a hand is the best that it meets, and the tests of the code find it.
use Rattle.std.specs.Prelude.{◌≡◌, ℕ, suc, ◌<◌, ◌≤◌, Bool, true, false, cond, ◌&&◌, List, nat_le, refl}
use Rattle.std.proofs.Common.{sym, ap, ◌∙◌, ⊎_elim, arith, lit≤, rules}
use Rattle.std.proofs.lemmas.Bool.{cases_eq}
use Rattle.cards.specs.declared.card.Card.{Card}
use Rattle.ranking.specs.declared.class.Class.{Class}
use Rattle.ranking.specs.declared.class.Class.TheVariants.{NoPair, OnePair, TwoPairs, ThreeOfAKind, Straight, Flush, FullHouse, FourOfAKind, StraightFlush, RoyalFlush}
use Rattle.ranking.specs.Classes.{class_number}
use Rattle.ranking.specs.Straights.{run_from, straight}
use Rattle.ranking.specs.Descriptions.{count, one_suit, of_a_kind, of_two_kinds, meets, class_of}
use Rattle.ranking.specs.Groups.{group_class, joined_class}
use Rattle.ranking.specs.Values.{BestDescribed}

pub same_number : (c d : Class) → class_number c ≡ class_number d → c ≡ d
same_number c d e = search rules

highest_number : (c : Class) → class_number c ≤ 9
highest_number c = search rules

module _ (h : List Card) where
  -- c is met, its number is at most n, and no better class up to n is met
  abbrev BestTo : ℕ → Class → Type 0
  BestTo n c = (meets c h ≡ true) × (class_number c ≤ n) × ((d : Class) → class_number c < class_number d → class_number d ≤ n → meets d h ≡ false)

  -- one class more: it is the best if it is met, and changes nothing if it is not
  one_more : (n : ℕ) (c best : Class) → class_number c ≡ suc n → BestTo n best → BestTo (suc n) (cond (meets c h) c best)
  one_more n c best e b = go (meets c h) refl
    where
      go : (met : Bool) → meets c h ≡ met → BestTo (suc n) (cond met c best)
      go true t = (t, omega arith, λ d more upto. absurd (omega arith))
      go false t = (
        b.0,
        omega (arith, b.1),
        λ d more upto.
            ⊎_elim (λ same. ap (λ x. meets x h) (same_number d c (same ∙ sym e)) ∙ t) (λ other. b.2 d more (omega arith)) (cases_eq (class_number d) (suc n)),
      )

  pub class_is_best : BestDescribed h (class_of h)
  class_is_best =
      let b0 : BestTo 0 NoPair = (refl, lit≤ tt, λ d more upto. absurd (omega arith)) in
      let b1 = one_more 0 OnePair _ refl b0 in
      let b2 = one_more 1 TwoPairs _ refl b1 in
      let b3 = one_more 2 ThreeOfAKind _ refl b2 in
      let b4 = one_more 3 Straight _ refl b3 in
      let b5 = one_more 4 Flush _ refl b4 in
      let b6 = one_more 5 FullHouse _ refl b5 in
      let b7 = one_more 6 FourOfAKind _ refl b6 in
      let b8 = one_more 7 StraightFlush _ refl b7 in
      let b9 = one_more 8 RoyalFlush _ refl b8 in
      (b9.0, λ d more. b9.2 d more (highest_number d))

-- which class the five tests of groups give
abbrev pub pick : Bool → Bool → Bool → Bool → Bool → Class
pick four full three two_pairs pair = cond four FourOfAKind (cond full FullHouse (cond three ThreeOfAKind (cond two_pairs TwoPairs (cond pair OnePair NoPair))))

-- groups better than a flush stand where the list of classes has them
joined_groups : (s st four full three two_pairs pair : Bool)
    → cond (nat_le 6 (class_number (pick four full three two_pairs pair))) (pick four full three two_pairs pair) (cond s Flush (cond st Straight (pick four full three two_pairs pair)))
    ≡ cond four FourOfAKind (cond full FullHouse (cond s Flush (cond st Straight (cond three ThreeOfAKind (cond two_pairs TwoPairs (cond pair OnePair NoPair))))))
joined_groups s st four full three two_pairs pair = search rules

-- the class that the code joins together is the class of the hand
pub joined_is_class : (h : List Card) → joined_class (one_suit h) (straight (count h)) (run_from (count h) 10) (group_class (count h)) ≡ class_of h
joined_is_class h =
    let f = count h in
    let s = one_suit h in
    ap (λ c. cond (s && run_from f 10) RoyalFlush (cond (s && straight f) StraightFlush c))
    (joined_groups s (straight f) (of_a_kind 4 f) (of_two_kinds 3 2 f) (of_a_kind 3 f) (of_two_kinds 2 2 f) (of_a_kind 2 f))

pub same_joined : {s s' t t' u u' : Bool} {g g' : Class} → s ≡ s' → t ≡ t' → u ≡ u' → g ≡ g' → joined_class s t u g ≡ joined_class s' t' u' g'
same_joined a b c d = λ i. joined_class (a i) (b i) (c i) (d i)
