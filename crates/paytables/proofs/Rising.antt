-- A list of ten entries that keeps the law of a paytable rises from entry to entry, and its neighbours tell whether it does.
use Rattle.std.proofs.Common.{◌≡◌, ℕ, zero, suc, add-one, ◌<◌, ◌≤◌, Bool, true, false, not, List, [], ◌∷◌, length, drop, Some, None, Option, get_or, refl, sym, ap, ◌∙◌, arith}
use Rattle.std.specs.List.{IsAllAdjacentAnswer}
use Rattle.std.proofs.lemmas.List.{drop_more, drop_all}
use Rattle.std.proofs.lemmas.Bool.Decides.{nat_tests}
use Rattle.odds.specs.declared.Odds.{Odds}
use Rattle.paytables.specs.Sheets.{NoWorse, Lawful}
use Rattle.paytables.specs.Lists.{may_follow, rising_from, rising}
use Rattle.paytables.specs.Makes.{listed}

-- where an entry is no worse than the one before it, it may follow that one
pub told_test : (e f : Option Odds) → NoWorse e f → true ≡ may_follow e f
told_test None f h = refl
told_test (Some o) None h = absurd h
told_test (Some o) (Some p) h = sym (ap not h)

-- where every entry may follow the one before it, the list rises
pub neighbours_rise : (e : Option Odds) (es : List (Option Odds))
    → ((k : ℕ) → k < length es → true ≡ may_follow (get_or (e ∷ es) k None) (get_or es k None)) → rising_from e es ≡ true
neighbours_rise e [] h = refl
neighbours_rise e (f ∷ es) h =
    let here : true ≡ may_follow e f = h 0 (omega arith) in
    let rest = neighbours_rise f es (λ k l. h (suc k) (omega arith)) in
    grind (arith, nat_tests)

-- where some entry may not, it does not
neighbours_fall : (e : Option Odds) (es : List (Option Odds)) (k : ℕ) → k < length es
    → false ≡ may_follow (get_or (e ∷ es) k None) (get_or es k None) → rising_from e es ≡ false
neighbours_fall e [] k l h = absurd (omega arith)
neighbours_fall e (f ∷ es) zero l h = grind (arith, nat_tests)
neighbours_fall e (f ∷ es) (suc k) l h = let rest = neighbours_fall f es k (omega arith) h in grind (arith, nat_tests)

pub neighbours_tell : (es : List (Option Odds)) (answer : Bool)
    → IsAllAdjacentAnswer (λ e next b. b ≡ may_follow e next) es answer → answer ≡ rising es
neighbours_tell [] true h = refl
neighbours_tell [] false h = absurd (omega arith)
neighbours_tell (e ∷ es) true h = sym (neighbours_rise e es (λ k l. rw add-one at (h k None (omega arith))))
neighbours_tell (e ∷ es) false h = sym (neighbours_fall e es h.0 (omega arith) (rw add-one at (h.2 None)))

pub lawful_is_rising : (es : List (Option Odds)) → length es ≡ 10 → Lawful (listed es) → rising es ≡ true
lawful_is_rising [] ten law = refl
lawful_is_rising (e ∷ es) ten law = neighbours_rise e es (λ k l. told_test _ _ (law.better_class_no_worse k (suc k) (omega arith) (omega arith)))

module _ (es : List (Option Odds)) (ten : length es ≡ 10) where
  -- one turn of a walk through a list: where the next entry may not follow the one before it, the list does not rise
  pub one_entry_worse : (before : Option Odds) (i : ℕ) (d : Option Odds) → i < 10 → may_follow before (get_or es i d) ≡ false
      → rising_from before (drop i es) ≡ rising es → rising es ≡ false
  one_entry_worse before i d r h k =
      let next = ap (rising_from before) (drop_more es i d (omega arith)) in grind (arith, nat_tests)

  -- at the end nothing is left that could fall, so the list rises
  pub none_left : (before : Option Odds) (i : ℕ) → 10 ≤ i → rising_from before (drop i es) ≡ rising es → rising es ≡ true
  none_left before i r k = sym k ∙ ap (rising_from before) (drop_all i es (omega arith))
