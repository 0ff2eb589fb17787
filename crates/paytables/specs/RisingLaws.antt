-- A list of ten entries in which each may follow the one before it keeps the law of a paytable. The law that printed sheets owe rests on it.
use Rattle.std.specs.Prelude.{◌≡◌, ℕ, zero, suc, ◌<◌, ◌≤◌, true, List, [], ◌∷◌, length, Some, None, Option, slice_index_or}
use Rattle.std.proofs.Common.{not-suc-le-zero, le_of_suc-le-suc, arith}
use Rattle.std.proofs.lemmas.List.{get_or_past}
use Rattle.std.proofs.lemmas.Bool.{and_parts}
use Rattle.std.proofs.lemmas.Bool.Decides.{nat_tests}
use Rattle.odds.specs.declared.Odds.{Odds}
use Rattle.odds.specs.LowerLaws.{lower_chain}
use Rattle.paytables.specs.Sheets.{NoWorse, Lawful}
use Rattle.paytables.specs.Lists.{may_follow, rising_from, rising}
use Rattle.paytables.specs.Makes.{listed}

pub test_tells : (e f : Option Odds) → may_follow e f ≡ true → NoWorse e f
test_tells None f h = tt
test_tells (Some o) None h = cc
test_tells (Some o) (Some p) h = grind (arith, nat_tests)

pub no_worse_itself : (e : Option Odds) → NoWorse e e
no_worse_itself None = tt
no_worse_itself (Some o) = grind (arith, nat_tests)

pub no_worse_chain : (e f g : Option Odds) → NoWorse e f → NoWorse f g → NoWorse e g
no_worse_chain None f g h k = tt
no_worse_chain (Some o) None g h k = absurd h
no_worse_chain (Some o) (Some p) None h k = absurd k
no_worse_chain (Some o) (Some p) (Some q) h k = lower_chain q p o k h

-- whatever stands later in a rising list is no worse than what comes before it all
pub no_worse_than_before : (before : Option Odds) (es : List (Option Odds)) → rising_from before es ≡ true → (k : ℕ) → k < length es
    → NoWorse before (slice_index_or es k None)
no_worse_than_before before [] h k r = absurd (not-suc-le-zero r)
no_worse_than_before before (e ∷ es) h zero r = test_tells before e (and_parts _ _ h).0
no_worse_than_before before (e ∷ es) h (suc k) r =
    let both = and_parts _ _ h in
    no_worse_chain before e _ (test_tells before e both.0) (no_worse_than_before e es both.1 k (le_of_suc-le-suc r))

pub later_no_worse : (before : Option Odds) (es : List (Option Odds)) → rising_from before es ≡ true → (j k : ℕ) → j ≤ k → k < length es
    → NoWorse (slice_index_or es j None) (slice_index_or es k None)
later_no_worse before [] h j k l r = absurd (not-suc-le-zero r)
later_no_worse before (e ∷ es) h zero zero l r = no_worse_itself e
later_no_worse before (e ∷ es) h zero (suc k) l r = no_worse_than_before e es (and_parts _ _ h).1 k (le_of_suc-le-suc r)
later_no_worse before (e ∷ es) h (suc j) zero l r = absurd (not-suc-le-zero l)
later_no_worse before (e ∷ es) h (suc j) (suc k) l r = later_no_worse e es (and_parts _ _ h).1 j k (le_of_suc-le-suc l) (le_of_suc-le-suc r)

pub rising_is_lawful : (es : List (Option Odds)) (ten : length es ≡ 10) → rising es ≡ true → Lawful (listed es)
rising_is_lawful es ten h = record {
  better_class_no_worse = λ class better l b. later_no_worse None es h class better l (omega arith);
  nothing_above_nine = λ class l. get_or_past es class None (omega arith);
}
