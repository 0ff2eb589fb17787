-- What a lawful sheet pays, law by law.
use Rattle.std.proofs.Common.{◌≡◌, ℕ, ◌≤◌, Some, None, Option, refl, ap, ◌∙◌, zero-le}
use Rattle.odds.specs.declared.Odds.{Odds}
use Rattle.odds.proofs.Payments.{pays_rounded_down, larger_wager_pays_no_less, no_lower_odds_pay_no_less}
use Rattle.paytables.specs.Sheets.{Sheet, NoWorse, Lawful, entry_pays, paid_at, RoundedDownAt}

pub no_worse_pays_no_less : (first second : Option Odds) → NoWorse first second → (wager : ℕ) → entry_pays first wager ≤ entry_pays second wager
no_worse_pays_no_less None second h wager = zero-le
no_worse_pays_no_less (Some odds) None h wager = absurd h
no_worse_pays_no_less (Some odds) (Some better) h wager = no_lower_odds_pay_no_less better odds h wager

pub entry_pays_larger_no_less : (entry : Option Odds) (wager larger : ℕ) → wager ≤ larger → entry_pays entry wager ≤ entry_pays entry larger
entry_pays_larger_no_less None wager larger h = zero-le
entry_pays_larger_no_less (Some odds) wager larger h = larger_wager_pays_no_less odds wager larger h

-- what an entry pays is rounded down
pub entry_rounded_down : (entry : Option Odds) (wager : ℕ) → RoundedDownAt entry wager (entry_pays entry wager)
entry_rounded_down None wager = refl
entry_rounded_down (Some odds) wager = pays_rounded_down odds wager

-- what is paid on the entry that a sheet answers is what the sheet pays
pub answered_entry_is_paid : (sheet : Sheet) (class wager : ℕ) {entry : Option Odds} {paid : ℕ} → entry ≡ sheet class → paid ≡ entry_pays entry wager
    → paid ≡ paid_at sheet class wager
answered_entry_is_paid sheet class wager is paid = paid ∙ ap (λ entry. entry_pays entry wager) is

-- what a sheet pays is rounded down
pub paid_rounded_down : (sheet : Sheet) (class wager paid : ℕ) → paid ≡ paid_at sheet class wager → RoundedDownAt (sheet class) wager paid
paid_rounded_down sheet class wager paid e = rw e (entry_rounded_down (sheet class) wager)

module _ (sheet : Sheet) (class wager : ℕ) where
  pub better_class_pays_no_less : Lawful sheet → (better : ℕ) → class ≤ better → better ≤ 9 → paid_at sheet class wager ≤ paid_at sheet better wager
  better_class_pays_no_less law better h k = no_worse_pays_no_less (sheet class) (sheet better) (law.better_class_no_worse class better h k) wager

  pub larger_wager_is_paid_no_less : (larger : ℕ) → wager ≤ larger → paid_at sheet class wager ≤ paid_at sheet class larger
  larger_wager_is_paid_no_less larger h = entry_pays_larger_no_less (sheet class) wager larger h
