-- The sheet at a rate keeps the law: more classes, more halves.
use Rattle.std.specs.Prelude.{◌≡◌, ℕ, ◌*◌, ◌≤◌, min, Option}
use Rattle.std.proofs.Common.{mul-le-mul_left, arith}
use Rattle.std.proofs.lemmas.Bool.Decides.{nat_tests}
use Rattle.odds.specs.declared.Odds.{Odds}
use Rattle.odds.specs.Figures.{odds_of}
use Rattle.paytables.specs.Sheets.{NoWorse, Lawful}
use Rattle.sheet_tests.specs.Computed.{larger_numerator_no_worse}
use Rattle.sheet_tests.specs.declared.rate_sheet.RateSheet.{RateSheet}
use Rattle.sheet_tests.specs.RateSheets.{rate_sheet}

module _ (sheet : RateSheet) where
  abbrev computed : ℕ → Option Odds
  computed class = odds_of (min (sheet.halves * class) 1000) 2

  to_nine : (class : ℕ) → class ≤ 9 → rate_sheet sheet class ≡ computed class
  to_nine class h = grind (arith, nat_tests)

  no_worse : (class better : ℕ) → class ≤ better → NoWorse (computed class) (computed better)
  no_worse class better h =
      let more : sheet.halves * class ≤ sheet.halves * better = mul-le-mul_left sheet.halves h in
      larger_numerator_no_worse _ _ 2 (omega arith) (omega arith)

  pub rate_sheet_is_lawful : Lawful (rate_sheet sheet)
  rate_sheet_is_lawful = record {
    better_class_no_worse = λ class better h k. rw (to_nine class (omega arith), to_nine better k) (no_worse class better h);
    nothing_above_nine = λ class h. grind (arith, nat_tests);
  }
