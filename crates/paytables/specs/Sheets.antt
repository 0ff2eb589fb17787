-- What a sheet is, what law it keeps and what it pays.
use Rattle.std.specs.Prelude.{◌≡◌, ℕ, ◌<◌, ◌≤◌, false, Some, None, Option}
use Rattle.odds.specs.declared.Odds.{Odds}
use Rattle.odds.specs.Payment.{pays, RoundedDown}
use Rattle.odds.specs.Fractions.{lower}

-- to each class an entry or none
abbrev pub Sheet : Type 0
Sheet = ℕ → Option Odds

-- the second answer is no worse than the first: where the first has an entry so has the second, and at odds no lower
abbrev pub NoWorse : Option Odds → Option Odds → Type 0
NoWorse None second = Unit
NoWorse (Some odds) None = ⊥
NoWorse (Some odds) (Some better) = lower better odds ≡ false

-- the law that every paytable keeps
pub record Lawful (sheet : Sheet) : Type 0 where
  -- where a class has an entry, every better class has one, and its odds are no lower
  pub better_class_no_worse : (class better : ℕ) → class ≤ better → better ≤ 9 → NoWorse (sheet class) (sheet better)
  -- classes run 0 to 9
  pub nothing_above_nine : (class : ℕ) → 9 < class → sheet class ≡ None

-- what an entry pays on a wager; no entry pays nothing
abbrev pub entry_pays : Option Odds → ℕ → ℕ
entry_pays None wager = 0
entry_pays (Some odds) wager = pays odds wager

-- what a sheet pays at a class on a wager
abbrev pub paid_at : Sheet → ℕ → ℕ → ℕ
paid_at sheet class wager = entry_pays (sheet class) wager

-- paid × denominator never exceeds wager × numerator and falls short of it by less than the denominator; no entry pays nothing
abbrev pub RoundedDownAt : Option Odds → ℕ → ℕ → Type 0
RoundedDownAt None wager paid = paid ≡ 0
RoundedDownAt (Some odds) wager paid = RoundedDown odds wager paid
