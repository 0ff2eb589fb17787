-- Entries listed by class, from class 0 up.
use Rattle.std.specs.Prelude.{Bool, true, false, not, ◌&&◌, List, [], ◌∷◌, Some, None, Option}
use Rattle.odds.specs.declared.Odds.{Odds}
use Rattle.odds.specs.Fractions.{lower}

-- `next` may stand for the class above that of `entry`: where `entry` is one so is `next`, and its odds are no lower
abbrev pub may_follow : Option Odds → Option Odds → Bool
may_follow None next = true
may_follow (Some odds) None = false
may_follow (Some odds) (Some better) = not (lower better odds)

-- each entry may follow the one before it, the first may follow `before`
abbrev pub rising_from : Option Odds → List (Option Odds) → Bool
rising_from before [] = true
rising_from before (entry ∷ rest) = may_follow before entry && rising_from entry rest

-- each entry may follow the one before it; nothing is below the first
abbrev pub rising : List (Option Odds) → Bool
rising = rising_from None
