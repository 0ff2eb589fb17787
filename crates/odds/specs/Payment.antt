-- What odds pay on a wager.
use Rattle.std.specs.Prelude.{ℕ, ◌+◌, ◌*◌, ◌/◌, ◌<◌, ◌≤◌}
use Rattle.odds.specs.declared.Odds.{Odds}

-- wager × numerator / denominator, rounded down
unfoldable pub pays : Odds → ℕ → ℕ
pays odds wager = (wager * odds.numerator) / odds.denominator

-- Rounded down, and by less than one chip: paid × denominator never exceeds wager × numerator and falls short of it by less than the denominator.
abbrev pub RoundedDown : Odds → ℕ → ℕ → Type 0
RoundedDown odds wager paid =
    (paid * odds.denominator ≤ wager * odds.numerator)
    × (wager * odds.numerator < paid * odds.denominator + odds.denominator)
