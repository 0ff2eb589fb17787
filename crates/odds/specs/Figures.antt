-- The figures of odds, and which figures make odds.
use Rattle.std.specs.Prelude.{ℕ, Bool, true, false, if◌then◌else◌, ◌&&◌, T, Some, None, Option, nat_le}
use Rattle.std.proofs.Common.{leb→le}
use Rattle.odds.specs.declared.Odds.{Odds}

-- numerator 1 to 1,000, denominator 1 to 100
abbrev pub in_range : ℕ → ℕ → Bool
in_range numerator denominator = nat_le 1 numerator && (nat_le numerator 1000 && (nat_le 1 denominator && nat_le denominator 100))

-- the figures of an entry, if there is one
abbrev pub figures : Option Odds → Option (ℕ × ℕ)
figures None = None
figures (Some odds) = Some (odds.numerator, odds.denominator)

-- two figures, if they make odds
abbrev pub figures_in_range : ℕ → ℕ → Option (ℕ × ℕ)
figures_in_range numerator denominator = if in_range numerator denominator then Some (numerator, denominator) else None

-- what follows from a test that is met; nothing where it is not
abbrev pub where_met : (test : Bool) → (T test → Option Odds) → Option Odds
where_met true made = made tt
where_met false made = None

-- the odds with these figures, or none where one of them is out of its range
unfoldable pub odds_of : ℕ → ℕ → Option Odds
odds_of n d =
    where_met (nat_le 1 n) λ some_n.
    where_met (nat_le n 1000) λ n_within.
    where_met (nat_le 1 d) λ some_d.
    where_met (nat_le d 100) λ d_within.
    Some record {
      numerator = n;
      denominator = d;
      numerator_from_1 = leb→le 1 n some_n;
      numerator_to_1000 = leb→le n 1000 n_within;
      denominator_from_1 = leb→le 1 d some_d;
      denominator_to_100 = leb→le d 100 d_within;
    }
