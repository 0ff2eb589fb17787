-- The order of odds as fractions.
use Rattle.std.specs.Prelude.{◌*◌, Bool, nat_lt}
use Rattle.odds.specs.declared.Odds.{Odds}

-- a/b is lower than c/d where a × d is less than c × b: crosswise, so that nothing is rounded
abbrev pub lower : Odds → Odds → Bool
lower o p = nat_lt (o.numerator * p.denominator) (p.numerator * o.denominator)
