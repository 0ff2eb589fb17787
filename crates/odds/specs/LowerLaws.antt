-- The order of odds is total: it goes one way, and an order that is not broken step by step is not broken at all. The law that odds owe to the
-- search rests on it.
use Rattle.std.specs.Prelude.{◌≡◌, ℕ, ◌*◌, ◌≤◌, true, false}
use Rattle.std.proofs.Common.{mul-le-mul_right, le_of_mul-le-mul_right, arith}
use Rattle.std.proofs.lemmas.Bool.Decides.{nat_tests}
use Rattle.odds.specs.declared.Odds.{Odds}
use Rattle.odds.specs.Fractions.{lower}

-- a/b is no less than c/d, crosswise
abbrev pub NoLess : (a b c d : ℕ) → Type 0
NoLess a b c d = c * b ≤ a * d

-- the middle fraction falls out
pub no_less_chain : (a b c d e f : ℕ) → 1 ≤ d → NoLess a b c d → NoLess c d e f → NoLess a b e f
no_less_chain a b c d e f d_pos h k =
    let down : e * d * b ≤ c * f * b = mul-le-mul_right b k in
    let up : c * b * f ≤ a * d * f = mul-le-mul_right f h in
    let both : e * b * d ≤ a * f * d = omega arith in
    le_of_mul-le-mul_right both d_pos

-- odds that are not lower are no less as a fraction
pub not_lower : (o p : Odds) → lower o p ≡ false → NoLess o.numerator o.denominator p.numerator p.denominator
not_lower o p h = grind (arith, nat_tests)

pub lower_one_way : (o p : Odds) → lower o p ≡ true → lower p o ≡ false
lower_one_way o p h = grind (arith, nat_tests)

pub lower_chain : (o p q : Odds) → lower o p ≡ false → lower p q ≡ false → lower o q ≡ false
lower_chain o p q h k =
    let n = no_less_chain _ _ _ _ _ _ p.denominator_from_1 (not_lower o p h) (not_lower p q k) in
    grind (arith, nat_tests)
