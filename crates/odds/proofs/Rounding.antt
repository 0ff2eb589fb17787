-- Rounding down, and the order of fractions, over plain numbers.
use Rattle.std.proofs.Common.{◌≡◌, ℕ, ◌*◌, ◌/◌, ◌<◌, ◌≤◌, le_trans, mul-le-mul_left, mul-le-mul_right, le_of_mul-le-mul_right, div-mul-le_self, ap, ◌∙◌, arith}
use Rattle.std.proofs.Math.Nat.{mul-div_right}
use Rattle.std.proofs.lemmas.Nat.{le-div}
use Rattle.odds.specs.LowerLaws.{NoLess}

-- more of a number that is divided brings no less
pub more_brings : (m n d : ℕ) → 1 ≤ d → m ≤ n → m / d ≤ n / d
more_brings m n d d_pos h = le-div (m / d) n d d_pos (le_trans (div-mul-le_self m d) h)

-- a fraction that is no less brings no less of any number
pub no_less_brings : (a b c d w : ℕ) → 1 ≤ b → 1 ≤ d → NoLess a b c d → (w * c) / d ≤ (w * a) / b
no_less_brings a b c d w b_pos d_pos h =
    let q = (w * c) / d in
    let whole : q * d * b ≤ w * c * b = mul-le-mul_right b (div-mul-le_self (w * c) d) in
    let crossed : w * (c * b) ≤ w * (a * d) = mul-le-mul_left w h in
    let both : q * b * d ≤ w * a * d = omega arith in
    le-div q (w * a) b b_pos (le_of_mul-le-mul_right both d_pos)

-- of the two denominators multiplied each fraction brings a whole number, so the smaller one brings less
pub less_brings_less : (a b c d : ℕ) → 1 ≤ b → 1 ≤ d → a * d < c * b → (b * d * a) / b < (b * d * c) / d
less_brings_less a b c d b_pos d_pos h =
    let first : (b * d * a) / b ≡ d * a = ap (λ n. n / b) (omega arith) ∙ mul-div_right (d * a) b_pos in
    let second : (b * d * c) / d ≡ b * c = ap (λ n. n / d) (omega arith) ∙ mul-div_right (b * c) d_pos in
    omega arith
