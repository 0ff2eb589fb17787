-- What odds pay, law by law.
use Rattle.std.proofs.Common.{◌≡◌, ℕ, ◌*◌, ◌<◌, ◌≤◌, true, false, mul-le-mul_right, div-mul-le_self, rules}
use Rattle.std.proofs.Math.Nat.{lt-div-mul-add}
use Rattle.std.proofs.lemmas.Bool.Decides.{nat_tests}
use Rattle.odds.specs.declared.Odds.{Odds}
use Rattle.odds.specs.Payment.{pays, RoundedDown}
use Rattle.odds.specs.Fractions.{lower}
use Rattle.odds.specs.LowerLaws.{not_lower}
use Rattle.odds.proofs.Rounding.{more_brings, no_less_brings, less_brings_less}

pub pays_rounded_down : (odds : Odds) (wager : ℕ) → RoundedDown odds wager (pays odds wager)
unfolding pays
pays_rounded_down odds wager = (div-mul-le_self _ _, lt-div-mul-add odds.denominator_from_1)

pub larger_wager_pays_no_less : (odds : Odds) (v w : ℕ) → v ≤ w → pays odds v ≤ pays odds w
unfolding pays
larger_wager_pays_no_less odds v w h = more_brings _ _ _ odds.denominator_from_1 (mul-le-mul_right odds.numerator h)

pub no_lower_odds_pay_no_less : (o p : Odds) → lower o p ≡ false → (wager : ℕ) → pays p wager ≤ pays o wager
unfolding pays
no_lower_odds_pay_no_less o p h wager =
    no_less_brings _ _ _ _ wager o.denominator_from_1 p.denominator_from_1 (not_lower o p h)

-- on the two denominators multiplied nothing is rounded, so that lower odds pay less there
pub lower_odds_pay_less : (o p : Odds) → lower o p ≡ true → (wager : ℕ) × (pays o wager < pays p wager)
unfolding pays
lower_odds_pay_less o p h =
    (o.denominator * p.denominator, less_brings_less _ _ _ _ o.denominator_from_1 p.denominator_from_1 (search (rules, nat_tests)))
