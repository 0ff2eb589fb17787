-- Entries that are computed: of two odds with one denominator the larger numerator is no worse.
use Rattle.std.specs.Prelude.{◌≡◌, ℕ, ◌*◌, ◌≤◌, Bool, true, Some, None, Option, if◌then◌else◌}
use Rattle.std.proofs.Common.{mul-le-mul_right, arith}
use Rattle.std.proofs.lemmas.Bool.Decides.{nat_tests}
use Rattle.odds.specs.declared.Odds.{Odds}
use Rattle.odds.specs.Figures.{in_range, figures, figures_in_range, odds_of}
use Rattle.odds.proofs.SameOdds.{figures_of_odds}
use Rattle.paytables.specs.Sheets.{NoWorse}

-- odds that were made have the figures that they were made of
has_figures : (odds : Odds) (fits : Bool) (n d : ℕ) → figures (Some odds) ≡ (if fits then Some (n, d) else None) → (odds.numerator ≡ n) × (odds.denominator ≡ d)
has_figures odds fits n d h = grind (arith, nat_tests)

-- made odds are in range, and a larger numerator that is not too large then is too
stays_in_range : (odds : Odds) (m n d : ℕ) → m ≤ n → n ≤ 1000 → figures (Some odds) ≡ figures_in_range m d → in_range n d ≡ true
stays_in_range odds m n d le most h = grind (arith, nat_tests)

compared : (m n d : ℕ) → m ≤ n → n ≤ 1000 → (e f : Option Odds) → figures e ≡ figures_in_range m d → figures f ≡ figures_in_range n d → NoWorse e f
compared m n d le most None f h k = tt
compared m n d le most (Some o) None h k = grind (arith, nat_tests, stays_in_range o m n d le most h)
compared m n d le most (Some o) (Some p) h k =
    let crossed : m * d ≤ n * d = mul-le-mul_right d le in
    grind (arith, nat_tests, has_figures o (in_range m d) m d h, has_figures p (in_range n d) n d k)

pub larger_numerator_no_worse : (m n d : ℕ) → m ≤ n → n ≤ 1000 → NoWorse (odds_of m d) (odds_of n d)
larger_numerator_no_worse m n d le most = compared m n d le most (odds_of m d) (odds_of n d) (figures_of_odds m d) (figures_of_odds n d)
