-- Odds with the same figures are the same odds.
use Rattle.std.proofs.Common.{◌≡◌, ℕ, ◌≤◌, Bool, true, false, cond, T, leb, Some, None, Option, sym, refl, ap, ◌∙◌, arith}
use mathlib.Core.HLevel.{is_prop→PathP}
use native.Mathlib.Bridge.{le_prop}
use Rattle.std.proofs.lemmas.Option.{some_pair_parts}
use Rattle.std.proofs.lemmas.Bool.Decides.{nat_tests}
use Rattle.odds.specs.declared.Odds.{Odds}
use Rattle.odds.specs.Figures.{figures, figures_in_range, where_met, odds_of}

pub same_figures : (o p : Odds) → o.numerator ≡ p.numerator → o.denominator ≡ p.denominator → o ≡ p
same_figures o p n d = λ i. record {
  numerator = n i;
  denominator = d i;
  numerator_from_1 = is_prop→PathP (λ k. 1 ≤ n k) (λ k. le_prop) o.numerator_from_1 p.numerator_from_1 i;
  numerator_to_1000 = is_prop→PathP (λ k. n k ≤ 1000) (λ k. le_prop) o.numerator_to_1000 p.numerator_to_1000 i;
  denominator_from_1 = is_prop→PathP (λ k. 1 ≤ d k) (λ k. le_prop) o.denominator_from_1 p.denominator_from_1 i;
  denominator_to_100 = is_prop→PathP (λ k. d k ≤ 100) (λ k. le_prop) o.denominator_to_100 p.denominator_to_100 i;
}

pub same_entries : (e f : Option Odds) → figures e ≡ figures f → e ≡ f
same_entries None None h = refl
same_entries None (Some p) h = cc
same_entries (Some o) None h = cc
same_entries (Some o) (Some p) h = let both = some_pair_parts _ _ _ _ h in ap Some (same_figures o p both.0 both.1)

figures_where_met : (test : Bool) (then : T test → Option Odds) {fs : Option (ℕ × ℕ)} → ((t : T test) → figures (then t) ≡ fs)
    → figures (where_met test then) ≡ cond test fs None
figures_where_met true then h = h tt
figures_where_met false then h = refl

pub figures_of_odds : (n d : ℕ) → figures (odds_of n d) ≡ figures_in_range n d
unfolding odds_of
figures_of_odds n d =
    let each_test : figures (odds_of n d) ≡ cond (leb 1 n) (cond (leb n 1000) (cond (leb 1 d) (cond (leb d 100) (Some (n, d)) None) None) None) None
    = figures_where_met (leb 1 n) _ λ _. figures_where_met (leb n 1000) _ λ _.
    figures_where_met (leb 1 d) _ λ _. figures_where_met (leb d 100) _ λ _. refl in
    grind (arith, nat_tests)

-- so whatever has the figures is the odds of the definition
pub is_odds_of : (n d : ℕ) {e : Option Odds} → figures e ≡ figures_in_range n d → e ≡ odds_of n d
is_odds_of n d {e = e} h = same_entries e (odds_of n d) (h ∙ sym (figures_of_odds n d))
