use Rattle.std.proofs.Common.{◌≡◌, ◌+◌, sym, subst, arith, rules}
use lib.Count.{ones, count_leading_zeros, count_trailing_zeros}
use Rattle.std.specs.Bool.{Decides}
use Rattle.std.proofs.lemmas.Bool.Decides.{nat_tests}
use Rattle.ranking.specs.Masks.{RunStart}
use Rattle.ranking.proofs.Straights.{run_start_is}
use Rattle.ranking.proofs.straight.run_start.Goals as goal
use Rattle.ranking.proofs.straight.run_start.Goals.{then-ones-eq5, else-ones-eq5}

pub returns : goal.returns
returns c =
    let m = c.args.mask in
    let tests : Decides c.if-ones-eq5.then_some ((ones m ≡ 5) × (count_leading_zeros 32 m + count_trailing_zeros 32 m ≡ 27)) =
    elim c.if-ones-eq5.branch [
      | then-ones-eq5 w ↦ (λ e. grind (arith, nat_tests), λ e. grind (arith, nat_tests))
      | else-ones-eq5 w ↦ (λ e. grind (arith, nat_tests), λ e. grind (arith, nat_tests))
    ] in
    subst (RunStart m) (sym c.then_some.ensures) (run_start_is m c.if-ones-eq5.then_some (search rules) tests)
