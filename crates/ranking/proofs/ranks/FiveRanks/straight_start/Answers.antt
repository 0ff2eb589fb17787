use Rattle.std.proofs.Common.{rules}
use Rattle.ranking.proofs.Straights.{told_by}
use Rattle.ranking.proofs.ranks.FiveRanks.straight_start.Goals as goal

pub returns : goal.returns
returns c =
    let rs = c.args.self.numbers in
    let told = told_by rs c.args.self.lawful (search rules) c.mask-mask.ensures c.run_start.result c.run_start-2.result c.run_start.ensures c.run_start-2.ensures in
    rw (c.or.ensures, c.and.ensures) told
