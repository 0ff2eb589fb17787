use Rattle.std.proofs.Common.{◌≡◌, drop}
use Rattle.ranking.specs.Masks.{masked}
use Rattle.ranking.proofs.ranks.FiveRanks.mask.Given as goal

-- the ranks that are left give the rest of the mask
abbrev pub invariant-loop-r : goal.invariant-loop-r
invariant-loop-r l = masked l.mask (drop l.r-index l.r-items) ≡ masked 0 l.r-items
