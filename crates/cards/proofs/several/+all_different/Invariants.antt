use Rattle.std.proofs.Common.{length}
use Rattle.cards.proofs.several.+all_different.Given as goal

abbrev pub decreases-all-different : goal.decreases-all-different
decreases-all-different l = length l.cards.now
