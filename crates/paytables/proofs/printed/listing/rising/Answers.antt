use Rattle.std.proofs.Common.{rules}
use Rattle.std.proofs.lemmas.Fn.{always_returns_same}
use Rattle.paytables.specs.Lists.{may_follow}
use Rattle.paytables.proofs.Rising.{neighbours_tell}
use Rattle.paytables.proofs.printed.listing.rising.Goals as goal

pub returns : goal.returns
returns c = neighbours_tell _ _ (c.is_sorted_by.ensures.cases may_follow (always_returns_same _ _ _ (λ a r f call. search rules)))
