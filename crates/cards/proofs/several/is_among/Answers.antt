use Rattle.std.proofs.Common.{◌∙◌}
use Rattle.cards.proofs.Different.{any_same_is_among}
use Rattle.cards.proofs.several.is_among.Goals as goal

pub returns : goal.returns
returns c = record { among = c.contains.ensures.value ∙ any_same_is_among c.args.card c.args.others.now }
