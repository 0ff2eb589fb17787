use Rattle.std.proofs.Common.{sym, subst, rules}
use Rattle.cards.specs.Ranks.{rank_number}
use Rattle.ranking.specs.Counts.{AllRanks}
use Rattle.ranking.proofs.Hands.{any_card, ranks_lawful}
use Rattle.ranking.proofs.Mapped.{mapped_by}
use Rattle.ranking.proofs.ranks.FiveRanks.of.Goals as goal

pub invariant_of-result : goal.invariant_of-result
invariant_of-result c =
    let numbers_are =
    mapped_by _ (λ card. rank_number card.rank) any_card _ c.args.hand.now c.map.result 5 (search rules) c.map.ensures.items (λ card r f g call. search rules) in
    record { lawful = subst AllRanks (sym numbers_are) (ranks_lawful c.args.hand.now) }
