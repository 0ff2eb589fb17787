use Rattle.std.proofs.Common.{get_or, sym, ◌∙◌, arith, rules, tests}
use Rattle.std.proofs.lemmas.Iterator.{YieldsList-from_slice}
use Rattle.std.proofs.lemmas.Iterator.Search.{all_from_yields_List}
use Rattle.cards.specs.declared.card.Card.{Card}
use Rattle.cards.specs.contracts.suit.SuitPartialEq.TheImpl as suits
use Rattle.ranking.proofs.Hands.{any_card, all_same_suit, suit_of_first}
use Rattle.ranking.proofs.five.suited.Goals as goal

pub returns : goal.returns
returns c =
    let h = c.args.hand.now in
    let s = (get_or h 0 any_card).suit in
    all_from_yields_List (λ (x : Card). suits.ghosts.eq x.suit s) _ _ c.all.result c.all.ensures.ran (YieldsList-from_slice h c.iter.ensures.rest) (λ x b q k. search (rules, tests))
    ∙ all_same_suit s h ∙ sym (suit_of_first h any_card (omega arith))
