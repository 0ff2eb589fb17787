use Rattle.std.proofs.Common.{◌≡◌, ◌<◌, [], map, length, get_or, sym, ap, ◌∙◌, subst, arith, rules}
use Rattle.ranking.specs.declared.value.Value.{Value}
use Rattle.ranking.specs.declared.class.Class.TheVariants.{NoPair}
use Rattle.ranking.specs.Values.{value_of}
use Rattle.best_hand.specs.Best.{highest_value, values_of_choices, best_hand, HighestOfChoices}
use Rattle.best_hand.proofs.AnyOrder.{best_in_any_order}
use Rattle.best_hand.proofs.HighestValue.{highest_stands, highest_value_is_one, none_exceeds_highest}
use Rattle.ranking.proofs.Mapped.{mapped_by}
use Rattle.best_hand.proofs.best.BestHand.of_seven.Goals as goal

pub returns : goal.returns
unfolding best_hand
returns c =
    let cards = c.args.cards.now in
    let all = values_of_choices cards in
    let vs = c.map-values.result in
    let p = c.unwrap-first.result in
    let d : Value = record { class = NoPair; ranks = [] } in
    let values_are : vs ≡ all =
    mapped_by _ value_of [] _ c.choices.result vs 21 (search rules) c.map-values.ensures.items (λ hand v f g call. search rules)
    ∙ ap (map value_of) c.choices.ensures.in_order_of_places in
    let some_value : 0 < length all = omega (arith, ap length values_are, c.map-values.ensures.items.long) in
    let value_is : get_or vs p d ≡ highest_value all
    = highest_stands vs p d (sym c.highest.ensures.place ∙ c.unwrap-first.ensures) ∙ ap highest_value values_are in
    let hand_is : record { value = get_or vs p d } ≡ best_hand cards = λ i. record { value = value_is i } in
    record {
      hand = hand_is;
      highest = subst (HighestOfChoices cards) (sym value_is) (highest_value_is_one all some_value, none_exceeds_highest all);
      any_order = λ others shuffled. ap (λ hand. hand.value) (best_in_any_order cards others shuffled ∙ sym hand_is);
    }
