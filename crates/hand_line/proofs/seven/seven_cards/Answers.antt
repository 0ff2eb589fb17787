use Rattle.std.proofs.Common.{◌≡◌, ◌<◌, length, drop, Ok, arith, sym, ap, ◌∙◌}
use Rattle.std.specs.Bool.{then_some}
use Rattle.std.proofs.lemmas.Bool.{eqb-false}
use Rattle.std.proofs.lemmas.Grind.{common_steps}
use Rattle.cards.specs.Several.{cards_in_front}
use Rattle.hand_line.proofs.Reading.{read_told, fewer_than_seven, seven_and_more, seven_alone}
use Rattle.hand_line.proofs.seven.seven_cards.Goals as goal

pub returns-then-not-is_empty : goal.returns-then-not-is_empty
returns-then-not-is_empty c =
    let cs = c.in_ok-cards.cards in
    let rest = c.in_ok-cards.rest.now in
    let read : cards_in_front 7 c.args.line.now ≡ Ok cs
    = read_told (λ p. cards_in_front 7 c.args.line.now ≡ Ok p.0) _ c.read_cards.result (cs, c.in_ok-cards.rest) c.read_cards.ensures.cards
    (sym c.ok.ensures.value ∙ c.in_ok-cards.was) in
    let behind : rest ≡ drop 14 c.args.line.now = grind (arith, common_steps) in
    let more : 0 < length rest = omega (arith, eqb-false (length rest) 0 (sym c.if-not-is_empty.ensures)) in
    record { seven_different = seven_and_more c.args.line.now rest cs read behind more }

pub returns : goal.returns
returns c =
    let cs = c.in_ok-cards.cards in
    let rest = c.in_ok-cards.rest.now in
    let read : cards_in_front 7 c.args.line.now ≡ Ok cs
    = read_told (λ p. cards_in_front 7 c.args.line.now ≡ Ok p.0) _ c.read_cards.result (cs, c.in_ok-cards.rest) c.read_cards.ensures.cards
    (sym c.ok.ensures.value ∙ c.in_ok-cards.was) in
    let behind : rest ≡ drop 14 c.args.line.now = grind (arith, common_steps) in
    record {
      seven_different = c.then_some.ensures ∙ ap (λ b. then_some b cs) c.all_different.ensures.different
          ∙ seven_alone c.args.line.now rest cs read behind (grind (arith, common_steps));
    }

pub returns-in_err-cards : goal.returns-in_err-cards
returns-in_err-cards c = record {
  seven_different = c.from_residual.ensures
      ∙ fewer_than_seven _ c.args.line.now c.read_cards.result c.read_cards.ensures.cards (sym c.ok.ensures.value ∙ c.in_err-cards.was);
}
