use Rattle.std.proofs.Common.{◌≡◌, ◌+◌, ◌-◌, ◌*◌, ◌++◌, take, drop, Ok, Err, sym, ap, ◌∙◌, arith, length-set}
use Rattle.std.proofs.lemmas.List.{take_more_set, take_all, drop-drop}
use Rattle.std.proofs.lemmas.Grind.{common_steps}
use Rattle.cards.specs.Letters.{card_in_front}
use Rattle.cards.specs.Several.{cards_in_front, letters_of}
use Rattle.cards.proofs.InFront.{behind, card_read, no_card, all_read}
use Rattle.cards.proofs.Written.{cards_written, none_written, in_err}
use Rattle.cards.proofs.reading.read_cards.Goals as goal

pub returns-in_err-card-clause-cards : goal.returns-in_err-card-clause-cards
returns-in_err-card-clause-cards g c =
    let n = g.row.N in
    let i = c.loop-card.card-index in
    let before = c.loop-card.rest.now in
    let fault_is : card_in_front before ≡ Err c.in_err-card.field-0.0 = c.in_err-card.ensures.card in
    let places = c.loop-card.invariant.places in
    let all : cards_in_front n c.args.line.now ≡ Err c.in_err-card.field-0.0 =
    c.loop-card.invariant.read ∙ no_card (n - i) (n - (i + 1)) (take i c.loop-card.card-items) _ before (omega arith) fault_is in
    grind (arith, common_steps)

pub returns-in_err-card-clause-written_so : goal.returns-in_err-card-clause-written_so
returns-in_err-card-clause-written_so g c =
    let n = g.row.N in
    let i = c.loop-card.card-index in
    let before = c.loop-card.rest.now in
    let places = c.loop-card.invariant.places in
    let all : cards_in_front n c.args.line.now ≡ Err c.in_err-card.field-0.0 =
    c.loop-card.invariant.read ∙ no_card (n - i) (n - (i + 1)) (take i c.loop-card.card-items) _ before (omega arith) c.in_err-card.ensures.card in
    in_err _ _ _ c.from_residual.ensures.0 (none_written n c.args.line.now _ all)

pub loop-card-preserved : goal.loop-card-preserved
loop-card-preserved g c =
    let n = g.row.N in
    let cs = c.loop-card.card-items in
    let i = c.loop-card.card-index in
    let before = c.loop-card.rest.now in
    let card = c.in_ok-card.field-0-0 in
    let rest = c.in_ok-card.field-0-1.now in
    let card_is : card_in_front before ≡ Ok card = c.in_ok-card.ensures.card in
    let rest_is : rest ≡ drop 2 before = c.in_ok-card.ensures.rest in
    let places = c.loop-card.invariant.places in
    record {
      places = length-set cs i _ ∙ places;
      read = c.loop-card.invariant.read ∙ card_read (n - i) (n - (i + 1)) (take i cs) card before rest (omega arith) card_is rest_is
          ∙ ap (λ l. behind l (cards_in_front (n - (i + 1)) rest)) (sym (take_more_set cs i card (omega arith)));
      rest = rest_is ∙ ap (drop 2) c.loop-card.invariant.rest ∙ drop-drop 2 (2 * i) c.args.line.now
          ∙ ap (λ k. drop k c.args.line.now) (omega arith);
    }

pub returns-clause-cards : goal.returns-clause-cards
returns-clause-cards g c =
    let cs = c.loop-card.card-items in
    let i = c.loop-card.card-index in
    let places = c.loop-card.invariant.places in
    c.loop-card.invariant.read ∙ all_read (g.row.N - i) (take i cs) c.loop-card.rest.now (omega arith) ∙ ap Ok (take_all i cs (omega arith))

pub returns-clause-written_so : goal.returns-clause-written_so
returns-clause-written_so g c =
    let line = c.args.line.now in
    let cs = c.loop-card.card-items in
    let i = c.loop-card.card-index in
    let places = c.loop-card.invariant.places in
    let all : i ≡ g.row.N = omega arith in
    let read : cards_in_front g.row.N line ≡ Ok cs =
    c.loop-card.invariant.read ∙ all_read (g.row.N - i) (take i cs) c.loop-card.rest.now (omega arith) ∙ ap Ok (take_all i cs (omega arith)) in
    cards_written g.row.N line cs read ∙ ap (λ l. letters_of cs ++ l) (sym (c.loop-card.invariant.rest ∙ ap (λ k. drop (2 * k) line) all))
