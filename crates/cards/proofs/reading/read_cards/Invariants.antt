use Rattle.std.proofs.Common.{◌≡◌, ◌*◌, ◌-◌, length, take, drop}
use Rattle.cards.specs.Several.{cards_in_front}
use Rattle.cards.proofs.InFront.{behind}
use Rattle.cards.proofs.reading.read_cards.Given as goal

-- the cards read so far stand in front of those that the rest of the line holds
abbrev pub invariant-loop-card : goal.invariant-loop-card
invariant-loop-card g l = record {
  places : length l.card-items ≡ g.row.N;
  read : cards_in_front g.row.N l.line ≡ behind (take l.card-index l.card-items) (cards_in_front (g.row.N - l.card-index) l.rest);
  rest : l.rest ≡ drop (2 * l.card-index) l.line;
}
