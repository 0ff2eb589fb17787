-- Seven different cards in a line of text.
use Rattle.std.specs.Prelude.{ℕ, if◌then◌else◌, ◌&&◌, List, length, Some, None, Option, ◌==◌}
use Rattle.cards.specs.declared.card.Card.{Card}
use Rattle.cards.specs.Several.{different, cards_of}

abbrev pub if_seven_different : Option (List Card) → Option (List Card)
if_seven_different None = None
if_seven_different (Some cs) = if length cs == 7 && different cs then Some cs else None

-- the cards of a line that is exactly seven different cards
abbrev pub seven_cards : List ℕ → Option (List Card)
seven_cards line = if_seven_different (cards_of line)
