-- The worked hands, computed from the definitions.
use Rattle.std.proofs.Common.{refl}
use Rattle.ranking.specs.Values.{value_of}
use Rattle.best_hand.specs.Best.{best_hand}
use Rattle.best_hand.specs.Worked.{WorkedHands}

pub worked_hands : WorkedHands
unfolding best_hand value_of
worked_hands = record {
  royal_flush = refl;
  ace_low_straight = refl;
  no_straight = refl;
  threes_full = refl;
  twos_full = refl;
  threes_beat_twos = refl;
}
