-- Hands worked out from the written rules.
use Rattle.std.specs.Prelude.{◌≡◌, ℕ, true, List, [], ◌∷◌, Some, codes, Option}
use Rattle.std.specs.Option.{option_map}
use Rattle.cards.specs.Several.{cards_of}
use Rattle.ranking.specs.declared.class.Class.{Class}
use Rattle.ranking.specs.declared.class.Class.TheVariants.{NoPair, Straight, FullHouse, RoyalFlush}
use Rattle.ranking.specs.declared.value.Value.{Value}
use Rattle.ranking.specs.Order.{lower}
use Rattle.best_hand.specs.Best.{best_hand}

-- the value of the best hand of the cards that a text holds
abbrev pub best_value_of : List ℕ → Option Value
best_value_of text = option_map (λ cards. (best_hand cards).value) (cards_of text)

abbrev pub valued : Class → List ℕ → Value
valued c rs = record { class = c; ranks = rs }

pub record WorkedHands : Type 0 where
  -- a royal flush counts before the pair of twos beside it
  pub royal_flush : best_value_of (codes "AhKhQhJhTh2c2d") ≡ Some (valued RoyalFlush (14 ∷ 13 ∷ 12 ∷ 11 ∷ 10 ∷ []))
  -- the ace counts 1 below 2
  pub ace_low_straight : best_value_of (codes "Ac2d3h4s5c9dKd") ≡ Some (valued Straight (5 ∷ 4 ∷ 3 ∷ 2 ∷ 1 ∷ []))
  -- and joins the ends nowhere else
  pub no_straight : best_value_of (codes "QcKdAh2s3c7d9h") ≡ Some (valued NoPair (14 ∷ 13 ∷ 12 ∷ 9 ∷ 7 ∷ []))
  -- ties are read by groups, not by single cards: threes full of fours beat twos full of aces
  pub threes_full : best_value_of (codes "3c3d3h4c4d") ≡ Some (valued FullHouse (3 ∷ 3 ∷ 3 ∷ 4 ∷ 4 ∷ []))
  pub twos_full : best_value_of (codes "2c2d2hAcAd") ≡ Some (valued FullHouse (2 ∷ 2 ∷ 2 ∷ 14 ∷ 14 ∷ []))
  pub threes_beat_twos : lower (valued FullHouse (2 ∷ 2 ∷ 2 ∷ 14 ∷ 14 ∷ [])) (valued FullHouse (3 ∷ 3 ∷ 3 ∷ 4 ∷ 4 ∷ [])) ≡ true
