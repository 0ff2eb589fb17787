-- The best hand of seven cards.
use Rattle.std.specs.Prelude.{◌≡◌, false, List, [], ◌∷◌, map, All, Contains}
use Rattle.cards.specs.declared.card.Card.{Card}
use Rattle.ranking.specs.declared.value.Value.{Value}
use Rattle.ranking.specs.declared.class.Class.TheVariants.{NoPair}
use Rattle.ranking.specs.Values.{value_of}
use Rattle.ranking.specs.Order.{lower}
use Rattle.search.specs.Highest.{leading}
use Rattle.best_hand.specs.declared.best.BestHand.{BestHand}
use Rattle.best_hand.specs.Choices.{choose}

-- the highest of some values; there are none only for fewer than five cards, which no call has
abbrev pub highest_value : List Value → Value
highest_value [] = record { class = NoPair; ranks = [] }
highest_value (v ∷ vs) = (leading lower v vs).1

-- the values of all hands of five that the cards make
abbrev pub values_of_choices : List Card → List Value
values_of_choices cards = map value_of (choose 5 cards)

unfoldable pub best_hand : List Card → BestHand
best_hand cards = record { value = highest_value (values_of_choices cards) }

-- some choice of five has this value, and none has a higher one
abbrev pub HighestOfChoices : List Card → Value → Type 0
HighestOfChoices cards v = Contains (values_of_choices cards) v × All (λ w. lower v w ≡ false) (values_of_choices cards)
