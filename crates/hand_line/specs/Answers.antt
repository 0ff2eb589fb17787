-- What is written for a line of cards.
use Rattle.std.specs.Prelude.{ℕ, List, [], ◌∷◌, ◌++◌, Some, None, decimal, Option, slice_index}
use Rattle.std.specs.Option.{option_map}
use Rattle.cards.specs.declared.card.Card.{Card}
use Rattle.ranking.specs.declared.value.Value.{Value}
use Rattle.ranking.specs.Classes.{class_number}
use Rattle.best_hand.specs.Best.{best_hand}
use Rattle.hand_line.specs.declared.answer.Answer.{Answer}
use Rattle.hand_line.specs.Seven.{seven_cards}

-- seven cards are answered by the value of their best hand, anything else by none
abbrev pub answer_for : Option (List Card) → Answer
answer_for cards = record { best = option_map (λ seven. (best_hand seven).value) cards }

unfoldable pub answer_of : List ℕ → Answer
answer_of line = answer_for (seven_cards line)

-- a space (character 32), then a number
abbrev pub spaced : ℕ → List ℕ
spaced n = 32 ∷ decimal n

-- the letters of a value: the class and the five ranks with a space between; where there is none, `-` (character 45)
abbrev pub value_text : Option Value → List ℕ
value_text None = 45 ∷ []
value_text (Some v) =
    decimal (class_number v.class)
    ++ (spaced (slice_index v.ranks 0)
    ++ (spaced (slice_index v.ranks 1)
    ++ (spaced (slice_index v.ranks 2)
    ++ (spaced (slice_index v.ranks 3)
    ++ spaced (slice_index v.ranks 4)))))

-- the letters written for an answer
abbrev pub answer_text : Answer → List ℕ
answer_text a = value_text a.best
