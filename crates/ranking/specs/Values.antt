-- The value of a hand of five cards: its class and its five ranks.
use Rattle.std.specs.Prelude.{◌≡◌, ℕ, ◌<◌, ◌≤◌, true, false, if◌then◌else◌, ◌⊎◌, List, [], ◌∷◌, length, MatchBool, slice_index}
use Rattle.cards.specs.declared.card.Card.{Card}
use Rattle.ranking.specs.declared.class.Class.{Class}
use Rattle.ranking.specs.declared.value.Value.{Value}
use Rattle.ranking.specs.Classes.{class_number}
use Rattle.ranking.specs.Counts.{held}
use Rattle.ranking.specs.Straights.{run_from}
use Rattle.ranking.specs.Descriptions.{ranks_of, count, meets, class_of}
use Rattle.ranking.specs.Arrangement.{arranged}

-- a straight with the ace low reads 5 4 3 2 1
abbrev pub read_ranks : List Card → List ℕ
read_ranks h = if run_from (count h) 1 then 5 ∷ 4 ∷ 3 ∷ 2 ∷ 1 ∷ [] else arranged (ranks_of h)

unfoldable pub value_of : List Card → Value
value_of h = record { class = class_of h; ranks = read_ranks h }

-- The class is met, and no better one is.
abbrev pub BestDescribed : List Card → Class → Type 0
BestDescribed h c = (meets c h ≡ true) × ((d : Class) → class_number c < class_number d → meets d h ≡ false)

-- rank r is read before s: more cards of the hand have it, or as many and it is no lower
abbrev pub ComesBefore : List Card → ℕ → ℕ → Type 0
ComesBefore h r s = (count h s < count h r) ⊎ ((count h r ≡ count h s) × (s ≤ r))

-- The ranks read are those of the hand, each as often as the hand has it, and each comes before those after it;
-- but a straight with the ace low is read 5 4 3 2 1.
abbrev pub WellRead : List Card → List ℕ → Type 0
WellRead h rs = MatchBool (run_from (count h) 1)
    (rs ≡ 5 ∷ 4 ∷ 3 ∷ 2 ∷ 1 ∷ [])
    (((r : ℕ) → held rs r ≡ count h r) × ((i j : ℕ) → i < j → j < length rs → ComesBefore h (slice_index rs i) (slice_index rs j)))
