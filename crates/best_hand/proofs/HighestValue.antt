-- The highest of some values is one of them, and none of them exceeds it.
use Rattle.std.specs.Prelude.{All, Contains}
use Rattle.std.proofs.Common.{◌≡◌, ℕ, ◌<◌, false, List, [], ◌∷◌, length, get_or, Some, subst, arith}
use Rattle.std.specs.Cmp.{IsStrictWeakOrder}
use Rattle.std.proofs.lemmas.List.Elements.{Contains-get_or}
use Rattle.ranking.specs.declared.value.Value.{Value}
use Rattle.ranking.specs.Order.{lower}
use Rattle.ranking.specs.LowerLaws.{lower_asymmetric, lower_chain}
use Rattle.search.specs.Highest.{leading, highest_place}
use Rattle.search.proofs.Leads.{ranks_from_laws, leading_stands, highest_place_keeps}
use Rattle.best_hand.specs.Best.{highest_value}

values_rank : IsStrictWeakOrder (λ v w. lower w v)
values_rank = ranks_from_laws lower lower_asymmetric lower_chain

-- what stands at the place that the search tells
pub highest_stands : (vs : List Value) (p : ℕ) (d : Value) → highest_place lower vs ≡ Some p → get_or vs p d ≡ highest_value vs
highest_stands [] p d h = cc
highest_stands (v ∷ vs) p d h =
    let is : (leading lower v vs).0 ≡ p = cc in
    subst (λ q. get_or (v ∷ vs) q d ≡ highest_value (v ∷ vs)) is (leading_stands lower values_rank v vs d)

pub highest_value_is_one : (vs : List Value) → 0 < length vs → Contains vs (highest_value vs)
highest_value_is_one [] h = absurd (omega arith)
highest_value_is_one (v ∷ vs) h =
    subst (Contains (v ∷ vs)) (leading_stands lower values_rank v vs v)
    (Contains-get_or (v ∷ vs) (leading lower v vs).0 v (highest_place_keeps lower values_rank (v ∷ vs)).0)

pub none_exceeds_highest : (vs : List Value) → All (λ w. lower (highest_value vs) w ≡ false) vs
none_exceeds_highest [] k d within = absurd (omega arith)
none_exceeds_highest (v ∷ vs) k d within =
    subst (λ best. lower best (get_or (v ∷ vs) k d) ≡ false) (leading_stands lower values_rank v vs d)
    ((highest_place_keeps lower values_rank (v ∷ vs)).1 k d within)
