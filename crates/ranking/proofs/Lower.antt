-- The derived order of values is `lower`, and values of which neither is lower are the same value.
use Rattle.std.proofs.Common.{◌≡◌, ℕ, Bool, ◌≢◌, nat_lt, false, List, [], ◌∷◌, Some, refl, ap, ap₂, arith, rules}
use Rattle.std.specs.Cmp.Lexicographic.{slice_partial_cmp}
use Rattle.std.specs.Ordering.{nat_cmp, is_lt, is_some_and, partial_ordering_then}
use Rattle.std.proofs.lemmas.Bool.{true≢false}
use Rattle.std.proofs.lemmas.Bool.Decides.{nat_tests}
use Rattle.std.proofs.lemmas.Cmp.{same_from_slice_cmp_tested}
use Rattle.ranking.specs.declared.class.Class.{Class}
use Rattle.ranking.specs.declared.value.Value.{Value}
use Rattle.ranking.specs.contracts.class.ClassPartialOrd.TheImpl as classes
use Rattle.ranking.specs.contracts.value.ValuePartialOrd.TheImpl as values
use Rattle.ranking.specs.Classes.{class_number}
use Rattle.ranking.specs.Order.{lower, lower_ranks}
use Rattle.ranking.specs.LowerLaws.{decided}
use Rattle.ranking.proofs.BestClass.{same_number}

-- the class and the ranks as one list of numbers, which the order reads from the left
abbrev numbers : Value → List ℕ
numbers v = class_number v.class ∷ v.ranks

-- the derived order of classes is that of their numbers
by_number : (c d : Class) → classes.ghosts.partial_cmp c d ≡ Some (nat_cmp (class_number c) (class_number d))
by_number c d = search rules

pub lower_derived : (v w : Value) → is_some_and is_lt (values.ghosts.partial_cmp v w) ≡ lower v w
lower_derived v w =
    same_from_slice_cmp_tested nat_cmp is_lt lower_ranks refl (λ _ _. refl) (λ _ _. refl) (λ x y xs ys o h. grind (arith, nat_tests)) (numbers v) (numbers w)
    _ (ap (λ o. is_some_and is_lt (partial_ordering_then o (slice_partial_cmp (λ x y. Some (nat_cmp x y)) v.ranks w.ranks))) (by_number v.class w.class))

-- one number decides, and where it is equal the rest does
pub decided_neither : (m n : ℕ) (p q : Bool) → decided m n p ≡ false → decided n m q ≡ false → (m ≡ n) × (p ≡ false) × (q ≡ false)
decided_neither m n p q h k = grind (arith, nat_tests)

pub decided_level : (m n : ℕ) (p : Bool) → m ≡ n → decided m n p ≡ p
decided_level m n p e = grind (arith, nat_tests)

pub decided_apart : (m n : ℕ) (p : Bool) → m ≢ n → decided m n p ≡ nat_lt m n
decided_apart m n p ne = grind (arith, nat_tests)

-- lists of which neither is lower are the same
pub ranks_same : (rs ss : List ℕ) → lower_ranks rs ss ≡ false → lower_ranks ss rs ≡ false → rs ≡ ss
ranks_same [] [] h k = refl
ranks_same [] (s ∷ ss) h k = absurd (true≢false h)
ranks_same (r ∷ rs) [] h k = absurd (true≢false k)
ranks_same (r ∷ rs) (s ∷ ss) h k =
    let d = decided_neither r s (lower_ranks rs ss) (lower_ranks ss rs) h k in ap₂ (λ x xs. x ∷ xs) d.0 (ranks_same rs ss d.1 d.2)

-- values of which neither is lower are the same value
pub lower_same : (v w : Value) → lower v w ≡ false → lower w v ≡ false → v ≡ w
lower_same v w h k =
    let same = ranks_same (numbers v) (numbers w) h k in
    let class = same_number v.class w.class (cc) in
    let ranks : v.ranks ≡ w.ranks = cc in
    λ i. record { class = class i; ranks = ranks i }
