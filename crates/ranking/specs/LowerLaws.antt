-- The order of values is total: an order that is not broken step by step is not broken at all. The law that values owe to the search rests on it.
use Rattle.std.specs.Prelude.{◌≡◌, ℕ, Bool, true, false, ◌&&◌, ◌||◌, List, [], ◌∷◌, ◌==◌, nat_lt, refl}
use Rattle.std.proofs.Common.{sym, arith}
use Rattle.std.proofs.lemmas.Bool.Decides.{nat_tests}
use Rattle.std.proofs.lemmas.Bool.{true≢false}
use Rattle.ranking.specs.declared.value.Value.{Value}
use Rattle.ranking.specs.Classes.{class_number}
use Rattle.ranking.specs.Order.{lower, lower_ranks}

-- one number decides, and where it is equal the rest does
abbrev pub decided : ℕ → ℕ → Bool → Bool
decided m n rest = nat_lt m n || (m == n && rest)

pub decided_asymmetric : (m n : ℕ) (p q : Bool) → (p ≡ true → q ≡ false) → decided m n p ≡ true → decided n m q ≡ false
decided_asymmetric m n p q rest h = grind (arith, nat_tests)

pub decided_chain : (l m n : ℕ) (p q r : Bool) → (p ≡ false → q ≡ false → r ≡ false) → decided l m p ≡ false → decided m n q ≡ false → decided l n r ≡ false
decided_chain l m n p q r rest h k = grind (arith, nat_tests)

pub ranks_asymmetric : (rs ss : List ℕ) → lower_ranks rs ss ≡ true → lower_ranks ss rs ≡ false
ranks_asymmetric [] [] h = refl
ranks_asymmetric [] (s ∷ ss) h = refl
ranks_asymmetric (r ∷ rs) [] h = absurd (true≢false (sym h))
ranks_asymmetric (r ∷ rs) (s ∷ ss) h = decided_asymmetric r s (lower_ranks rs ss) (lower_ranks ss rs) (ranks_asymmetric rs ss) h

pub ranks_chain : (rs ss ts : List ℕ) → lower_ranks rs ss ≡ false → lower_ranks ss ts ≡ false → lower_ranks rs ts ≡ false
ranks_chain [] [] ts h k = k
ranks_chain [] (s ∷ ss) ts h k = absurd (true≢false h)
ranks_chain (r ∷ rs) ss [] h k = refl
ranks_chain (r ∷ rs) [] (t ∷ ts) h k = absurd (true≢false k)
ranks_chain (r ∷ rs) (s ∷ ss) (t ∷ ts) h k = decided_chain r s t (lower_ranks rs ss) (lower_ranks ss ts) (lower_ranks rs ts) (ranks_chain rs ss ts) h k

pub lower_asymmetric : (v w : Value) → lower v w ≡ true → lower w v ≡ false
lower_asymmetric v w =
    decided_asymmetric (class_number v.class) (class_number w.class) (lower_ranks v.ranks w.ranks) (lower_ranks w.ranks v.ranks)
    (ranks_asymmetric v.ranks w.ranks)

pub lower_chain : (u v w : Value) → lower u v ≡ false → lower v w ≡ false → lower u w ≡ false
lower_chain u v w =
    decided_chain (class_number u.class) (class_number v.class) (class_number w.class) (lower_ranks u.ranks v.ranks)
    (lower_ranks v.ranks w.ranks) (lower_ranks u.ranks w.ranks) (ranks_chain u.ranks v.ranks w.ranks)
