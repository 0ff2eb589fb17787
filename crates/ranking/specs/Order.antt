-- The order of values: class decides, then the ranks from the left.
use Rattle.std.specs.Prelude.{ℕ, Bool, true, false, ◌&&◌, ◌||◌, List, [], ◌∷◌, ◌==◌, nat_lt}
use Rattle.ranking.specs.declared.value.Value.{Value}
use Rattle.ranking.specs.Classes.{class_number}

-- the first ranks that differ decide
abbrev pub lower_ranks : List ℕ → List ℕ → Bool
lower_ranks [] [] = false
lower_ranks [] (s ∷ ss) = true
lower_ranks (r ∷ rs) [] = false
lower_ranks (r ∷ rs) (s ∷ ss) = nat_lt r s || (r == s && lower_ranks rs ss)

abbrev pub lower : Value → Value → Bool
lower v w = nat_lt (class_number v.class) (class_number w.class) || (class_number v.class == class_number w.class && lower_ranks v.ranks w.ranks)
