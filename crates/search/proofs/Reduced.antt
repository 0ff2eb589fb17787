-- What `reduce` gives over a chain whose items are read as a list.
use Rattle.std.proofs.Common.{◌≡◌, List, Option, Some, None, refl}
use Rattle.std.specs.Fn.{Called}
use Rattle.std.specs.Iterator.{ReducesItems}
use Rattle.std.specs.List.{FoldsTo, reduce}
use Rattle.std.specs.Option.{option_map}
use Rattle.std.proofs.lemmas.Fn.{fold_same, FoldsTo-push}
use Rattle.std.proofs.lemmas.Iterator.{YieldsList}
use Rattle.std.proofs.lemmas.Iterator.Consumers.{reduce_by_from_yields_List}
use denote.Param.Members.{Mut}

-- The closure g gives h of two items, and h on items is k on what v reads of them.
pub reduced : {S A B F : Type 0} {steps : S → Option A → S → Type 0} {v : A → B} {all : List B} {g : Mut F (A × (A × Unit {0})) A} {f : F} {s : S} (h : A → A → A) (k : B → B → B) (r : Option A)
    → ReducesItems steps g s f r → YieldsList steps v s all
    → ((x y z : A) (q : F) → Called g f (x, (y, tt)) z q → (q ≡ f) × (z ≡ h x y)) → ((x y : A) → v (h x y) ≡ k (v x) (v y))
    → option_map v r ≡ reduce k all
reduced {s = s} h k None ran items acts reads = reduce_by_from_yields_List h k s None reads ran items
reduced {F = F} {g = g} {f} {s} h k (Some z) ran items acts reads =
    let (x, ys, q, drains, turned) = ran in
    let turns = fold_same g (λ xs a. FoldsTo (λ p y c. c ≡ h p y) x xs a) f (λ xs a y b q seen called. let told = acts a y b q called in (FoldsTo-push _ x xs a y b seen told.1, told.0)) ys x z q refl turned in
    reduce_by_from_yields_List h k s (Some z) reads (x, ys, drains, turns) items
