-- Lists with the same things in another order, and the choices from them.
use Rattle.std.proofs.Common.{◌≡◌, ℕ, zero, suc, ◌+◌, ◌<◌, List, [], ◌∷◌, ◌++◌, map, length, get_or, set, sym, refl, ap, ◌∙◌, subst, le_of_suc-le-suc, not-suc-le-zero, arith}
use Rattle.std.specs.List.Sorted.{IsPermutation}
use Rattle.std.specs.Prelude.{All, swap}
use Rattle.std.proofs.lemmas.List.{get_or-map, get_or_append_left, get_or-append-add, length-append, length-map}
use Rattle.std.proofs.lemmas.List.Elements.{All-append, All-map, All-weaker}
use Rattle.std.proofs.lemmas.List.Sorted.{All-permutation, IsPermutation-keeps, IsPermutation-cons, IsPermutation-swap}
use Rattle.best_hand.specs.Choices.{choose}

-- What ties lists step by step: each list to itself, two lists through a third, two lists after the same head, and a list to the one with its
-- first two things exchanged.
pub record Steps {X : Type 0} (R : List X → List X → Type 0) : Type 0 where
  pub itself : (xs : List X) → R xs xs
  pub onward : (xs ys zs : List X) → R xs ys → R ys zs → R xs zs
  pub below : (x : X) (xs ys : List X) → R xs ys → R (x ∷ xs) (x ∷ ys)
  pub across : (x y : X) (xs : List X) → R (x ∷ y ∷ xs) (y ∷ x ∷ xs)

module _ {X : Type 0} (R : List X → List X → Type 0) (s : Steps R) where
  -- the head and a thing after it change places: step by step, past each thing between them
  head_exchanged : (x d : X) (xs : List X) (j : ℕ) → j < length xs → R (x ∷ xs) (get_or xs j d ∷ set xs j x)
  head_exchanged x d [] j h = absurd (not-suc-le-zero h)
  head_exchanged x d (y ∷ ys) zero h = s.across x y ys
  head_exchanged x d (y ∷ ys) (suc j) h =
      s.onward _ _ _ (s.across x y ys)
      (s.onward _ _ _ (s.below y _ _ (head_exchanged x d ys j (le_of_suc-le-suc h))) (s.across y (get_or ys j d) (set ys j x)))

  -- any two things change places
  two_exchanged : (xs : List X) (i j : ℕ) (d : X) → i < length xs → j < length xs → R xs (set (set xs i (get_or xs j d)) j (get_or xs i d))
  two_exchanged [] i j d p q = absurd (not-suc-le-zero p)
  two_exchanged (x ∷ xs) zero zero d p q = s.itself (x ∷ xs)
  two_exchanged (x ∷ xs) zero (suc j) d p q = head_exchanged x d xs j (le_of_suc-le-suc q)
  two_exchanged (x ∷ xs) (suc i) zero d p q = head_exchanged x d xs i (le_of_suc-le-suc p)
  two_exchanged (x ∷ xs) (suc i) (suc j) d p q = s.below x _ _ (two_exchanged xs i j d (le_of_suc-le-suc p) (le_of_suc-le-suc q))

  -- the same, as a shuffle is made of
  exchange_tied : (xs : List X) (i j : ℕ) → i < length xs → j < length xs → R xs (swap xs i j)
  exchange_tied [] i j p q = absurd (not-suc-le-zero p)
  exchange_tied (x ∷ xs) i j p q = two_exchanged (x ∷ xs) i j x p q

  -- what ties lists step by step ties a list to each shuffle of it
  pub shuffled_tied : (xs ys : List X) → IsPermutation xs ys → R xs ys
  shuffled_tied xs ys =
      IsPermutation-keeps xs (R xs) (s.itself xs) (λ l i j p q h. s.onward xs l (swap l i j) h (exchange_tied l i j p q)) ys

-- f gives the same for a list in any order
abbrev pub AnyOrder : {X Y : Type 0} → (List X → Y) → Type 0
AnyOrder {X} f = (xs ys : List X) → IsPermutation xs ys → f ys ≡ f xs

-- What is worked out from a list one thing at a time is the same in any order, if it is for any two things.
pub any_order : {X Y : Type 0} (f : List X → Y) (more : X → Y → Y)
    → ((x : X) (xs : List X) → f (x ∷ xs) ≡ more x (f xs))
    → ((x y : X) (z : Y) → more x (more y z) ≡ more y (more x z))
    → AnyOrder f
any_order {X} f more first two = shuffled_tied (λ xs ys. f ys ≡ f xs) record {
  itself = λ xs. refl;
  onward = λ xs ys zs h k. k ∙ h;
  below = λ x xs ys h. first x ys ∙ ap (more x) h ∙ sym (first x xs);
  across = λ x y xs. first_two y x xs ∙ two y x (f xs) ∙ sym (first_two x y xs);
}
  where
    first_two : (x y : X) (xs : List X) → f (x ∷ y ∷ xs) ≡ more x (more y (f xs))
    first_two x y xs = first x (y ∷ xs) ∙ ap (more x) (first y xs)

module _ {X : Type 0} (P : X → Type 0) where
  -- what holds of all of a joined list holds of all of each part
  all_parts : (xs ys : List X) → All P (xs ++ ys) → All P xs × All P ys
  all_parts xs ys all = (
    λ k d h. subst P (get_or_append_left xs ys d k h) (all k d (omega (arith, length-append xs ys))),
    λ k d h. subst P (get_or-append-add xs ys k d) (all (length xs + k) d (omega (arith, length-append xs ys))),
  )

  -- the library's `All-map`, the other way
  pub all_unmap : {Y : Type 0} (f : Y → X) (ys : List Y) → All P (map f ys) → All (λ y. P (f y)) ys
  all_unmap f ys all k d h = subst P (get_or-map f ys k d (f d) h) (all k (f d) (omega (arith, length-map ys f)))

-- All choices from x and xs are those that take x and those that leave it.
module _ {X : Type 0} (Q : List X → Type 0) (n : ℕ) (x : X) (xs : List X) where
  all_chosen : All (λ g. Q (x ∷ g)) (choose n xs) → All Q (choose (suc n) xs) → All Q (choose (suc n) (x ∷ xs))
  all_chosen taking leaving =
      All-append Q (map (λ g. x ∷ g) (choose n xs)) (choose (suc n) xs) (All-map Q (λ g. x ∷ g) (choose n xs) taking) leaving

  chosen_parts : All Q (choose (suc n) (x ∷ xs)) → All (λ g. Q (x ∷ g)) (choose n xs) × All Q (choose (suc n) xs)
  chosen_parts all =
      let parts = all_parts Q (map (λ g. x ∷ g) (choose n xs)) (choose (suc n) xs) all in
      (all_unmap Q (λ g. x ∷ g) (choose n xs) parts.0, parts.1)

module _ {X V : Type 0} (P : V → Type 0) where
  abbrev Holds : (List X → V) → List X → Type 0
  Holds f g = P (f g)

  -- For any f that order does not change: if P holds of f of each choice from xs, it does for ys.
  abbrev Carries : List X → List X → Type 0
  Carries xs ys = (n : ℕ) (f : List X → V) → AnyOrder f → All (Holds f) (choose n xs) → All (Holds f) (choose n ys)

  carries_below : (x : X) (xs ys : List X) → Carries xs ys → Carries (x ∷ xs) (x ∷ ys)
  carries_below x xs ys h zero f any all = all
  carries_below x xs ys h (suc n) f any all =
      let parts = chosen_parts (Holds f) n x xs all in
      all_chosen (Holds f) n x ys (h n (λ g. f (x ∷ g)) after parts.0) (h (suc n) f any parts.1)
    where
      after : AnyOrder (λ g. f (x ∷ g))
      after g k s = any (x ∷ g) (x ∷ k) (IsPermutation-cons x g k s)

  -- The choices that take both x and y change their order; those that take one of them or neither stay as they are.
  carries_across : (x y : X) (xs : List X) → Carries (x ∷ y ∷ xs) (y ∷ x ∷ xs)
  carries_across x y xs zero f any all = all
  carries_across x y xs (suc zero) f any all =
      All-permutation (Holds f) ((x ∷ []) ∷ (y ∷ []) ∷ choose 1 xs) _ (IsPermutation-swap _ _ 0 1 (omega arith) (omega arith) refl) all
  carries_across x y xs (suc (suc n)) f any all =
      let parts = chosen_parts (Holds f) (suc n) x (y ∷ xs) all in
      let taking_x = chosen_parts (λ g. Holds f (x ∷ g)) n y xs parts.0 in
      let leaving_x = chosen_parts (Holds f) (suc n) y xs parts.1 in
      let both = All-weaker (λ g. Holds f (x ∷ y ∷ g)) (λ g. Holds f (y ∷ x ∷ g)) turned (choose n xs) taking_x.0 in
      all_chosen (Holds f) (suc n) y (x ∷ xs) (all_chosen (λ g. Holds f (y ∷ g)) n x xs both leaving_x.0)
      (all_chosen (Holds f) (suc n) x xs taking_x.1 leaving_x.1)
    where
      turned : (g : List X) → Holds f (x ∷ y ∷ g) → Holds f (y ∷ x ∷ g)
      turned g = subst P (sym (any _ _ (IsPermutation-swap (x ∷ y ∷ g) (y ∷ x ∷ g) 0 1 (omega arith) (omega arith) refl)))

  -- choices from a shuffled list
  pub choices_carry : (xs ys : List X) → IsPermutation xs ys → Carries xs ys
  choices_carry = shuffled_tied Carries record {
    itself = λ xs n f any all. all;
    onward = λ xs ys zs h k n f any all. k n f any (h n f any all);
    below = carries_below;
    across = carries_across;
  }
