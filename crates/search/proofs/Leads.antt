-- The definition of the highest place keeps its promise, no other place does, and whoever takes the things one by one from the front ends there.
use Rattle.std.proofs.Common.{◌≡◌, ℕ, zero, suc, ◌+◌, ◌<◌, Bool, true, false, if◌then◌else◌, List, [], ◌∷◌, length, get_or, Some, sym, refl, ap, ◌∙◌, subst, ⊎_elim, suc-le-suc, zero-le, le_of_suc-le-suc, not-suc-le-zero, arith}
use Rattle.std.specs.Cmp.{IsStrictWeakOrder}
use Rattle.std.specs.List.{IsFirstBest, enumerate_from, fold, reduce}
use Rattle.std.proofs.lemmas.List.MinMax.{IsFirstBest-unique}
use Rattle.std.proofs.lemmas.Bool.{cases_Bool, cond-true, cond-false}
use Rattle.std.specs.Option.{option_map}
use Rattle.search.specs.Highest.{leading, highest_place, FirstHighest}

-- the laws of a ranked kind make its order one of those that the library knows
pub ranks_from_laws : {X : Type 0} (below : X → X → Bool)
    → ((x y : X) → below x y ≡ true → below y x ≡ false)
    → ((x y z : X) → below x y ≡ false → below y z ≡ false → below x z ≡ false)
    → IsStrictWeakOrder (λ x y. below y x)
ranks_from_laws below one_way chain = record { one_way = λ x y. one_way y x; chain = λ x y z h k. chain z y x k h }

-- of a leader and a thing that comes after it, each beside its place, the one that leads on
abbrev pub leads_on : {X : Type 0} → (X → X → Bool) → ℕ × X → ℕ × X → ℕ × X
leads_on below best next = if below best.1 next.1 then next else best

module _ {X : Type 0} (below : X → X → Bool) (o : IsStrictWeakOrder (λ x y. below y x)) where
  abbrev Leads : X → List X → ℕ × X → Type 0
  Leads x xs l = ((d : X) → get_or (x ∷ xs) l.0 d ≡ l.1) × IsFirstBest (λ a b. below b a) (x ∷ xs) (length (x ∷ xs)) l.0

  none_exceeds_itself : (x : X) → below x x ≡ false
  none_exceeds_itself x = ⊎_elim (λ e. o.one_way x x e) (λ e. e) (cases_Bool (below x x))

  -- the lead goes to the rest, whose highest exceeds x
  passes : (x y : X) (ys : List X) (l : ℕ × X) → Leads y ys l → below x l.1 ≡ true → Leads x (y ∷ ys) (suc l.0, l.1)
  passes x y ys l h e = (h.0, (suc-le-suc h.1.0, none, above))
    where
      none : (k : ℕ) (d : X) → k < length (x ∷ y ∷ ys) → below (get_or (y ∷ ys) l.0 d) (get_or (x ∷ y ∷ ys) k d) ≡ false
      none zero d r = ap (λ z. below z x) (h.0 d) ∙ o.one_way l.1 x e
      none (suc k) d r = h.1.1 k d (le_of_suc-le-suc r)

      above : (k : ℕ) (d : X) → k < suc l.0 → below (get_or (x ∷ y ∷ ys) k d) (get_or (y ∷ ys) l.0 d) ≡ true
      above zero d r = ap (below x) (h.0 d) ∙ e
      above (suc k) d r = h.1.2 k d (le_of_suc-le-suc r)

  -- x keeps the lead, since the highest of the rest does not exceed it
  keeps : (x y : X) (ys : List X) (l : ℕ × X) → Leads y ys l → below x l.1 ≡ false → Leads x (y ∷ ys) (0, x)
  keeps x y ys l h e = ((λ d. refl), (suc-le-suc zero-le, none, λ k d r. absurd (not-suc-le-zero r)))
    where
      none : (k : ℕ) (d : X) → k < length (x ∷ y ∷ ys) → below x (get_or (x ∷ y ∷ ys) k d) ≡ false
      none zero d r = none_exceeds_itself x
      none (suc k) d r = o.chain (get_or (y ∷ ys) k d) l.1 x (ap (λ z. below z (get_or (y ∷ ys) k d)) (sym (h.0 d)) ∙ h.1.1 k d (le_of_suc-le-suc r)) e

  leads : (x : X) (xs : List X) → Leads x xs (leading below x xs)
  leads x [] = ((λ d. refl), (suc-le-suc zero-le, none, λ k d r. absurd (not-suc-le-zero r)))
    where
      none : (k : ℕ) (d : X) → k < 1 → below x (get_or (x ∷ []) k d) ≡ false
      none zero d r = none_exceeds_itself x
      none (suc k) d r = absurd (not-suc-le-zero (le_of_suc-le-suc r))
  leads x (y ∷ ys) =
      let l = leading below y ys in
      ⊎_elim
      (λ e. subst (Leads x (y ∷ ys)) (sym (cond-true (below x l.1) (suc l.0, l.1) (0, x) e)) (passes x y ys l (leads y ys) e))
      (λ e. subst (Leads x (y ∷ ys)) (sym (cond-false (below x l.1) (suc l.0, l.1) (0, x) e)) (keeps x y ys l (leads y ys) e))
      (cases_Bool (below x l.1))

  -- whoever keeps the promise is the place of the definition
  pub is_highest_place : (xs : List X) (p : ℕ) → FirstHighest below xs (Some p) → Some p ≡ highest_place below xs
  is_highest_place [] p h = absurd (not-suc-le-zero h.0)
  is_highest_place (x ∷ xs) p h = ap Some (IsFirstBest-unique o (x ∷ xs) (length (x ∷ xs)) p (leading below x xs).0 x h (leads x xs).1)

  -- what stands at the place of the definition, read off by `leading`
  pub leading_stands : (x : X) (xs : List X) (d : X) → get_or (x ∷ xs) (leading below x xs).0 d ≡ (leading below x xs).1
  leading_stands x xs d = (leads x xs).0 d

  pub highest_place_keeps : (xs : List X) → FirstHighest below xs (highest_place below xs)
  highest_place_keeps [] = refl
  highest_place_keeps (x ∷ xs) = (leads x xs).1

  -- y and the things after it, at m and the places after it, come while x, at n, leads: the highest of them leads on where it exceeds x
  come : (n m : ℕ) (x y : X) (ys : List X) → fold (leads_on below) (n, x) (enumerate_from m (y ∷ ys)) ≡ leads_on below (n, x) (m + (leading below y ys).0, (leading below y ys).1)
  come n m x y [] = ap (λ k. leads_on below (n, x) (k, y)) (omega arith)
  come n m x y (z ∷ zs) = grind (arith, come n (m + 1) x z zs, come m (m + 1) y z zs, o.one_way, o.chain)

  -- all things come, from the first on
  pub all_come : (xs : List X) → option_map (λ best. best.0) (reduce (leads_on below) (enumerate_from 0 xs)) ≡ highest_place below xs
  all_come [] = refl
  all_come (x ∷ []) = refl
  all_come (x ∷ y ∷ ys) = grind (arith, come 0 1 x y ys)
