-- Straights by the mask of a hand's ranks: the ranks run from l where the mask is five digits in a row from l.
use Rattle.std.proofs.Common.{◌≡◌, ℕ, zero, suc, ◌+◌, ◌*◌, ◌/◌, ◌%◌, ◌^◌, ◌<◌, ◌≤◌, min, Bool, true, false, cond, eqb, List, length, is_some, Some, None, Option, refl, ap, ◌∙◌, inl, inr, arith, lit≤, pow_mono, pow-add}
use lib.Count.{ones, ones_cat, ones-ones, count_leading_zeros, count_trailing_zeros}
use Rattle.std.specs.Bool.{Decides, then_some}
use Rattle.std.specs.Int.{bit_at}
use Rattle.std.specs.Option.{option_or, option_and}
use Rattle.std.proofs.lemmas.Bool.{eq-eqb, ne_eqb, cases_lt}
use Rattle.std.proofs.lemmas.Bool.Decides.{nat_tests, eqb_tells, same_from_decides, Decides-eqb}
use Rattle.std.proofs.lemmas.Nat.Bits.{bit_at-zero}
use Rattle.ranking.specs.Counts.{held, some_of, AllRanks}
use Rattle.ranking.specs.Masks.{masked, RunStart, starts_at, Told}
use Rattle.ranking.specs.Straights.{has_rank, run_from, straight_starts}
use Rattle.ranking.proofs.Digits.{ones_shifted, run_digit, run_place, only_run, run_ones, run_from_zeros, run_leading, run_trailing}
use Rattle.ranking.proofs.Masks.{digit_masked, ones_masked, masked_lt, held_low}

-- each of the five ranks of a run is held
each_rank : (f : ℕ → ℕ) (l j : ℕ) → l ≤ j → j ≤ l + 4 → run_from f l ≡ true → has_rank f j ≡ true
each_rank f l j lo hi e =
    grind (arith, nat_tests, eqb_tells j l, eqb_tells j (l + 1), eqb_tells j (l + 2), eqb_tells j (l + 3), eqb_tells j (l + 4))

-- Digits l to l + 4 of m tell which ranks are held, and m has no more than five digits set: then the ranks run from l where m is that run.
run_is : (f : ℕ → ℕ) (m l : ℕ) → ones m ≤ 5
    → ((j : ℕ) → l ≤ j → j ≤ l + 4 → bit_at m j ≡ min 1 (f (cond (eqb j 1) 14 j))) → run_from f l ≡ eqb m (31 * 2 ^ l)
run_is f m l few shows = same_from_decides (run_from f l) (eqb m (31 * 2 ^ l)) (there, back) (Decides-eqb m (31 * 2 ^ l))
  where
    there : run_from f l ≡ true → m ≡ 31 * 2 ^ l
    there e = only_run m l few (λ j lo hi. grind (arith, nat_tests, shows j lo hi, each_rank f l j lo hi e))

    has : m ≡ 31 * 2 ^ l → (j : ℕ) → l ≤ j → j ≤ l + 4 → has_rank f j ≡ true
    has e j lo hi = grind (arith, nat_tests, shows j lo hi, ap (λ n. bit_at n j) e, run_digit l j)

    back : m ≡ 31 * 2 ^ l → run_from f l ≡ true
    back e =
        simp (
          has e l (omega arith) (omega arith),
          has e (l + 1) (omega arith) (omega arith),
          has e (l + 2) (omega arith) (omega arith),
          has e (l + 3) (omega arith) (omega arith),
          has e (l + 4) (omega arith) (omega arith),
        )

-- A mask of 32 digits is a run where it has five ones and 27 zeros at the ends.
pub run_start_is : (m : ℕ) (b : Bool) → m < 2 ^ 32 → Decides b ((ones m ≡ 5) × (count_leading_zeros 32 m + count_trailing_zeros 32 m ≡ 27))
    → RunStart m (then_some b (count_trailing_zeros 32 m))
run_start_is m true small tests = run_from_zeros 32 m small (tests.0 refl).0 (omega (arith, (tests.0 refl).1))
run_start_is m false small tests = λ l h e.
    grind (arith, nat_tests, tests.1, run_ones l, run_leading l h, run_trailing 32 l (omega arith), ap ones e, ap (count_leading_zeros 32) e, ap (count_trailing_zeros 32) e)

-- ---- the ace below the two

-- the mask with the ace moved from place 14 to place 1
abbrev pub ace_low : ℕ → ℕ
ace_low m = m % 16384 + m / 16384 * 2

-- the move keeps the count of digits, as places 0 and 1 were free
ones_ace_low : (m : ℕ) → m % 4 ≡ 0 → m < 2 ^ 15 → ones (ace_low m) ≡ ones m
ones_ace_low m free small =
    let whole : m ≡ m / 16384 * 2 ^ 14 + m % 16384 = omega arith in
    let rest : m % 16384 ≡ m % 16384 / 4 * 2 ^ 2 = omega arith in
    let moved : ace_low m ≡ m % 16384 / 4 * 2 ^ 2 + m / 16384 * 2 ^ 1 = omega arith in
    omega (
      arith,
      ap ones whole,
      ones_cat 14 (m / 16384) (m % 16384) (omega arith),
      ap ones rest,
      ones_shifted (m % 16384 / 4) 2,
      ap ones moved,
      ones_cat 2 (m % 16384 / 4) (m / 16384 * 2 ^ 1) (omega arith),
      ones_shifted (m / 16384) 1,
    )

-- ---- what is told of a straight

-- two tests that agree from one to ten agree on whether some start passes
same_starts : (p q : ℕ → Bool) → ((k : ℕ) → 1 ≤ k → k ≤ 10 → p k ≡ q k) → some_of p straight_starts ≡ some_of q straight_starts
same_starts p q is =
    simp (
      is 10 (lit≤ tt) (lit≤ tt),
      is 9 (lit≤ tt) (lit≤ tt),
      is 8 (lit≤ tt) (lit≤ tt),
      is 7 (lit≤ tt) (lit≤ tt),
      is 6 (lit≤ tt) (lit≤ tt),
      is 5 (lit≤ tt) (lit≤ tt),
      is 4 (lit≤ tt) (lit≤ tt),
      is 3 (lit≤ tt) (lit≤ tt),
      is 2 (lit≤ tt) (lit≤ tt),
      is 1 (lit≤ tt) (lit≤ tt),
    )

-- A hand of five ranks, with its mask m.
module _ (rs : List ℕ) (ranks : AllRanks rs) (five : length rs ≡ 5) {m : ℕ} (is : m ≡ masked 0 rs) where
  -- digit j tells whether rank j is held
  shown : (j : ℕ) → bit_at m j ≡ min 1 (held rs j)
  shown j = omega (arith, ap (λ n. bit_at n j) is, digit_masked rs 0 j, bit_at-zero j)

  -- at most five digits are set, places 0 and 1 are free, and none is above 14
  few : ones m ≤ 5
  few = omega (arith, ap ones is, ones_masked rs 0, ones-ones 0)

  free : m % 4 ≡ 0
  free = omega (arith, shown 0, shown 1, held_low rs 0 ranks (omega arith), held_low rs 1 ranks (omega arith))

  small : m < 2 ^ 15
  small = omega (arith, masked_lt rs 0 ranks (omega arith))

  -- the ranks run from l, two or above, where the mask does
  high_run : (l : ℕ) → 2 ≤ l → run_from (held rs) l ≡ eqb m (31 * 2 ^ l)
  high_run l two = run_is (held rs) m l few (λ j lo hi. grind (arith, nat_tests, shown j))

  -- and from the ace below the two where the mask does with the ace moved
  low_run : run_from (held rs) 1 ≡ eqb (ace_low m) 62
  low_run = run_is (held rs) (ace_low m) 1 (omega (arith, few, ones_ace_low m free small)) at
    where
      -- place 1 takes the ace, and the others stay
      at : (j : ℕ) → 1 ≤ j → j ≤ 5 → bit_at (ace_low m) j ≡ min 1 (held rs (cond (eqb j 1) 14 j))
      at zero lo hi = omega arith
      at (suc zero) lo hi = omega (arith, shown 14, small, free)
      at (suc (suc zero)) lo hi = omega (arith, shown 2, small, free)
      at (suc (suc (suc zero))) lo hi = omega (arith, shown 3, small, free)
      at (suc (suc (suc (suc zero)))) lo hi = omega (arith, shown 4, small, free)
      at (suc (suc (suc (suc (suc zero))))) lo hi = omega (arith, shown 5, small, free)
      at (suc (suc (suc (suc (suc (suc j)))))) lo hi = omega arith

  -- a run of the mask starts at two to ten
  pub start_bounds : (l : ℕ) → m ≡ 31 * 2 ^ l → (2 ≤ l) × (l ≤ 10)
  start_bounds l e =
      let top : l ≤ 10 = elim (cases_lt 10 l) [ inl h ↦ omega (arith, small, pow_mono {i = 11} h) | inr h ↦ h ] in
      (above_one l e, top)
    where
      above_one : (l : ℕ) → m ≡ 31 * 2 ^ l → 2 ≤ l
      above_one zero e = omega (arith, free)
      above_one (suc zero) e = omega (arith, free)
      above_one (suc (suc l)) e = omega arith

  -- what is told, by the runs of the two masks
  told : (start : Option ℕ) → some_of (starts_at start) straight_starts ≡ is_some start → eqb (ace_low m) 62 ≡ starts_at start 1
      → ((k : ℕ) → 2 ≤ k → k ≤ 10 → eqb m (31 * 2 ^ k) ≡ starts_at start k) → Told (held rs) start
  told start within low high = record { there = same_starts (run_from (held rs)) (starts_at start) runs ∙ within; runs = runs }
    where
      runs : (k : ℕ) → 1 ≤ k → k ≤ 10 → run_from (held rs) k ≡ starts_at start k
      runs zero lo hi = grind arith
      runs (suc zero) lo hi = low_run ∙ low
      runs (suc (suc k)) lo hi = high_run (suc (suc k)) (omega arith) ∙ high (suc (suc k)) (omega arith) hi

  -- a run with the ace high
  pub told_high : (l : ℕ) → m ≡ 31 * 2 ^ l → Told (held rs) (Some l)
  told_high l e =
      let bounds = start_bounds l e in
      told (Some l) (grind (arith, nat_tests)) (grind (arith, nat_tests, free, small))
      (λ k lo hi. grind (arith, nat_tests, run_place l k, ap (λ (x : ℕ). 31 * 2 ^ x)))

  -- no run with the ace high, and one with it low: from the ace, since any other would be a run with the ace high too
  pub told_low : ((k : ℕ) → k ≤ 27 → m ≡ 31 * 2 ^ k → ⊥) → (l : ℕ) → ace_low m ≡ 31 * 2 ^ l → Told (held rs) (Some 1)
  told_low none l e =
      told (Some 1) refl (eq-eqb (ace_low m) 62 (from_ace l e)) (λ k lo hi. grind (arith, nat_tests, none k (omega arith)))
    where
      from_ace : (l : ℕ) → ace_low m ≡ 31 * 2 ^ l → ace_low m ≡ 62
      from_ace zero e = omega (arith, free)
      from_ace (suc zero) e = e
      from_ace (suc (suc l)) e =
          let no_ace : m / 16384 ≡ 0 = omega (arith, small, free, pow-add 2 l 2) in
          let same : m ≡ 31 * 2 ^ suc (suc l) = omega arith in
          absurd (none (suc (suc l)) (omega (arith, start_bounds (suc (suc l)) same)) same)

  -- no run either way
  pub told_none : ((k : ℕ) → k ≤ 27 → m ≡ 31 * 2 ^ k → ⊥) → ((k : ℕ) → k ≤ 27 → ace_low m ≡ 31 * 2 ^ k → ⊥) → Told (held rs) None
  told_none high low =
      told None refl (ne_eqb (ace_low m) 62 (low 1 (omega arith))) (λ k lo hi. ne_eqb m (31 * 2 ^ k) (high k (omega arith)))

  -- what is told of the straight, by the runs of both masks
  pub told_by : (start low : Option ℕ) → RunStart m start → RunStart (ace_low m) low → Told (held rs) (option_or start (option_and low (Some 1)))
  told_by (Some l) low high _ = told_high l high
  told_by None (Some l) high run = told_low high l run
  told_by None None high none = told_none high none
