-- Numbers of which five digits in a row are set: 31 * 2 ^ l, a run from place l.
use Rattle.std.proofs.Common.{◌≡◌, ℕ, zero, suc, ◌+◌, ◌-◌, ◌*◌, ◌/◌, ◌%◌, ◌^◌, ◌<◌, ◌≤◌, cond, ◌&&◌, leb, refl, ap, ◌∙◌, subst, ⊎_elim, inl, inr, pow-suc, arith, pow_pos, pow-add, shr-shr}
use Rattle.std.specs.Int.{bit_at}
use Rattle.std.proofs.lemmas.Bool.{cases_order, cases_lt}
use Rattle.std.proofs.lemmas.Bool.Decides.{nat_tests}
use Rattle.std.proofs.lemmas.Nat.{zero_from_ones}
use Rattle.std.proofs.lemmas.Nat.Bits.{bit_at_mask_inside, bit_at_mask_below, bit_at_mask_above}
use lib.Arith.{bin_ind}
use lib.Bits.{bit_or, or_step, shifted_half, shifted_even}
use lib.Count.{ones, count_leading_zeros, count_trailing_zeros, under, ones_step, ones_cat, ones-ones, ones-le, leading_length, leading_unique}
use lib.Pow.{pow-lt}

-- a | b has at most as many digits set as a and b together
pub ones_or : (a b : ℕ) → ones (bit_or a b) ≤ ones a + ones b
ones_or =
    bin_ind (λ (a : ℕ). (b : ℕ) → ones (bit_or a b) ≤ ones a + ones b) (λ b. omega arith)
    (λ a ih b.
    let half : bit_or a b / 2 ≡ bit_or (a / 2) (b / 2) = omega (arith, or_step a b) in
    omega (arith, or_step a b, ones_step (bit_or a b), ap ones half, ones_step a, ones_step b, ih (b / 2)))

-- a shift to the left keeps the count of digits that are set
pub ones_shifted : (a k : ℕ) → ones (a * 2 ^ k) ≡ ones a
ones_shifted a k = let e : a * 2 ^ k ≡ a * 2 ^ k + 0 = omega arith in omega (arith, ap ones e, ones_cat k a 0 (pow_pos k), ones-ones 0)

pub ones_pow : (r : ℕ) → ones (2 ^ r) ≡ 1
ones_pow r = let e : 2 ^ r ≡ 1 * 2 ^ r = omega arith in ap ones e ∙ ones_shifted 1 r ∙ ones-ones 1

-- the digits of half a number are the later ones of the number
half_digit : (n j : ℕ) → bit_at (n / 2) j ≡ bit_at n (suc j)
half_digit n j = let next : 1 + j ≡ suc j = omega arith in ap (λ (x : ℕ). x % 2) (shr-shr n 1 j) ∙ ap (bit_at n) next

halves : (w m : ℕ) → ((j : ℕ) → bit_at w j ≤ bit_at m j) → (j : ℕ) → bit_at (w / 2) j ≤ bit_at (m / 2) j
halves w m sub j = omega (arith, half_digit w j, half_digit m j, sub (suc j))

-- where each digit of w is set in m too, w has no more of them than m
pub sub_ones : (w m : ℕ) → ((j : ℕ) → bit_at w j ≤ bit_at m j) → ones w ≤ ones m
sub_ones =
    bin_ind (λ (w : ℕ). (m : ℕ) → ((j : ℕ) → bit_at w j ≤ bit_at m j) → ones w ≤ ones m) (λ m sub. omega (arith, ones-ones 0))
    (λ w ih m sub. omega (arith, ones_step w, ones_step m, sub 0, ih (m / 2) (halves w m sub)))

-- and where it has no fewer either, the two are one number
pub same_ones : (w m : ℕ) → ((j : ℕ) → bit_at w j ≤ bit_at m j) → ones m ≤ ones w → m ≡ w
same_ones =
    bin_ind (λ (w : ℕ). (m : ℕ) → ((j : ℕ) → bit_at w j ≤ bit_at m j) → ones m ≤ ones w → m ≡ w)
    (λ m sub h. zero_from_ones m (omega (arith, ones-ones 0)))
    (λ w ih m sub h.
    let less : ones (w / 2) ≤ ones (m / 2) = sub_ones (w / 2) (m / 2) (halves w m sub) in
    let rest : ones (m / 2) ≤ ones (w / 2) = omega (arith, ones_step w, ones_step m, sub 0) in
    omega (arith, ones_step w, ones_step m, sub 0, ih (m / 2) (halves w m sub) rest))

-- a run has five digits set, those from l to l + 4
pub run_ones : (l : ℕ) → ones (31 * 2 ^ l) ≡ 5
run_ones l = ones_shifted 31 l ∙ ones-ones 5

pub run_digit : (l j : ℕ) → bit_at (31 * 2 ^ l) j ≡ cond (leb l j && leb j (l + 4)) 1 0
run_digit l j =
    let mask : 31 * 2 ^ l ≡ 2 ^ (l + 5) - 2 ^ l = omega (arith, pow-add 2 l 5) in
    ap (λ n. bit_at n j) mask
    ∙ ⊎_elim (λ below. bit_at_mask_below l (l + 5) j below ∙ grind (arith, nat_tests))
    (λ from. ⊎_elim (λ inside. bit_at_mask_inside l (l + 5) j from inside ∙ grind (arith, nat_tests))
    (λ above. bit_at_mask_above l (l + 5) j above ∙ grind (arith, nat_tests)) (cases_lt j (l + 5))) (cases_lt j l)

-- a number with at most five digits set, those from l to l + 4 among them, is that run
pub only_run : (m l : ℕ) → ones m ≤ 5 → ((j : ℕ) → l ≤ j → j ≤ l + 4 → bit_at m j ≡ 1) → m ≡ 31 * 2 ^ l
only_run m l few set = same_ones (31 * 2 ^ l) m (λ j. grind (arith, nat_tests, run_digit l j, set j)) (omega (arith, run_ones l))

-- different places give different runs
pub run_place : (k l : ℕ) → 31 * 2 ^ k ≡ 31 * 2 ^ l → k ≡ l
run_place k l e =
    elim (cases_order k l) [
      | inl s ↦ s
      | inr (inl h) ↦ omega (arith, pow-lt h)
      | inr (inr h) ↦ omega (arith, pow-lt h)
    ]

-- ---- the zeros at both ends of such a run, and back

-- a number of k digits, all of them set
all_ones : (k m : ℕ) → m < 2 ^ k → ones m ≡ k → m ≡ 2 ^ k - 1
all_ones zero m h e = omega arith
all_ones (suc k) m h e =
    let small : m / 2 < 2 ^ k = omega (arith, pow-suc 2 k) in
    let rest : ones (m / 2) ≡ k = omega (arith, ones_step m, ones-le k (m / 2) small) in
    omega (arith, pow-suc 2 k, ones_step m, all_ones k (m / 2) small rest)

-- A number with five digits set, where these and the zeros at both ends are all its k digits, is a run. An even one is halved, and an odd one is 31.
pub run_from_zeros : (k m : ℕ) → m < 2 ^ k → ones m ≡ 5 → count_leading_zeros k m + count_trailing_zeros k m + 5 ≡ k → m ≡ 31 * 2 ^ count_trailing_zeros k m
unfolding count_leading_zeros count_trailing_zeros
run_from_zeros zero m h five e = omega arith
run_from_zeros (suc k) zero h five e = omega (arith, ones-ones 0)
run_from_zeros (suc k) (suc n) h five e = go (run_from_zeros k (suc n / 2)) (suc n % 2) refl e
  where
    t : ℕ
    t = count_trailing_zeros k (suc n / 2)

    go : (suc n / 2 < 2 ^ k → ones (suc n / 2) ≡ 5 → count_leading_zeros k (suc n / 2) + t + 5 ≡ k → suc n / 2 ≡ 31 * 2 ^ t)
        → (d : ℕ) → suc n % 2 ≡ d → count_leading_zeros k (suc n / 2) + under d t + 5 ≡ suc k → suc n ≡ 31 * 2 ^ under d t
    go half zero q e =
        omega (arith, pow-suc 2 t, half (omega (arith, pow-suc 2 k)) (omega (arith, ones_step (suc n))) (omega arith))
    go half (suc d) q e =
        let len = leading_length (suc k) (suc n) h in
        let is_5 : len.0 ≡ 5 = omega (arith, len.1) in
        all_ones 5 (suc n) (subst (λ (x : ℕ). suc n < 2 ^ x) is_5 len.2) five

-- the zeros below a run, and above it
pub run_trailing : (k l : ℕ) → l < k → count_trailing_zeros k (31 * 2 ^ l) ≡ l
unfolding count_trailing_zeros
run_trailing zero l h = omega arith
run_trailing (suc k) zero h = refl
run_trailing (suc k) (suc l) h = simp (shifted_even, shifted_half) (ap suc (run_trailing k l (omega arith)))

pub run_leading : (l : ℕ) → l ≤ 27 → count_leading_zeros 32 (31 * 2 ^ l) + l ≡ 27
run_leading l h =
    let bound : 2 ^ (l + 5) ≡ 2 ^ l * 32 = pow-add 2 l 5 in
    omega (arith, pow_pos l, leading_unique 32 (31 * 2 ^ l) (27 - l) (l + 5) (omega arith) (omega (arith, pow_pos l)) (omega arith))
