-- The mask of a hand's ranks: its digits tell which ranks are held.
use Rattle.std.proofs.Common.{◌≡◌, ℕ, suc, ◌+◌, ◌^◌, ◌<◌, ◌≤◌, min, max, cond, eqb, List, [], ◌∷◌, length, refl, suc-le-suc, arith}
use lib.Bits.{bit_or, or_lt}
use lib.Count.{ones}
use lib.Pow.{pow-lt}
use Rattle.std.proofs.lemmas.Bool.Decides.{nat_tests}
use Rattle.ranking.specs.Counts.{held, AllRanks}
use Rattle.ranking.specs.Masks.{masked}
use Rattle.std.specs.Int.{bit_at}
use Rattle.std.proofs.lemmas.Nat.Bits.{bit_at_or, bit_at-pow_same, bit_at-pow_other}
use Rattle.ranking.proofs.Digits.{ones_or, ones_pow}
use Rattle.ranking.proofs.Counting.{is}

-- the one digit of a power of two
bit_at_pow : (r j : ℕ) → bit_at (2 ^ r) j ≡ is r j
bit_at_pow r j = grind (arith, nat_tests, bit_at-pow_same r, bit_at-pow_other r j)

-- a digit is set where it was, or where its rank is held
pub digit_masked : (rs : List ℕ) (m j : ℕ) → bit_at (masked m rs) j ≡ max (bit_at m j) (min 1 (held rs j))
digit_masked [] m j = omega arith
digit_masked (r ∷ rs) m j =
    let bit : is r j ≤ 1 = grind (arith, nat_tests) in
    omega (arith, digit_masked rs (bit_or m (2 ^ r)) j, bit_at_or m (2 ^ r) j, bit_at_pow r j)

-- each rank sets at most one digit
pub ones_masked : (rs : List ℕ) (m : ℕ) → ones (masked m rs) ≤ ones m + length rs
ones_masked [] m = omega arith
ones_masked (r ∷ rs) m = omega (arith, ones_masked rs (bit_or m (2 ^ r)), ones_or m (2 ^ r), ones_pow r)

-- what holds of each rank holds of each of the rest
rest_ranks : (r : ℕ) (rs : List ℕ) → AllRanks (r ∷ rs) → AllRanks rs
rest_ranks r rs h = λ k l. h (suc k) (suc-le-suc l)

-- ranks up to the ace, 14, stay within fifteen digits
pub masked_lt : (rs : List ℕ) (m : ℕ) → AllRanks rs → m < 2 ^ 15 → masked m rs < 2 ^ 15
masked_lt [] m h l = l
masked_lt (r ∷ rs) m h l =
    masked_lt rs (bit_or m (2 ^ r)) (rest_ranks r rs h) (or_lt 15 m (2 ^ r) l (pow-lt {j = 15} (omega (arith, h 0 (omega arith)))))

-- no card has the rank 0 or 1
pub held_low : (rs : List ℕ) (j : ℕ) → AllRanks rs → j < 2 → held rs j ≡ 0
held_low [] j h l = refl
held_low (r ∷ rs) j h l =
    let two = (h 0 (omega arith)).0 in
    let no : cond (eqb r j) 1 0 ≤ 0 = grind (arith, nat_tests) in
    omega (arith, held_low rs j (rest_ranks r rs h) l)
