-- From the definitions of the paper, on fractions, to partial sums of natural numbers over one denominator.
-- Assumes nothing.
use mathlib.Core.Path.{◌≡◌, refl, ap}
use Prim.Native.Nat.{ℕ, zero, suc, ◌+◌, ◌-◌, ◌*◌, ◌^◌, ◌≤◌, ◌<◌}
use native.Mathlib.Nat.{mul-pos, pow-suc, pow-zero, mul-le-mul_left, sub-add_cancel, le_of_mul-le-mul_left, sub-zero}
use native.Mathlib.Omega.{arith}
use Rattle.exact.specs.Fraction.{Fraction, Proper, quotient, whole, ◌⊕◌, ◌⊗◌, ◌≈◌}
use Rattle.exact.specs.Exponential.{factorial, power, series_term, partial_sum, sum_with_tail, bracket_low, bracket_high, Allowed, InBracket}
use Rattle.exact.proofs.Fractions
use Rattle.exact.proofs.Fractions.{Nonnegative, Positive}
use Rattle.exact.proofs.Sums.{den, num, tailed, den_pos, num_pos, growing, tail}

-- y is the fraction a / d
pub record At (y : Fraction) (a d : ℕ) : Type 0 where
  pub proper : Proper y
  pub positive : 0 < d
  pub same : y ≈ quotient a d

pub at_of : {y : Fraction} → Proper y → Nonnegative y → At y (y.plus - y.minus) y.over
at_of {y} p n =
    record {
      proper = p;
      positive = p.positive;
      same = record { crossed = omega (arith, ap (λ (t : ℕ). t * y.over) (sub-add_cancel n.above)) };
    }

pub at_same : {y z : Fraction} {a d : ℕ} → Proper z → y ≈ z → At y a d → At z a d
at_same p e h = record { proper = p; positive = h.positive; same = Fractions.same-trans h.proper (Fractions.same-sym e) h.same }

pub factorial-pos : (n : ℕ) → 0 < factorial n
unfolding factorial
factorial-pos zero = omega arith
factorial-pos (suc n) = mul-pos (omega arith) (factorial-pos n)

-- den d n is d^n n!
den-is : (d n : ℕ) → den d n ≡ d ^ n * factorial n
unfolding den factorial
den-is d zero = rw (pow-zero d) refl
den-is d (suc n) = rw (den-is d n, pow-suc d n) (omega arith)

module _ {y : Fraction} {a d : ℕ} (h : At y a d) where
  power-proper : (n : ℕ) → Proper (power y n)
  unfolding power
  power-proper zero = record { positive = omega arith }
  power-proper (suc n) = Fractions.proper-product (power-proper n) h.proper

  pow_pos : (n : ℕ) → 0 < d ^ n
  pow_pos zero = rw (pow-zero d) (omega arith)
  pow_pos (suc n) = rw (pow-suc d n) (mul-pos (pow_pos n) h.positive)

  power-is : (n : ℕ) → power y n ≈ quotient (a ^ n) (d ^ n)
  unfolding power
  power-is zero = rw (pow-zero a, pow-zero d) (Fractions.same_refl (whole 1))
  power-is (suc n) =
      rw (pow-suc a n, pow-suc d n)
      (Fractions.same-trans
      (Fractions.proper-product (Fractions.proper-quotient (a ^ n) (pow_pos n)) (Fractions.proper-quotient a h.positive))
      (Fractions.same-product (Fractions.proper-quotient (a ^ n) (pow_pos n)) h.proper (power-is n) h.same)
      (record { crossed = omega arith }))

  term-proper : (n : ℕ) → Proper (series_term y n)
  term-proper n = Fractions.proper-product (power-proper n) (Fractions.proper-quotient 1 (factorial-pos n))

  term_is : (n : ℕ) → series_term y n ≈ quotient (a ^ n) (den d n)
  term_is n =
      Fractions.same-trans
      (Fractions.proper-product (Fractions.proper-quotient (a ^ n) (pow_pos n)) (Fractions.proper-quotient 1 (factorial-pos n)))
      (Fractions.same-product-left (quotient 1 (factorial n)) (power-is n))
      (record { crossed = rw (den-is d n) (omega arith) })

  pub sum-proper : (n : ℕ) → Proper (partial_sum n y)
  unfolding partial_sum
  sum-proper zero = term-proper zero
  sum-proper (suc n) = Fractions.proper-sum (sum-proper n) (term-proper (suc n))

  -- E(n) is num a d n / den d n.
  pub sum_is : (n : ℕ) → partial_sum n y ≈ quotient (num a d n) (den d n)
  unfolding partial_sum num den
  sum_is zero = Fractions.same-trans (Fractions.proper-quotient (a ^ 0) (den_pos d h.positive 0)) (term_is zero)
      (rw (pow-zero a) (Fractions.same_refl (whole 1)))
  sum_is (suc n) =
      Fractions.same-trans
      (Fractions.proper-sum (Fractions.proper-quotient (num a d n) (den_pos d h.positive n))
      (Fractions.proper-quotient (a ^ suc n) (den_pos d h.positive (suc n))))
      (Fractions.same_sum (sum_is n) (term_is (suc n)))
      (record { crossed = omega arith })

  tail-sum-proper : (n : ℕ) → Proper (sum_with_tail n y)
  tail-sum-proper n = Fractions.proper-sum (sum-proper n) (Fractions.proper-product (record { positive = omega arith }) (term-proper (suc n)))

  -- with the tail k times
  tail-sum-at : (n k : ℕ) → partial_sum n y ⊕ whole k ⊗ series_term y (suc n) ≈ quotient (num a d n) (den d n) ⊕ whole k ⊗ quotient (a ^ suc n) (den d (suc n))
  tail-sum-at n k = Fractions.same_sum (sum_is n)
      (Fractions.same-product (record { positive = omega arith }) (term-proper (suc n)) (Fractions.same_refl (whole k)) (term_is (suc n)))

  tail-sum-is : (n : ℕ) → sum_with_tail n y ≈ quotient (tailed a d n) (den d (suc n))
  unfolding tailed den
  tail-sum-is n =
      Fractions.same-trans
      (Fractions.proper-sum (Fractions.proper-quotient (num a d n) (den_pos d h.positive n))
      (Fractions.proper-product (record { positive = omega arith }) (Fractions.proper-quotient (a ^ suc n) (den_pos d h.positive (suc n)))))
      (tail-sum-at n _)
      (record { crossed = omega arith })

  sum-positive : (n : ℕ) → Positive (partial_sum n y)
  sum-positive n =
      Fractions.positive-same (Fractions.proper-quotient (num a d n) (den_pos d h.positive n)) (sum-proper n) (Fractions.same-sym (sum_is n))
      (record { above = num_pos a d h.positive n })

  tailed-pos : (n : ℕ) → 0 < tailed a d n
  unfolding tailed
  tailed-pos n = omega (arith, mul-pos {m = suc n * d} {n = num a d n} (mul-pos {m = suc n} (omega arith) h.positive) (num_pos a d h.positive n))

  tail-sum-positive : (n : ℕ) → Positive (sum_with_tail n y)
  tail-sum-positive n =
      Fractions.positive-same (Fractions.proper-quotient (tailed a d n) (den_pos d h.positive (suc n))) (tail-sum-proper n)
      (Fractions.same-sym (tail-sum-is n))
      (record { above = tailed-pos n })

  pub high-proper : (n : ℕ) → Proper (bracket_high n y)
  high-proper n = Fractions.proper-reciprocal (sum-positive n)

  pub low-proper : (n : ℕ) → Proper (bracket_low n y)
  low-proper n = Fractions.proper-reciprocal (tail-sum-positive n)

  -- the ends of the bracket
  pub high_is : (n : ℕ) → bracket_high n y ≈ quotient (den d n) (num a d n)
  high_is n =
      rw (sub-zero (num a d n)) at (Fractions.same-reciprocal (sum-positive n) (record { above = num_pos a d h.positive n }) (sum_is n))

  pub low-is : (n : ℕ) → bracket_low n y ≈ quotient (den d (suc n)) (tailed a d n)
  low-is n =
      rw (sub-zero (tailed a d n)) at (Fractions.same-reciprocal (tail-sum-positive n) (record { above = tailed-pos n }) (tail-sum-is n))

  pub allowed-is : (n : ℕ) → Allowed n y → 2 * a ≤ (n + 2) * d
  allowed-is n p =
      le_of_mul-le-mul_left {m = 2 * a} {n = (n + 2) * d} {k = y.over}
      (omega (arith, mul-le-mul_left d p.reaches.crossed, ap (λ (t : ℕ). 2 * t) h.same.crossed)) h.proper.positive

  pub allowed_of : (n : ℕ) → 2 * a ≤ (n + 2) * d → Allowed n y
  allowed_of n p =
      record {
        reaches = record {
          crossed = le_of_mul-le-mul_left {k = d}
              (omega (arith, mul-le-mul_left y.over p, ap (λ (t : ℕ). 2 * t) h.same.crossed)) h.positive;
        };
      }

  -- 1 / E(m) lies in the bracket of every allowed order up to m.
  pub inside : (n m : ℕ) → n ≤ m → Allowed n y → InBracket n y (bracket_high m y)
  inside n m l p =
      record {
        proper = high-proper m;
        low = Fractions.at-most-trans (Fractions.proper-quotient (den d (suc n)) (tailed-pos n)) (Fractions.at-most-of-same (low-is n))
            (Fractions.at-most-trans (Fractions.proper-quotient (den d m) (num_pos a d h.positive m))
            (record { crossed = omega (arith, tail a d n (allowed-is n p) m) })
            (Fractions.at-most-of-same (Fractions.same-sym (high_is m))));
        high = Fractions.at-most-trans (Fractions.proper-quotient (den d m) (num_pos a d h.positive m)) (Fractions.at-most-of-same (high_is m))
            (Fractions.at-most-trans (Fractions.proper-quotient (den d n) (num_pos a d h.positive n))
            (record { crossed = omega (arith, growing a d n m l) })
            (Fractions.at-most-of-same (Fractions.same-sym (high_is n))));
      }

-- Equal exponents have equal brackets.
pub high-alike : {y z : Fraction} {a d : ℕ} → At y a d → At z a d → (n : ℕ) → bracket_high n y ≈ bracket_high n z
high-alike {a = a} {d = d} h k n =
    Fractions.same-trans (Fractions.proper-quotient (den d n) (num_pos a d h.positive n)) (high_is h n) (Fractions.same-sym (high_is k n))
