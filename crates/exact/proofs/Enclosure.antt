-- When a fraction is at or above, or at or below, exp(-a / d). There is no real exponential: its partial sums stand for it.
-- Both forms are stronger than those of document 01, "The exponential", and unlike them compose under products.
-- Assumes nothing.
use Prim.Native.Nat.{ℕ, suc, ◌+◌, ◌*◌, ◌≤◌, ◌<◌}
use native.Mathlib.Nat.{mul-pos, mul-le-mul, mul-le-mul_left, le_of_mul-le-mul_left}
use native.Mathlib.Omega.{arith}
use Rattle.exact.proofs.Addition.{upper, lower}
use Rattle.exact.proofs.Sums.{num, den, tailed, den_pos, growing, monotone, tail}

-- t / g is at or above exp(-a / d): t / g times E(n) is at least 1 at some order n.
pub record Above (t g a d : ℕ) : Type 0 where
  pub order : ℕ
  pub reached : g * den d order ≤ t * num a d order

-- s / g is at or below exp(-a / d): s / g times E(n) is at most 1 at every order n.
pub record Below (s g a d : ℕ) : Type 0 where
  pub every : (n : ℕ) → s * num a d n ≤ g * den d n

-- What holds at an order holds at all larger orders.
pub above_from : {t g a d : ℕ} → 0 < d → (h : Above t g a d) → (m : ℕ) → h.order ≤ m → g * den d m ≤ t * num a d m
above_from {t} {g} {a} {d} pos h m le =
    le_of_mul-le-mul_left {k = den d h.order}
    (omega (arith, mul-le-mul_left (den d m) h.reached, mul-le-mul_left t (growing a d h.order m le)))
    (den_pos d pos h.order)

-- A product of values belongs to the sum of the exponents.
pub above-product : {t g t' g' a b d : ℕ} → 0 < d → Above t g a d → Above t' g' b d → Above (t * t') (g * g') (a + b) d
above-product {t} {g} {t'} {g'} {a} {b} {d} pos h k = record {
  order = h.order + k.order;
  reached =
      le_of_mul-le-mul_left {k = den d h.order * den d k.order}
      (omega (
        arith,
        mul-le-mul_left (den d (h.order + k.order)) (mul-le-mul h.reached k.reached),
        mul-le-mul_left (t * t') (lower a b d h.order k.order pos),
      ))
      (mul-pos (den_pos d pos h.order) (den_pos d pos k.order));
}

pub below-product : {s g s' g' a b d : ℕ} → 0 < d → Below s g a d → Below s' g' b d → Below (s * s') (g * g') (a + b) d
below-product {s} {g} {s'} {g'} {a} {b} {d} pos h k = record {
  every = λ n.
      le_of_mul-le-mul_left {k = den d n}
      (omega (arith, mul-le-mul (h.every n) (k.every n), mul-le-mul_left (s * s') (upper a b d n pos)))
      (den_pos d pos n);
}

-- Above passes to a larger exponent, Below to a smaller one.
pub above-exponent : {t g a d a' d' : ℕ} → 0 < d → a * d' ≤ a' * d → Above t g a d → Above t g a' d'
above-exponent {t} {g} {a} {d} {a'} {d'} pos le h = record {
  order = h.order;
  reached =
      le_of_mul-le-mul_left {k = den d h.order}
      (omega (arith, mul-le-mul_left (den d' h.order) h.reached, mul-le-mul_left t (monotone a d a' d' le h.order)))
      (den_pos d pos h.order);
}

pub below-exponent : {s g a d a' d' : ℕ} → 0 < d' → a * d' ≤ a' * d → Below s g a' d' → Below s g a d
below-exponent {s} {g} {a} {d} {a'} {d'} pos le h = record {
  every = λ n.
      le_of_mul-le-mul_left {k = den d' n}
      (omega (arith, mul-le-mul_left (den d n) (h.every n), mul-le-mul_left s (monotone a d a' d' le n)))
      (den_pos d' pos n);
}

-- Above passes to a larger value, Below to a smaller one.
pub above-value : {t g t' g' a d : ℕ} → 0 < g → t * g' ≤ t' * g → Above t g a d → Above t' g' a d
above-value {t} {g} {t'} {g'} {a} {d} pos le h = record {
  order = h.order;
  reached =
      le_of_mul-le-mul_left {k = g}
      (omega (arith, mul-le-mul_left g' h.reached, mul-le-mul_left (num a d h.order) le))
      pos;
}

pub below-value : {s g s' g' a d : ℕ} → 0 < g → s' * g ≤ s * g' → Below s g a d → Below s' g' a d
below-value {s} {g} {s'} {g'} {a} {d} pos le h = record {
  every = λ n. le_of_mul-le-mul_left {k = g} (omega (arith, mul-le-mul_left g' (h.every n), mul-le-mul_left (num a d n) le)) pos;
}

-- Below a value of one order's tail is below at every order.
pub below-tail : {s g a d : ℕ} (n : ℕ) → 0 < d → 2 * a ≤ (n + 2) * d → s * tailed a d n ≤ g * den d (suc n) → Below s g a d
below-tail {s} {g} {a} {d} n pos allowed le = record {
  every = λ m.
      le_of_mul-le-mul_left {k = den d (suc n)}
      (omega (arith, mul-le-mul_left (den d m) le, mul-le-mul_left s (tail a d n allowed m)))
      (den_pos d pos (suc n));
}
