-- From z in fixed point to an exponential of 000, 1.1.2: the exponent's enclosure, and with the exponential's law that of its value.
-- Assumes nothing.
use mathlib.Core.Path.{◌≡◌, ap}
use mathlib.Core.Logic.{◌⊎◌, inl, inr}
use Prim.Native.Nat.{ℕ, ◌+◌, ◌*◌, ◌-◌, ◌/◌, ◌^◌, ◌≤◌, ◌<◌}
use native.Mathlib.Decide.{dec_le}
use native.Mathlib.Omega.{arith}
use native.Mathlib.Nat.{div-le_of_le-mul, mul-le-mul, mul-le-mul_right, mul-le-mul_left, mul-pos, le_trans, lt_of_not-le, div-mul-le_self}
use native.Mathlib.Nat.{lt-div-mul-add, le-div_iff_mul-le}
use Rattle.exact.proofs.Sums.{num, den, num_pos, growing}
use Rattle.exponential.specs.Exponential.{exp_upper_lem}
use Rattle.exponential.proofs.Laws as Exponential
use Rattle.loan_charge.specs.Computation.{unit, distance, deviations, exponent}
use Rattle.loan_charge.proofs.Money.{Value}
use Rattle.loan_charge.proofs.ScaledValue.{Held}

pub distance-bound : (w mean : ℕ) → w ≤ 16 * unit → mean < 2 ^ 20 → distance w mean ≤ 16 * unit
unfolding distance
distance-bound w mean h k = omega arith

pub deviations-bound : (w mean deviation : ℕ) → w ≤ 16 * unit → mean < 2 ^ 20 → 8192 ≤ deviation → deviations w mean deviation ≤ 16 * unit
unfolding deviations
deviations-bound w mean deviation h k small =
    div-le_of_le-mul deviation
    (le_trans (mul-le-mul_right 8192 (distance-bound w mean h k)) (omega (arith, mul-le-mul_right (16 * unit) small)))

-- |120000 p - mean q|: the distance of p / q from a mean in 120000ths, over 120000 q
abbrev pub exact_distance : ℕ → ℕ → ℕ → ℕ
exact_distance p q mean = 120000 * p - mean * q + (mean * q - 120000 * p)

-- (p / q - mean)² / (2 deviation²), with mean and deviation in 120000ths: numerator and denominator
abbrev pub exponent_num : ℕ → ℕ → ℕ → ℕ
exponent_num p q mean = exact_distance p q mean * exact_distance p q mean

abbrev pub exponent_den : ℕ → ℕ → ℕ
exponent_den q deviation = 2 * (deviation * q * (deviation * q))

-- The distance w - c or c - w - 1 in units of z, over the variables only.
after-mean : (P q w mean d : ℕ) → d + mean * 2 ^ 27 ≡ w → w * q ≤ unit * P → d * q ≤ 2 ^ 27 * exact_distance P q mean
after-mean P q w mean d e h = omega (arith, ap (λ (t : ℕ). t * q) e)

after-mean-high : (P q w mean d : ℕ) → d + mean * 2 ^ 27 ≡ w → w * q ≤ unit * P → unit * P < (w + 1) * q → 2 ^ 27 * exact_distance P q mean ≤ (d + 1) * q
after-mean-high P q w mean d e h k = omega (arith, ap (λ (t : ℕ). t * q) e)

before-mean : (P q w mean d : ℕ) → d + w + 1 ≡ mean * 2 ^ 27 → w * q ≤ unit * P → unit * P < (w + 1) * q →
    (d * q ≤ 2 ^ 27 * exact_distance P q mean) × (2 ^ 27 * exact_distance P q mean ≤ (d + 1) * q)
before-mean P q w mean d e h k = (omega (arith, ap (λ (t : ℕ). t * q) e), omega (arith, ap (λ (t : ℕ). t * q) e))

module _ {P q w : ℕ} (h : Held P q w) (mean : ℕ) (small : mean < 2 ^ 20) where
  distance-low : distance w mean * q ≤ 2 ^ 27 * exact_distance P q mean
  unfolding distance
  distance-low = go (dec_le (mean * 2 ^ 27) w)
    where
      go : Dec (mean * 2 ^ 27 ≤ w) → distance w mean * q ≤ 2 ^ 27 * exact_distance P q mean
      go (yes k) = after-mean P q w mean (distance w mean) (omega arith) h.low
      go (no k) =
          (before-mean P q w mean (distance w mean) (omega (arith, lt_of_not-le k)) h.low (h.high (omega (arith, lt_of_not-le k)))).0

  distance_high : w < 16 * unit → 2 ^ 27 * exact_distance P q mean ≤ (distance w mean + 1) * q
  unfolding distance
  distance_high inside = go (dec_le (mean * 2 ^ 27) w)
    where
      go : Dec (mean * 2 ^ 27 ≤ w) → 2 ^ 27 * exact_distance P q mean ≤ (distance w mean + 1) * q
      go (yes k) = after-mean-high P q w mean (distance w mean) (omega arith) h.low (h.high inside)
      go (no k) = (before-mean P q w mean (distance w mean) (omega (arith, lt_of_not-le k)) h.low (h.high inside)).1

-- In standard deviations: t = 8192 d / σ.
deviations-step : (d t σ q D : ℕ) → t * σ ≤ d * 8192 → d * q ≤ 2 ^ 27 * D → t * (σ * q) ≤ 2 ^ 40 * D
deviations-step d t σ q D h k = omega (arith, mul-le-mul_right q h)

deviations-step-high : (d t σ q D : ℕ) → d * 8192 < t * σ + σ → 8192 ≤ σ → 2 ^ 27 * D ≤ (d + 1) * q → 2 ^ 40 * D ≤ (t + 2) * (σ * q)
deviations-step-high d t σ q D h s k = omega (arith, mul-le-mul_right q h, mul-le-mul_right q s)

-- Its square: y = t² / 2^43; the exponent is D² / (2 Q²).
square-low : (t y D Q : ℕ) → y * 2 ^ 43 ≤ t * t → t * Q ≤ 2 ^ 40 * D → y * (2 * (Q * Q)) ≤ 2 ^ 38 * (D * D)
square-low t y D Q h k = omega (arith, mul-le-mul_right (Q * Q) h, mul-le-mul k k)

square-high : (t y D Q : ℕ) → t * t < (y + 1) * 2 ^ 43 → t ≤ 7 * 2 ^ 40 → 2 ^ 40 * D ≤ (t + 2) * Q → 2 ^ 38 * (D * D) ≤ (y + 5) * (2 * (Q * Q))
square-high t y D Q h s k =
    let whole : t * t + 4 * t + 4 ≤ (y + 5) * 2 ^ 43 = omega arith in
    omega (arith, mul-le-mul_right (Q * Q) whole, mul-le-mul k k)

-- Far from the mean the exponent is beyond 24.
far : (t y : ℕ) → t * t < (y + 1) * 2 ^ 43 → 7 * 2 ^ 40 < t → 1536 * 2 ^ 32 ≤ y
far t y h k = omega (arith, mul-le-mul k k)

module _ {P q w : ℕ} (h : Held P q w) (mean σ : ℕ) (mean-most : mean ≤ 170400) (least : 8192 ≤ σ) (most : σ ≤ 77256) where
  beyond : 16 * unit ≤ w → 7 * 2 ^ 40 < deviations w mean σ
  unfolding deviations distance
  beyond k =
      (le-div_iff_mul-le {k = σ} (omega arith)).1
      (omega (arith, mul-le-mul_left (7 * 2 ^ 40 + 1) most))

  exponent-low : exponent w mean σ * exponent_den q σ ≤ 2 ^ 38 * exponent_num P q mean
  unfolding exponent
  exponent-low =
      square-low (deviations w mean σ) (exponent w mean σ) (exact_distance P q mean) (σ * q) (omega arith)
      (deviations-step (distance w mean) (deviations w mean σ) σ q (exact_distance P q mean)
      (unfold deviations in div-mul-le_self (distance w mean * 8192) σ)
      (distance-low h mean (omega arith)))

  exponent-high : (2 ^ 38 * exponent_num P q mean ≤ (exponent w mean σ + 5) * exponent_den q σ) ⊎ (1536 * 2 ^ 32 ≤ exponent w mean σ)
  unfolding exponent
  exponent-high = go (dec_le (deviations w mean σ) (7 * 2 ^ 40)) (dec_le (16 * unit) w)
    where
      go : Dec (deviations w mean σ ≤ 7 * 2 ^ 40) → Dec (16 * unit ≤ w) →
          (2 ^ 38 * exponent_num P q mean ≤ (exponent w mean σ + 5) * exponent_den q σ) ⊎ (1536 * 2 ^ 32 ≤ exponent w mean σ)
      go (no k) d = inr (far (deviations w mean σ) (exponent w mean σ) (omega arith) (lt_of_not-le k))
      go (yes k) (yes l) = inr (far (deviations w mean σ) (exponent w mean σ) (omega arith) (beyond l))
      go (yes k) (no l) =
          inl
          (square-high (deviations w mean σ) (exponent w mean σ) (exact_distance P q mean) (σ * q) (omega arith) k
          (deviations-step-high (distance w mean) (deviations w mean σ) σ q (exact_distance P q mean)
          (unfold deviations in lt-div-mul-add {a = distance w mean * 8192} {b = σ} (omega arith))
          least
          (distance_high h mean (omega arith) (lt_of_not-le l))))

  pub denominator-positive : 0 < exponent_den q σ
  denominator-positive =
      let Q : 0 < σ * q = mul-pos {m = σ} (omega arith) h.positive in
      omega (arith, mul-pos Q Q)

  pub gauss-near : Exponential.NearExponential (exp_upper_lem (exponent w mean σ)) (exponent_num P q mean) (exponent_den q σ)
  gauss-near =
      Exponential.near (exponent w mean σ) (exponent_num P q mean) (exponent_den q σ) denominator-positive exponent-low exponent-high

-- exp(-n / 120)
pub months-near : (n : ℕ) → Exponential.NearExponential (exp_upper_lem (n * 2 ^ 38 / 120)) n 120
months-near n = Exponential.near (n * 2 ^ 38 / 120) n 120 (omega arith) (omega arith) (inl (omega arith))

-- The value of an exponential, at every order from some order on.
pub value-at : {u a d : ℕ} (h : Exponential.NearExponential u a d) → 0 < d → (m : ℕ) → h.from ≤ m → Value u (den d m) (num a d m)
unfolding num den
value-at {u} {a} {d} h pos m l = record {
  positive = num_pos a d pos m;
  most = omega (arith, growing a d 0 m (omega arith));
  near = record { low = omega (arith, h.below m); high = omega (arith, h.above m l) };
}
