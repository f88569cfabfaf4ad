-- What the whole numbers of Integers.antt promise: each is the paper's coefficient (Coefficients.antt), at every month and in both sets, and
-- is bounded. Proved in proofs/CoefficientLaws.antt.
use Rattle.std.specs.Prelude.{ℕ, ◌≤◌, min, Bool, ◌≡◌}
use Rattle.exact.specs.Fraction.{Fraction, quotient, Equals}
use Rattle.coefficients.specs.Coefficients.{Months, Curve, curve_a_lem, curve_b_lem, rate_c_lem, rate_b_lem}
use Rattle.coefficients.specs.Integers.{scaled_a, scaled_b, scaled_c, tenths_b}
use Rattle.coefficients.specs.declared.ScaledCurve.{ScaledCurve}

-- x is i / over, and i lies between low and high
pub record Scaled (over low high : ℕ) (x : Fraction) (i : ℕ) : Type 0 where
  pub is : Equals x (quotient i over)
  pub least : low ≤ i
  pub most : i ≤ high

-- x is (plus - minus) / over, one of the two is 0, and both are bounded
pub record ScaledSigned (over most-plus most-minus minus : ℕ) (x : Fraction) (plus : ℕ) : Type 0 where
  pub is : Equals x (record { plus = plus; minus = minus; over = over })
  pub one_sided : min plus minus ≡ 0
  pub plus_most : plus ≤ most-plus
  pub minus_most : minus ≤ most-minus

abbrev pub Mean : Fraction → ℕ → Type 0
Mean = Scaled 120000 95304 170400

abbrev pub Deviation : Fraction → ℕ → Type 0
Deviation = Scaled 120000 8192 77256

-- A curve is given by its whole numbers.
pub record ScaledCurveOf (most-weight1 most-plus2 most-minus2 : ℕ) (curve : Curve) (s : ScaledCurve) : Type 0 where
  pub weight1 : Scaled 12 0 most-weight1 curve.weight1 s.weight1
  pub mean1 : Mean curve.mean1 s.mean1
  pub deviation1 : Deviation curve.deviation1 s.deviation1
  pub weight2 : ScaledSigned 12 most-plus2 most-minus2 s.minus2 curve.weight2 s.plus2
  pub mean2 : Mean curve.mean2 s.mean2
  pub deviation2 : Deviation curve.deviation2 s.deviation2

-- For every month and both sets of coefficients: the curves A and B, and c and b of the supplement's rate.
pub record Promise : Type 0 where
  pub a : (first : Bool) (n : ℕ) → Months n → ScaledCurveOf 29856 45960 905 (curve_a_lem first n) (scaled_a first n)
  pub b : (first : Bool) (n : ℕ) → Months n → ScaledCurveOf 144240 50640 0 (curve_b_lem first n) (scaled_b first n)
  pub rate_c : (first : Bool) (n : ℕ) → Months n → Scaled 12000 960 2280 (rate_c_lem first n) (scaled_c first n)
  pub rate_b : (first : Bool) (n : ℕ) → Months n → Scaled 10 0 3 (rate_b_lem first n) (tenths_b first n)
