-- The sizes of what the charge computes, so that each step fits.
-- Assumes nothing.
use mathlib.Core.Path.{◌≡◌, ◌∙◌, ap, ap₂, subst⁻¹}
use mathlib.Core.Bool.{Bool}
use Prim.Native.Nat.{ℕ, ◌+◌, ◌*◌, ◌/◌, ◌^◌, ◌≤◌}
use native.Mathlib.Omega.{arith}
use native.Mathlib.Nat.{mul-le-mul, le_trans}
use Rattle.exponential.specs.Exponential.{exp_upper_lem}
use Rattle.exponential.proofs.Laws as Exponential
use Rattle.coefficients.specs.Coefficients.{Curve, first_set_lem, Months}
use Rattle.coefficients.specs.Integers.{scaled_a, scaled_b, scaled_c, tenths_b}
use Rattle.loan_charge.specs.Computation.{exponents, heights_at_lem, heights, Usable, weighted, curve_units_lem, curves_sum_lem, factor, rate, times}
use Rattle.loan_charge.specs.Computation.{ratio_units, a_units, b_units, base_units_lem, rate_units_lem}
use Rattle.loan_charge.specs.Charge.{Chargeable}
use Rattle.loan_charge.specs.declared.LoanInputs.{LoanInputs}
use Rattle.coefficients.specs.declared.ScaledCurve.{ScaledCurve}
use Rattle.loan_charge.specs.declared.charge.Exponents.{Exponents}
use Rattle.fixed_point.specs.declared.Signed.{Signed}
use Rattle.coefficients.specs.Promise.{ScaledCurveOf}
use Rattle.coefficients.proofs.CoefficientLaws.{scaled-a, scaled-b, tenths-b}
use Rattle.loan_charge.proofs.Money.{Weights, AtMostOne, SignedAtMost, weighted-most, curves-most, times-most}

-- The coefficients.

pub weights : {w p m : ℕ} {curve : Curve} {s : ScaledCurve} → ScaledCurveOf w p m curve s → Weights w p m s
weights h = record { weight1 = h.weight1.most; plus2 = h.weight2.plus_most; minus2 = h.weight2.minus_most }

usable : {w p m : ℕ} {curve : Curve} {s : ScaledCurve} → ScaledCurveOf w p m curve s → w ≤ 144240 → p ≤ 50640 → m ≤ 50640 → Usable s
usable h hw hp hm = record {
  weight1 = le_trans h.weight1.most hw;
  plus2 = le_trans h.weight2.plus_most hp;
  minus2 = le_trans h.weight2.minus_most hm;
  mean1 = omega (arith, h.mean1.most);
  mean2 = omega (arith, h.mean2.most);
  deviation1 = h.deviation1.least;
  deviation2 = h.deviation2.least;
}

pub usable-a : (first : Bool) {n : ℕ} {s : ScaledCurve} → s ≡ scaled_a first n → Months n → Usable s
usable-a first {n} e h = subst⁻¹ Usable e (usable (scaled-a n h first) (omega arith) (omega arith) (omega arith))

pub usable-b : (first : Bool) {n : ℕ} {s : ScaledCurve} → s ≡ scaled_b first n → Months n → Usable s
usable-b first {n} e h = subst⁻¹ Usable e (usable (scaled-b n h first) (omega arith) (omega arith) (omega arith))

pub heights-small : (y : Exponents) → AtMostOne (heights_at_lem y)
unfolding heights_at_lem
heights-small y = record { first = Exponential.bounded y.first; second = Exponential.bounded y.second }

-- What is weighted at a curve's exponents is the curve at z.
pub curve-is : {w z : ℕ} {c s : ScaledCurve} {y : Exponents} {r : Signed} → w ≡ z → c ≡ s → y ≡ exponents w c → r ≡ weighted c (heights_at_lem y) →
    r ≡ curve_units_lem z s
unfolding curve_units_lem heights
curve-is {c = c} ew ec ey er =
    er ∙
    ap (λ (y : Exponents). weighted c (heights_at_lem y)) ey ∙
    ap₂ (λ (n : ℕ) (k : ScaledCurve). weighted k (heights_at_lem (exponents n k))) ew ec

pub curve-most : {w p m : ℕ} {curve : Curve} {s : ScaledCurve} → ScaledCurveOf w p m curve s → (z : ℕ) →
    SignedAtMost (w * 2 ^ 40 + p * 2 ^ 40) (m * 2 ^ 40) (curve_units_lem z s)
unfolding curve_units_lem heights
curve-most {w} {p} {m} {s = s} h z = weighted-most w p m (weights h) (heights-small (exponents z s))

pub months-in : {l : LoanInputs} → Chargeable l → Months l.months
months-in c = record { least = c.months_least; most = c.months_most }

pub factor_most : (m : ℕ) → m ≤ 3 * 10 ^ 17 → factor m ≤ 3 * 2 ^ 40
unfolding factor
factor_most m h = omega arith

module _ (l : LoanInputs) (c : Chargeable l) where
  pub a-most : SignedAtMost (75816 * 2 ^ 40) (905 * 2 ^ 40) (a_units l)
  unfolding a_units
  a-most = let h = curve-most (scaled-a l.months (months-in c) (first_set_lem l.term)) (ratio_units l)
      in record { plus = omega (arith, h.plus); minus = h.minus }

  pub b_most : SignedAtMost (194880 * 2 ^ 40) 0 (b_units l)
  unfolding b_units
  b_most = let h = curve-most (scaled-b l.months (months-in c) (first_set_lem l.term)) (ratio_units l)
      in record { plus = omega (arith, h.plus); minus = omega (arith, h.minus) }

  -- A and B together
  pub sum-most : SignedAtMost 39735000000000 9050000000 (curves_sum_lem l.balance (a_units l) (b_units l))
  sum-most =
      curves-most l.balance (2 * 10 ^ 8) (75816 * 2 ^ 40) (905 * 2 ^ 40) (194880 * 2 ^ 40) 0 39735000000000 9050000000 c.balance_most a-most b_most
      (omega arith) (omega arith)

  pub base-most : SignedAtMost 119205000000000 27150000000 (base_units_lem l)
  unfolding base_units_lem
  base-most = times-most 39735000000000 9050000000 3 sum-most (factor_most l.factor c.factor_most)

pub rate-bound : (w c b e : ℕ) → b ≤ 3 → e ≤ 2 ^ 40 → rate w c b e ≤ 2 * 2 ^ 40
unfolding rate
rate-bound w c b e hb he = omega (arith, mul-le-mul hb he)

pub rate-units-most : (l : LoanInputs) → Chargeable l → rate_units_lem l ≤ 2 * 2 ^ 40
unfolding rate_units_lem
rate-units-most l c =
    rate-bound (ratio_units l) (scaled_c (first_set_lem l.term) l.months) (tenths_b (first_set_lem l.term) l.months) (exp_upper_lem (l.months * 2 ^ 38 / 120))
    (tenths-b l.months (months-in c) (first_set_lem l.term)).most (Exponential.bounded (l.months * 2 ^ 38 / 120))

pub supplement-most : {x : Signed} {r : ℕ} → SignedAtMost 119205000000000 27150000000 x → r ≤ 2 * 2 ^ 40 →
    SignedAtMost 238410000000000 54300000000 (times x r)
supplement-most h k = times-most 119205000000000 27150000000 2 h k
