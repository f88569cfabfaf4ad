-- Need not be believed: Promise.antt says how far these numbers are from the exact ones. A loan's two numbers in fixed point, as the code
-- computes them. No other crate unfolds these definitions.
use Rattle.std.specs.Prelude.{ℕ, zero, suc, ◌+◌, ◌*◌, ◌-◌, ◌/◌, ◌^◌, ◌≤◌, ◌<◌, min, max, Bool, true, false, List, [], ◌∷◌, leb}
use Rattle.fixed_point.specs.Quotient.{scaled_product_lem}
use Rattle.exponential.specs.Exponential.{exp_upper_lem}
use Rattle.coefficients.specs.Coefficients.{first_set_lem}
use Rattle.coefficients.specs.Integers.{scaled_a, scaled_b, scaled_c, tenths_b}
use Rattle.loan_charge.specs.CreditFactor.{count}
use Rattle.loan_charge.specs.declared.LoanInputs.{LoanInputs}
use Rattle.loan_charge.specs.declared.charge.Exponents.{Exponents}
use Rattle.loan_charge.specs.declared.charge.Heights.{Heights}
use Rattle.loan_charge.specs.declared.charge.LoanCharge.{LoanCharge}
use Rattle.fixed_point.specs.declared.Signed.{Signed}
use Rattle.coefficients.specs.declared.ScaledCurve.{ScaledCurve}

-- the units in which z is carried: so many to 1
abbrev pub unit : ℕ
unit = 120000 * 2 ^ 27

-- z = p / q, or 1 if that is less, and no more than 16, rounded down: from 16 on all exponentials are below their error and a is at its limit.
unfoldable pub scaled_value_lem : ℕ → ℕ → ℕ
scaled_value_lem p q = min (16 * unit) (unit * max p q / q)

-- the distance of z from a mean in 120000ths, rounded down, in the units of z
unfoldable pub distance : ℕ → ℕ → ℕ
distance w mean = w - mean * 2 ^ 27 + (mean * 2 ^ 27 - w - 1)

-- the same in standard deviations, in units of 2^-40
unfoldable pub deviations : ℕ → ℕ → ℕ → ℕ
deviations w mean deviation = distance w mean * 8192 / deviation

-- (z - mean)² / (2 deviation²) in units of 2^-38
unfoldable pub exponent : ℕ → ℕ → ℕ → ℕ
exponent w mean deviation = scaled_product_lem (deviations w mean deviation) (deviations w mean deviation) / 8

-- both exponents of a curve at z
unfoldable pub exponents : ℕ → ScaledCurve → Exponents
exponents w c = record { first = exponent w c.mean1 c.deviation1; second = exponent w c.mean2 c.deviation2 }

-- exp(-y) of both, in units of 2^-40, and never below it
unfoldable pub heights_at_lem : Exponents → Heights
heights_at_lem y = record { first = exp_upper_lem y.first; second = exp_upper_lem y.second }

unfoldable pub heights : ℕ → ScaledCurve → Heights
heights w c = heights_at_lem (exponents w c)

-- what the functions of a curve ask of its whole numbers
pub record Usable (c : ScaledCurve) : Type 0 where
  pub weight1 : c.weight1 ≤ 144240
  pub plus2 : c.plus2 ≤ 50640
  pub minus2 : c.minus2 ≤ 50640
  pub mean1 : c.mean1 < 2 ^ 20
  pub mean2 : c.mean2 < 2 ^ 20
  pub deviation1 : 8192 ≤ c.deviation1
  pub deviation2 : 8192 ≤ c.deviation2

-- C1 e1 + C2 e2 of a curve in 12ths, its exponentials and the sum in units of 2^-40
unfoldable pub weighted : ScaledCurve → Heights → Signed
weighted c h = record {
  plus = c.weight1 * h.first + c.plus2 * h.second;
  minus = c.minus2 * h.second;
}

-- the curve at z
unfoldable pub curve_units_lem : ℕ → ScaledCurve → Signed
curve_units_lem w c = weighted c (heights w c)

-- 10^7 x + k y, for x and y in units of 2^-40, rounded down
unfoldable pub scaled_sum_lem : (k x y : ℕ) → ℕ
scaled_sum_lem k x y = (10 ^ 7 * x + k * y) / 2 ^ 40

-- the same of both sides
unfoldable pub curves_sum_lem : ℕ → Signed → Signed → Signed
curves_sum_lem k a b = record { plus = scaled_sum_lem k a.plus b.plus; minus = scaled_sum_lem k a.minus b.minus }

-- m, given in 10^-17, in units of 2^-40
unfoldable pub factor : ℕ → ℕ
factor m = m * 2 ^ 40 / 10 ^ 17

-- 1.15, and a of the supplement's rate, in units of 1 / (10 unit): c in 12000ths
abbrev pub limit : ℕ
limit = 1380000 * 2 ^ 27

abbrev pub limited : ℕ → ℕ → ℕ
limited w c = min (c * 100 * 2 ^ 27 + (w - unit)) limit

-- a + b e of the supplement's rate, in units of 2^-40: b in tenths, the exponential e in units of 2^-40
unfoldable pub rate : ℕ → ℕ → ℕ → ℕ → ℕ
rate w c b e = limited w c * 8192 / 1200000 + b * e / 10

-- both sides times a number in units of 2^-40
unfoldable pub times : Signed → ℕ → Signed
times x f = record { plus = scaled_product_lem x.plus f; minus = scaled_product_lem x.minus f }

-- Money is carried in units of 1 / 1200000 cent, and numbers are made over an offset of 100000 cents.
unfoldable pub signed : ℕ → Signed
signed t = record { plus = t - 100000; minus = 100000 - t }

-- What covers all errors, in these units: of the total, which must not fall below, and of the supplement, which must not rise above.
abbrev pub total_pad : ℕ
total_pad = 500

abbrev pub supplement_pad : ℕ
supplement_pad = 11000

-- What is added before rounding: the offset, with the pad on the side of the rounding.
abbrev pub ceiling_offset : ℕ
ceiling_offset = 100000 * 1200000 + total_pad + 1199999

abbrev pub floor_offset : ℕ
floor_offset = 100000 * 1200000 - supplement_pad

-- two amounts together in cents, rounded up
unfoldable pub rounded_up_lem : Signed → Signed → Signed
rounded_up_lem x y = signed ((x.plus + y.plus + ceiling_offset - (x.minus + y.minus)) / 1200000)

-- an amount in cents, rounded down
unfoldable pub rounded_down_lem : Signed → Signed
rounded_down_lem x = signed ((x.plus + floor_offset - x.minus) / 1200000)

-- z of a loan
abbrev pub ratio_units : LoanInputs → ℕ
ratio_units l = scaled_value_lem l.value l.over

-- A and B of a loan
unfoldable pub a_units : LoanInputs → Signed
a_units l = curve_units_lem (ratio_units l) (scaled_a (first_set_lem l.term) l.months)

unfoldable pub b_units : LoanInputs → Signed
b_units l = curve_units_lem (ratio_units l) (scaled_b (first_set_lem l.term) l.months)

-- The base: A counts 10^7 times and B by the balance in cents, both in 12ths.
unfoldable pub base_units_lem : LoanInputs → Signed
base_units_lem l = times (curves_sum_lem l.balance (a_units l) (b_units l)) (factor l.factor)

-- r of the supplement
unfoldable pub rate_units_lem : LoanInputs → ℕ
rate_units_lem l =
    rate (ratio_units l) (scaled_c (first_set_lem l.term) l.months) (tenths_b (first_set_lem l.term) l.months) (exp_upper_lem (l.months * 2 ^ 38 / 120))

abbrev pub zero_amount : Signed
zero_amount = record { plus = 0; minus = 0 }

-- both numbers from the base and r, with a supplement or without
unfoldable pub charge_from : Bool → Signed → ℕ → LoanCharge
charge_from true base r = record { total = rounded_up_lem base (times base r); supplement = rounded_down_lem (times base r) }
charge_from false base r = record { total = rounded_up_lem base zero_amount; supplement = zero_amount }

-- A loan's two numbers: its base plus supplement, and its supplement, in cents.
unfoldable pub charge_of : LoanInputs → LoanCharge
charge_of l = charge_from l.supplement (base_units_lem l) (rate_units_lem l)

-- The limits of a table as the code counts them: low, low + step, .., so many
unfoldable pub limits : (low step count : ℕ) → List ℕ
limits low step zero = []
limits low step (suc n) = low ∷ limits (low + step) step n

-- how many of them are at or below x
unfoldable pub reached_of : (x low step most : ℕ) → ℕ
reached_of x low step most = count (λ limit. leb limit x) (limits low step most)
