-- The exact charge of a loan in cents (document 01, "The loan charge"; 000, 1.1.2, 1.1.3 and 1.1.5), once each exp(-y) has a value.
use Rattle.std.specs.Prelude.{ℕ, ◌*◌, ◌^◌, ◌≤◌, Bool, true, false, List, [], ◌∷◌, ◌++◌}
use Rattle.exact.specs.Fraction.{Fraction, quotient, whole, reciprocal, larger, smaller, ◌⊕◌, ◌⊖◌, ◌⊗◌}
use Rattle.exact.specs.Quantity.{Assignment, Quantity}
use Rattle.exact.specs.Choice.{pick, up_to}
use Rattle.coefficients.specs.Coefficients.{Curve, first_set_lem, curve_a_lem, curve_b_lem, rate_c_lem, rate_b_lem}
use Rattle.loan_charge.specs.declared.LoanInputs.{LoanInputs}

-- 000, 1.1.5: z = p / q, value over balance, or 1 if that is less (1 / LTV, with LTV at most 100%)
unfoldable pub value_ratio : ℕ → ℕ → Fraction
value_ratio p q = larger (quotient p q) (whole 1)

-- (z - μ)² / (2 σ²)
unfoldable pub gauss_exponent : (z mean deviation : Fraction) → Fraction
gauss_exponent z mean deviation = (z ⊖ mean) ⊗ (z ⊖ mean) ⊗ reciprocal (whole 2 ⊗ (deviation ⊗ deviation))

abbrev pub exponent1 : Curve → Fraction → Fraction
exponent1 c z = gauss_exponent z c.mean1 c.deviation1

abbrev pub exponent2 : Curve → Fraction → Fraction
exponent2 c z = gauss_exponent z c.mean2 c.deviation2

-- 000, 1.1.2: C1 × exp(-(z - μ1)² / (2 σ1²)) + C2 × exp(-(z - μ2)² / (2 σ2²))
unfoldable pub curve_value : Curve → Fraction → Assignment → Fraction
curve_value c z exp = c.weight1 ⊗ exp (exponent1 c z) ⊕ c.weight2 ⊗ exp (exponent2 c z)

-- z of a loan, and its curves A and B: the set of coefficients goes by the insurance term, the piece by the amortization
abbrev pub ratio_of : LoanInputs → Fraction
ratio_of l = value_ratio l.value l.over

abbrev pub curve_a_of : LoanInputs → Curve
curve_a_of l = curve_a_lem (first_set_lem l.term) l.months

abbrev pub curve_b_of : LoanInputs → Curve
curve_b_of l = curve_b_lem (first_set_lem l.term) l.months

-- 000, 1.1.2: m × (A + B × balance / 10,000,000) dollars, in cents; the balance is in cents and m in 10^-17
unfoldable pub exact_base : LoanInputs → Assignment → Fraction
exact_base l exp =
    whole 100 ⊗ quotient l.factor (10 ^ 17) ⊗
    (curve_value (curve_a_of l) (ratio_of l) exp ⊕ curve_value (curve_b_of l) (ratio_of l) exp ⊗ quotient l.balance 10000000)

-- 000, 1.1.3: a = the smaller of c + 0.1 (z - 1) and 1.15
unfoldable pub rate_a : LoanInputs → Fraction
rate_a l = smaller (rate_c_lem (first_set_lem l.term) l.months ⊕ quotient 1 10 ⊗ (ratio_of l ⊖ whole 1)) (quotient 115 100)

-- 000, 1.1.3: r = a + b × exp(-0.1 T*), where T* is months / 12
unfoldable pub exact_rate : LoanInputs → Assignment → Fraction
exact_rate l exp = rate_a l ⊕ rate_b_lem (first_set_lem l.term) l.months ⊗ exp (quotient l.months 120)

-- 000, 1.1.3: r × base where the supplement applies, else 0
unfoldable pub exact_supplement : LoanInputs → Assignment → Fraction
exact_supplement l exp = pick l.supplement (exact_rate l exp ⊗ exact_base l exp) (whole 0)

unfoldable pub exact_total : LoanInputs → Assignment → Fraction
exact_total l exp = exact_base l exp ⊕ exact_supplement l exp

-- the exponents in the base
unfoldable pub base_exponents : LoanInputs → List Fraction
base_exponents l =
    exponent1 (curve_a_of l) (ratio_of l) ∷ exponent2 (curve_a_of l) (ratio_of l) ∷
    exponent1 (curve_b_of l) (ratio_of l) ∷ exponent2 (curve_b_of l) (ratio_of l) ∷ []

-- the exponents in r: none where b is 0
unfoldable pub rate_exponents : (first : Bool) (months : ℕ) → List Fraction
rate_exponents true months = up_to 120 months (quotient months 120 ∷ []) []
rate_exponents false months = quotient months 120 ∷ []

-- the exponents in base and r together
abbrev pub all_exponents : LoanInputs → List Fraction
all_exponents l = base_exponents l ++ rate_exponents (first_set_lem l.term) l.months

-- the exponents in the supplement: none where it does not apply
unfoldable pub supplement_exponents : LoanInputs → List Fraction
supplement_exponents l = pick l.supplement (all_exponents l) []

unfoldable pub total_exponents : LoanInputs → List Fraction
total_exponents l = pick l.supplement (all_exponents l) (base_exponents l)

-- a loan's base plus supplement, and its supplement, by document 01's notion of an exact quantity
abbrev pub total_quantity : LoanInputs → Quantity
total_quantity l = record { exponents = total_exponents l; value = exact_total l }

abbrev pub supplement_quantity : LoanInputs → Quantity
supplement_quantity l = record { exponents = supplement_exponents l; value = exact_supplement l }

-- The loans for which there is a charge. Document 01's ranges are narrower; the divisor leaves room for value and balance times an index.
pub record Chargeable (l : LoanInputs) : Type 0 where
  pub divisor_least : 1 ≤ l.over
  pub divisor_most : l.over ≤ 2 * 10 ^ 16
  pub balance_most : l.balance ≤ 2 * 10 ^ 8
  pub months_least : 1 ≤ l.months
  pub months_most : l.months ≤ 480
  pub factor_most : l.factor ≤ 3 * 10 ^ 17
