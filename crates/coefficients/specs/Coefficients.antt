-- The coefficients of the curves A and B (000, 1.1.2) and of the supplement's rate (000, 1.1.3), in years and per cents as printed.
-- The first set (`true`) serves a remaining insurance term of up to five years, the other (`false`) a longer one.
use Rattle.std.specs.Prelude.{ℕ, ◌≤◌, Bool, true, false, leb}
use Rattle.exact.specs.Choice.{up_to}
use Rattle.exact.specs.Fraction.{Fraction, quotient, whole, ◌⊕◌, ◌⊖◌, ◌⊗◌}

-- "five years or less": a remaining insurance term, in months, that the first set serves
abbrev pub first_set_lem : ℕ → Bool
first_set_lem term = leb term 60

-- T*: the remaining amortization in years (document 01: amortization / 12), at most 40. Limits below are in months: 15.5 years are 186.
abbrev pub years : ℕ → Fraction
years months = quotient months 12

-- a remaining amortization in months, as a line can have it
pub record Months (n : ℕ) : Type 0 where
  pub least : 1 ≤ n
  pub most : n ≤ 480

-- C1, μ1, σ1, C2, μ2, σ2 of a curve
pub record Curve : Type 0 where
  pub weight1 : Fraction
  pub mean1 : Fraction
  pub deviation1 : Fraction
  pub weight2 : Fraction
  pub mean2 : Fraction
  pub deviation2 : Fraction

-- 000, 1.1.2 i): A
unfoldable pub weight_1a : Bool → ℕ → Fraction
weight_1a true n =
    up_to 132 n
    (whole 123 ⊗ years n ⊕ whole 520)
    (whole 2250 ⊖ whole 25 ⊗ years n)
weight_1a false n =
    up_to 192 n
    (whole 123 ⊗ years n ⊕ whole 520)
    (up_to 300 n
    (whole 3515 ⊖ whole 65 ⊗ years n)
    (whole 2885 ⊖ whole 39 ⊗ years n))

unfoldable pub deviation_1a : Bool → ℕ → Fraction
deviation_1a true n =
    up_to 120 n
    (quotient 17 100)
    (up_to 300 n
    (quotient 19 100 ⊖ quotient 2 1000 ⊗ years n)
    (quotient 14 100))
deviation_1a false n = quotient 17 100

unfoldable pub weight_2a : Bool → ℕ → Fraction
weight_2a true n =
    up_to 204 n
    (whole 115 ⊗ years n ⊖ whole 85)
    (whole 1900)
weight_2a false n =
    up_to 300 n
    (whole 115 ⊗ years n ⊖ whole 85)
    (whole 68 ⊗ years n ⊕ whole 1110)

unfoldable pub deviation_2a : Bool → ℕ → Fraction
deviation_2a true n =
    up_to 186 n
    (quotient 16 100)
    (quotient 59 10000 ⊗ years n ⊕ quotient 7 100)
deviation_2a false n =
    up_to 186 n
    (quotient 16 100)
    (quotient 109 10000 ⊗ years n ⊖ quotient 94 10000)

unfoldable pub curve_a_lem : Bool → ℕ → Curve
curve_a_lem first n = record {
  weight1 = weight_1a first n;
  mean1 = quotient 90 100;
  deviation1 = deviation_1a first n;
  weight2 = weight_2a first n;
  mean2 = quotient 125 100;
  deviation2 = deviation_2a first n;
}

-- 000, 1.1.2 ii): B
unfoldable pub weight_1b : Bool → ℕ → Fraction
weight_1b true n =
    up_to 132 n
    (whole 233 ⊗ years n ⊕ whole 1975)
    (whole 4450)
weight_1b false n =
    up_to 300 n
    (whole 233 ⊗ years n ⊕ whole 1975)
    (whole 282 ⊗ years n ⊕ whole 740)

unfoldable pub mean_1b : Bool → ℕ → Fraction
mean_1b true n = quotient 94 100
mean_1b false n =
    up_to 237 n
    (quotient 94 100)
    (up_to 312 n
    (quotient 140 100 ⊖ quotient 233 10000 ⊗ years n)
    (quotient 80 100))

unfoldable pub deviation_1b : Bool → ℕ → Fraction
deviation_1b true n =
    up_to 168 n
    (quotient 23 100)
    (up_to 300 n
    (quotient 32 100 ⊖ quotient 64 10000 ⊗ years n)
    (quotient 16 100))
deviation_1b false n =
    up_to 177 n
    (quotient 23 100)
    (quotient 163 10000 ⊗ years n ⊖ quotient 82 10000)

unfoldable pub weight_2b : Bool → ℕ → Fraction
weight_2b true n =
    up_to 180 n
    (whole 1550)
    (up_to 216 n
    (whole 400 ⊗ years n ⊖ whole 4450)
    (up_to 300 n
    (whole 130 ⊗ years n ⊕ whole 420)
    (whole 30 ⊗ years n ⊕ whole 3020)))
weight_2b false n =
    up_to 231 n
    (whole 1550)
    (up_to 312 n
    (whole 133 ⊗ years n ⊖ whole 1030)
    (whole 5490 ⊖ whole 117 ⊗ years n))

unfoldable pub mean_2b : Bool → ℕ → Fraction
mean_2b true n =
    up_to 180 n
    (quotient 62 10000 ⊗ years n ⊕ quotient 121 100)
    (quotient 130 100)
mean_2b false n =
    up_to 399 n
    (quotient 62 10000 ⊗ years n ⊕ quotient 121 100)
    (quotient 142 100)

unfoldable pub deviation_2b : Bool → ℕ → Fraction
deviation_2b true n =
    up_to 180 n
    (quotient 14 100)
    (quotient 4 1000 ⊗ years n ⊕ quotient 8 100)
deviation_2b false n =
    up_to 228 n
    (quotient 14 100)
    (up_to 324 n
    (quotient 103 10000 ⊗ years n ⊖ quotient 584 10000)
    (quotient 215 1000))

unfoldable pub curve_b_lem : Bool → ℕ → Curve
curve_b_lem first n = record {
  weight1 = weight_1b first n;
  mean1 = mean_1b first n;
  deviation1 = deviation_1b first n;
  weight2 = weight_2b first n;
  mean2 = mean_2b first n;
  deviation2 = deviation_2b first n;
}

-- 000, 1.1.3: c, which is 0.08 in the other set, and b
unfoldable pub rate_c_lem : Bool → ℕ → Fraction
rate_c_lem true n =
    up_to 120 n
    (quotient 8 100)
    (up_to 156 n
    (quotient 32 100 ⊖ quotient 13 1000 ⊗ years n)
    (quotient 19 100))
rate_c_lem false n = quotient 8 100

unfoldable pub rate_b_lem : Bool → ℕ → Fraction
rate_b_lem true n = up_to 120 n (quotient 3 10) (whole 0)
rate_b_lem false n = quotient 3 10
