-- Document 01, "Proved examples", 2 to 4.
use Rattle.std.specs.Prelude.{Bool, true, false}
use Rattle.exact.specs.Fraction.{quotient, whole, negated, Equals}
use Rattle.coefficients.specs.Coefficients.{curve_a_lem}

-- A, other set, 192 months: C1 2,488; 193: 29635/12
pub record Example2 : Type 0 where
  pub at192 : Equals (curve_a_lem false 192).weight1 (whole 2488)
  pub at193 : Equals (curve_a_lem false 193).weight1 (quotient 29635 12)

-- A, first set: σ2 is 16/100 at 186, 19433/120000 at 187
pub record Example3 : Type 0 where
  pub at186 : Equals (curve_a_lem true 186).deviation2 (quotient 16 100)
  pub at187 : Equals (curve_a_lem true 187).deviation2 (quotient 19433 120000)

-- A, C2 at 8 months -25/3, at 9 5/4: in both sets
pub record Example4 : Type 0 where
  pub at8 : (first : Bool) → Equals (curve_a_lem first 8).weight2 (negated (quotient 25 3))
  pub at9 : (first : Bool) → Equals (curve_a_lem first 9).weight2 (quotient 5 4)
