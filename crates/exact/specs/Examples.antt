-- Document 01, "Proved examples", 1.
use Rattle.exact.specs.Fraction.{whole, quotient, Equals}
use Rattle.exact.specs.Exponential.{bracket_low, bracket_high}

-- exp(-1), order 2: 6/17 to 2/5
pub record Example1 : Type 0 where
  pub low : Equals (bracket_low 2 (whole 1)) (quotient 6 17)
  pub high : Equals (bracket_high 2 (whole 1)) (quotient 2 5)
