-- Document 01, "Proved examples", 8 and 9.
use Rattle.exact.specs.Fraction.{quotient, whole, Equals}
use Rattle.line_forms.specs.declared.Kind.TheVariants.{Rate}
use Rattle.other_charges.specs.Charges.{add_on_lem, multi_provision}

-- `rate` at 60: 0.5%; at 61: 1.5%
pub record Example8 : Type 0 where
  pub at60 : Equals (add_on_lem Rate 60) (quotient 5 1000)
  pub at61 : Equals (add_on_lem Rate 61) (quotient 15 1000)

-- multi premium 1,000,000, term 300, done 5: 75,000
pub record Example9 : Type 0 where
  pub charge : Equals (multi_provision 1000000 300 5) (whole 75000)
