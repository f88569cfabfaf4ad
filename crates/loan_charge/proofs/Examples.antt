-- Document 01's examples 5 to 7, by computation. Assumes nothing.
use mathlib.Core.Path.{refl}
use lib.Dec.{lit≤}
use Rattle.exact.proofs.Dependence.{equals-of}
use Rattle.loan_charge.specs.Charge.{gauss_exponent, value_ratio}
use Rattle.loan_charge.specs.CreditFactor.{count, band, column, column_serving_lem, built_in_sheet, scored_factor_lem, unscored_factor_lem, credit_factor_lem}
use Rattle.loan_charge.specs.Examples.{Example5, Example6, Example7}

pub example5 : Example5
unfolding gauss_exponent value_ratio
example5 = record { at_balance = equals-of (lit≤ tt) (lit≤ tt) refl; below_balance = equals-of (lit≤ tt) (lit≤ tt) refl }

pub example6 : Example6
unfolding credit_factor_lem scored_factor_lem band column column_serving_lem count built_in_sheet
example6 = record { at719 = λ loans unscored. refl; at720 = λ loans unscored. refl }

pub example7 : Example7
unfolding credit_factor_lem unscored_factor_lem
example7 = record { of20 = λ aged. refl; of19 = λ aged. refl }
