-- Document 01, "Proved examples", 5 to 7.
use Rattle.std.specs.Prelude.{ℕ, ◌≡◌, Bool, true}
use Rattle.exact.specs.Fraction.{quotient, Equals}
use Rattle.loan_charge.specs.Charge.{gauss_exponent, value_ratio}
use Rattle.loan_charge.specs.CreditFactor.{hundredths, built_in_rates_lem, credit_factor_lem}
use Rattle.loan_charge.specs.declared.Score.TheVariants.{Scored, Unscored}

-- z 1, μ 90%, σ 17%: y 50/289. A value below the balance has the same z.
pub record Example5 : Type 0 where
  pub at_balance : Equals (gauss_exponent (value_ratio 100 100) (quotient 90 100) (quotient 17 100)) (quotient 50 289)
  pub below_balance : Equals (gauss_exponent (value_ratio 90 100) (quotient 90 100) (quotient 17 100)) (quotient 50 289)

-- aged: score 719, age 13: 1.00; 720, age 12: 0.65
pub record Example6 : Type 0 where
  pub at719 : (loans unscored : ℕ) → credit_factor_lem built_in_rates_lem true loans unscored (Scored 719 13) ≡ hundredths 100
  pub at720 : (loans unscored : ℕ) → credit_factor_lem built_in_rates_lem true loans unscored (Scored 720 12) ≡ hundredths 65

-- one unscored of 20: 1.3; of 19: 3.0
pub record Example7 : Type 0 where
  pub of20 : (aged : Bool) → credit_factor_lem built_in_rates_lem aged 20 1 Unscored ≡ hundredths 130
  pub of19 : (aged : Bool) → credit_factor_lem built_in_rates_lem aged 19 1 Unscored ≡ hundredths 300
