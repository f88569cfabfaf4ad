-- The age columns and the factor of a loan without a score (01, "The loan charge"; 000, 1.1.4) in inequalities: CreditFactor.antt says the same by
-- counts of limits and by a test.
use Rattle.std.specs.Prelude.{ℕ, ◌+◌, ◌*◌, ◌≤◌, ◌<◌, ◌↔◌, ◌≡◌}
use Rattle.loan_charge.specs.CreditFactor.{hundredths, column, unscored_factor_lem}

pub record LoanWords : Type 0 where
  -- "age columns at 12, 24, 36, 48 and 60 months": a limit itself belongs to the lower one
  pub first : (age : ℕ) → (column age ≡ 0) ↔ (age ≤ 12)
  pub between : (k age : ℕ) → k < 4 → (column age ≡ k + 1) ↔ ((12 * k + 12 < age) × (age ≤ 12 * k + 24))
  pub last : (age : ℕ) → (column age ≡ 5) ↔ (60 < age)
  -- "Without a score m is 1.3, or 3.0 when 20 × unscored exceeds loans"
  pub few : (loans unscored : ℕ) → 20 * unscored ≤ loans → unscored_factor_lem loans unscored ≡ hundredths 130
  pub many : (loans unscored : ℕ) → loans < 20 * unscored → unscored_factor_lem loans unscored ≡ hundredths 300
