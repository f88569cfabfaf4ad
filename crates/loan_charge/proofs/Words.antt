-- The age columns and the factor of a loan without a score in inequalities. Assumes nothing.
use mathlib.Core.Path.{◌≡◌, refl}
use Prim.Native.Nat.{ℕ, ◌+◌, ◌*◌, ◌-◌, ◌/◌, ◌≤◌, ◌<◌, min}
use native.Mathlib.Decide.{dec_le}
use native.Mathlib.Omega.{arith}
use borrow.Author.Tests.{lt-ltb, le-ltb}
use Rattle.loan_charge.specs.Computation.{limits, reached_of}
use Rattle.loan_charge.specs.CreditFactor.{hundredths, count, column, unscored_factor_lem}
use Rattle.loan_charge.specs.Words.{LoanWords}
use Rattle.loan_charge.proofs.CreditLaws.{none-reached, some-reached}

to-12 : (age : ℕ) → age < 13 → column age ≡ 0
unfolding column count reached_of limits
to-12 age h = none-reached age 13 12 5 h

from-13 : (age : ℕ) → 13 ≤ age → column age ≡ min ((age - 13) / 12 + 1) 5
unfolding column count reached_of limits
from-13 age h = some-reached age 13 12 5 (omega arith) h

by-13 : (age : ℕ) {P : Type 0} → (age < 13 → P) → (13 ≤ age → P) → P
by-13 age f g = elim (dec_le 13 age) [ yes k ↦ g k | no k ↦ f (omega arith) ]

few : (loans unscored : ℕ) → 20 * unscored ≤ loans → unscored_factor_lem loans unscored ≡ hundredths 130
unfolding unscored_factor_lem
few loans unscored h = rw (le-ltb loans (20 * unscored) h) refl

many : (loans unscored : ℕ) → loans < 20 * unscored → unscored_factor_lem loans unscored ≡ hundredths 300
unfolding unscored_factor_lem
many loans unscored h = rw (lt-ltb loans (20 * unscored) h) refl

pub loan_words : LoanWords
loan_words = record {
  first = λ age. (
    λ e. by-13 age (λ h. omega arith) (λ h. absurd (omega (arith, e, from-13 age h))),
    λ h. to-12 age (omega arith),
  );
  between = λ k age m. (
    λ e. by-13 age (λ h. absurd (omega (arith, e, to-12 age h))) (λ h. (omega (arith, e, from-13 age h), omega (arith, e, from-13 age h))),
    λ (l, h). omega (arith, from-13 age (omega arith)),
  );
  last = λ age. (
    λ e. by-13 age (λ h. absurd (omega (arith, e, to-12 age h))) (λ h. omega (arith, e, from-13 age h)),
    λ h. omega (arith, from-13 age (omega arith)),
  );
  few = few;
  many = many;
}
