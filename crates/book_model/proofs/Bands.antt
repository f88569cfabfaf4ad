-- Score bands and loan-to-value columns in inequalities. Assumes nothing.
use mathlib.Core.Path.{◌≡◌, refl}
use mathlib.Core.Logic.{◌↔◌}
use Prim.Native.Nat.{ℕ, ◌+◌, ◌*◌, ◌-◌, ◌/◌, ◌≤◌, ◌<◌, min}
use native.Mathlib.Decide.{dec_le}
use native.Mathlib.Omega.{arith}
use mathlib.Core.Bool.{Bool, true, false}
use borrow.Author.Tests.{ltb-true, ltb-false}
use Rattle.exact.specs.Choice.{pick}
use Rattle.loan_charge.specs.Computation.{limits, reached_of}
use Rattle.loan_charge.specs.CreditFactor.{count, band}
use Rattle.loan_charge.proofs.CreditLaws.{none-reached, some-reached}
use Rattle.book_model.specs.Cells.{band_of, beyond, ltv_of}
use Rattle.book_model.specs.LoanTable.{Bands, Columns}

-- A number reaches m exactly where x lies above a limit.
record Reaches (m n limit x : ℕ) : Type 0 where
  above : (m < n) ↔ (limit < x)
  below : (n ≤ m) ↔ (x ≤ limit)

reaches : {m n limit x : ℕ} → (limit < x → m < n) → (x ≤ limit → n ≤ m) → Reaches m n limit x
reaches {m} {n} {limit} {x} f g = record {
  above = (λ h. elim (dec_le x limit) [ yes k ↦ absurd (omega (arith, g k)) | no k ↦ omega arith ], f);
  below = (λ h. elim (dec_le x limit) [ yes k ↦ k | no k ↦ absurd (omega (arith, f (omega arith))) ], g);
}

-- Columns

module _ (p q : ℕ) where
  -- 1 where balance over value lies above so many per cent
  abbrev passed : ℕ → ℕ
  passed limit = pick (beyond limit p q) 1 0

  yes-passed : (limit : ℕ) → limit * p < 100 * q → passed limit ≡ 1
  yes-passed limit h = go (beyond limit p q) refl
    where
      go : (t : Bool) → beyond limit p q ≡ t → ◌≡◌ {A = ℕ} (pick t 1 0) 1
      go true e = refl
      go false e = absurd (omega (arith, h, ltb-false (limit * p) (100 * q) e))

  not-passed : (limit : ℕ) → 100 * q ≤ limit * p → passed limit ≡ 0
  not-passed limit h = go (beyond limit p q) refl
    where
      go : (t : Bool) → beyond limit p q ≡ t → ◌≡◌ {A = ℕ} (pick t 1 0) 0
      go true e = absurd (omega (arith, h, ltb-true (limit * p) (100 * q) e))
      go false e = refl

  most-passed : (limit : ℕ) → passed limit ≤ 1
  most-passed limit = go (beyond limit p q)
    where
      go : (t : Bool) → pick t 1 0 ≤ 1
      go true = omega arith
      go false = omega arith

  ltv-size : ltv_of p q ≡ passed 65 + (passed 80 + (passed 90 + (passed 95 + 0))) + 1
  unfolding ltv_of count
  ltv-size = refl

  over-65 : Reaches 1 (ltv_of p q) (65 * p) (100 * q)
  over-65 = reaches (λ h. omega (arith, ltv-size, yes-passed 65 h))
      (λ h. omega (arith, ltv-size, not-passed 65 h, not-passed 80 (omega arith), not-passed 90 (omega arith), not-passed 95 (omega arith)))

  over-80 : Reaches 2 (ltv_of p q) (80 * p) (100 * q)
  over-80 = reaches (λ h. omega (arith, ltv-size, yes-passed 65 (omega arith), yes-passed 80 h))
      (λ h. omega (arith, ltv-size, most-passed 65, not-passed 80 h, not-passed 90 (omega arith), not-passed 95 (omega arith)))

  over-90 : Reaches 3 (ltv_of p q) (90 * p) (100 * q)
  over-90 = reaches (λ h. omega (arith, ltv-size, yes-passed 65 (omega arith), yes-passed 80 (omega arith), yes-passed 90 h))
      (λ h. omega (arith, ltv-size, most-passed 65, most-passed 80, not-passed 90 h, not-passed 95 (omega arith)))

  over-95 : Reaches 4 (ltv_of p q) (95 * p) (100 * q)
  over-95 = reaches (λ h. omega (arith, ltv-size, yes-passed 65 (omega arith), yes-passed 80 (omega arith), yes-passed 90 (omega arith), yes-passed 95 h))
      (λ h. omega (arith, ltv-size, most-passed 65, most-passed 80, most-passed 90, not-passed 95 h))

-- a column between two limits
column-between : {m n low high x : ℕ} → Reaches m n low x → Reaches (m + 1) n high x → (n ≡ m + 2 - 1) ↔ ((low < x) × (x ≤ high))
column-between a b = (
  λ e. (a.above.0 (omega (arith, e)), b.below.0 (omega (arith, e))),
  λ (l, h). omega (arith, a.above.1 l, b.below.1 h),
)

pub columns : Columns
columns = record {
  to_65 = λ p q. (λ e. (over-65 p q).below.0 (omega (arith, e)), λ h. omega (arith, (over-65 p q).below.1 h, ltv-size p q));
  to_80 = λ p q. column-between (over-65 p q) (over-80 p q);
  to_90 = λ p q. column-between (over-80 p q) (over-90 p q);
  to_95 = λ p q. column-between (over-90 p q) (over-95 p q);
  above = λ p q. (
    λ e. (over-95 p q).above.0 (omega (arith, e)),
    λ h. omega (arith, (over-95 p q).above.1 h, ltv-size p q, most-passed p q 65, most-passed p q 80, most-passed p q 90, most-passed p q 95),
  );
}

-- Bands

below-first : (number : ℕ) → number < 600 → band number ≡ 0
unfolding band reached_of limits
below-first number h = none-reached number 600 20 10 h

from_first : (number : ℕ) → 600 ≤ number → band number ≡ min ((number - 600) / 20 + 1) 10
unfolding band reached_of limits
from_first number h = some-reached number 600 20 10 (omega arith) h

-- what holds of a number below the first limit and from there on
by_first : (number : ℕ) {P : Type 0} → (number < 600 → P) → (600 ≤ number → P) → P
by_first number f g = elim (dec_le 600 number) [ yes k ↦ g k | no k ↦ f (omega arith) ]

pub bands : Bands
unfolding band_of
bands = record {
  lowest = λ number age. (
    λ e. by_first number (λ h. h) (λ h. absurd (omega (arith, e, from_first number h))),
    λ h. omega (arith, below-first number h),
  );
  between = λ k number age m. (
    λ e. by_first number (λ h. absurd (omega (arith, e, below-first number h)))
        (λ h. (omega (arith, e, from_first number h), omega (arith, e, from_first number h))),
    λ (l, h). omega (arith, from_first number (omega arith)),
  );
  highest = λ number age. (
    λ e. by_first number (λ h. absurd (omega (arith, e, below-first number h))) (λ h. omega (arith, e, from_first number h)),
    λ h. omega (arith, from_first number (omega arith)),
  );
  none = refl;
}
