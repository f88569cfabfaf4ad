-- Laws of the text of signed numbers.
-- Assumes nothing.
use mathlib.Core.Path.{◌≡◌, ap, ◌∙◌}
use mathlib.Core.List.{◌++◌}
use Prim.Native.Nat.{ℕ, ◌+◌, ◌-◌, ◌^◌, ◌≤◌, ◌<◌}
use mathlib.Core.Logic.{◌⊎◌, inl, inr, ⊎_elim}
use native.Mathlib.Nat.{eq-zero-or-pos, sub-zero}
use native.Mathlib.Omega.{arith}
use lib.ListN.{length}
use Rattle.exact.specs.Text.{text}
pub use Rattle.exact.proofs.Decimal.{digits-one, digits_more, digits_value, digits-length}
use Rattle.report.specs.Decimal.{digits, signed}
use borrow.Author.Tests.{lt-ltb, le-ltb}
use Rattle.fixed_point.specs.declared.Signed.{Signed}

-- The two cases of a signed number.

pub signed-positive : (v : Signed) → v.minus ≤ v.plus → signed v ≡ digits (v.plus - v.minus)
unfolding signed
signed-positive v h = simp (le-ltb v.plus v.minus h)

pub signed-negative : (v : Signed) → v.plus < v.minus → signed v ≡ text "-" ++ digits (v.minus - v.plus)
unfolding signed
signed-negative v h = simp (lt-ltb v.plus v.minus h)

-- a number with no part below 0
pub signed-whole : (n : ℕ) → signed (record { plus = n; minus = 0 }) ≡ digits n
signed-whole n = signed-positive (record { plus = n; minus = 0 }) (omega arith) ∙ ap digits (sub-zero n)

sign : (v : Signed) → (v.plus < v.minus) ⊎ (v.minus ≤ v.plus)
sign v = ⊎_elim (λ e. inr (omega arith)) (λ h. inl (omega arith)) (eq-zero-or-pos (v.minus - v.plus))

pub signed-length : (k : ℕ) (v : Signed) → v.plus < 10 ^ (k + 1) → v.minus < 10 ^ (k + 1) → length (signed v) ≤ k + 2
signed-length k v p q = go (sign v)
  where
    go : (v.plus < v.minus) ⊎ (v.minus ≤ v.plus) → length (signed v) ≤ k + 2
    go (inl h) = rw (signed-negative v h) (omega (arith, digits-length k (v.minus - v.plus) (omega arith)))
    go (inr h) = rw (signed-positive v h) (omega (arith, digits-length k (v.plus - v.minus) (omega arith)))
