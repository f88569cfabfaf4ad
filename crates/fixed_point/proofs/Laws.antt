-- Laws of the product and of the long division, in the forms that callers use.
-- Assumes nothing.
use mathlib.Core.Path.{◌≡◌, ap, ap₂}
use Prim.Native.Nat.{ℕ, ◌+◌, ◌*◌, ◌/◌, ◌^◌, ◌≤◌, ◌<◌}
use native.Mathlib.Nat.{mul-le-mul, div-add-mod', mod-lt}
use native.Mathlib.Omega.{arith}
use Rattle.fixed_point.specs.Quotient.{division_step_lem}
use Rattle.fixed_point.specs.declared.Division.{Division}

-- a product is at most the product of bounds of its factors
pub bounded : (a b x y : ℕ) → a ≤ x → b ≤ y → a * b ≤ x * y
bounded a b x y h k = mul-le-mul h k

-- a · b / 2^40 from the products of the halves of a and b
pub halves : (a1 a0 b1 b0 a b : ℕ) → a ≡ a1 * 1048576 + a0 → b ≡ b1 * 1048576 + b0 →
    a1 * b1 + (a1 * b0 + a0 * b1 + a0 * b0 / 1048576) / 1048576 ≡ a * b / 2 ^ 40
halves a1 a0 b1 b0 a b p q = omega (arith, ap₂ ◌*◌ p q)

-- the same from the products of a and the halves of b
pub half-products : (a b1 b0 b : ℕ) → b ≡ b1 * 1048576 + b0 → (a * b1 + a * b0 / 1048576) / 1048576 ≡ a * b / 2 ^ 40
half-products a b1 b0 b q = omega (arith, ap (λ (x : ℕ). a * x) q)

-- the quotient and the remainder of a step, together f times what they were
pub step-whole : (d : Division) (divisor f : ℕ) →
    (division_step_lem d divisor f).quotient * divisor + (division_step_lem d divisor f).remainder ≡ f * (d.quotient * divisor + d.remainder)
step-whole d divisor f = omega (arith, div-add-mod' (d.remainder * f) divisor)

pub step-remainder : (d : Division) (divisor f : ℕ) → 0 < divisor → (division_step_lem d divisor f).remainder < divisor
step-remainder d divisor f h = mod-lt (d.remainder * f) h
