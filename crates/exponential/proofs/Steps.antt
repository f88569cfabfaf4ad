-- The steps of the exponential: their bounds, and its two cases.
-- Assumes nothing.
use Prim.Native.Nat.{ℕ, ◌*◌, ◌/◌, ◌%◌, ◌^◌, ◌≤◌, ◌<◌}
use mathlib.Core.Path.{◌≡◌, refl}
use native.Mathlib.Nat.{mul-le-mul, mul-le-mul_left, min-eq_left, min-eq_right, le_of_lt}
use native.Mathlib.Omega.{arith}
use Rattle.fixed_point.specs.Quotient.{scaled_product_lem}
use Rattle.exponential.specs.Exponential.{half_square_lem, third_part_lem, decrease, lowered, exp_within, exp_upper_lem}
use Rattle.exponential.specs.Table.{entry}

pub product-most : (k a b : ℕ) → b ≤ k * 2 ^ 40 → scaled_product_lem a b ≤ k * a
product-most k a b h = omega (arith, mul-le-mul_left a h)

module _ (r : ℕ) (h : r < 2 ^ 32) where
  pub half-square-most : 32 * half_square_lem r ≤ r
  unfolding half_square_lem
  half-square-most = omega (arith, mul-le-mul_left r (le_of_lt h))

  -- the two parts fit their product
  pub third-part-most : third_part_lem r ≤ 2 ^ 32
  unfolding third_part_lem
  third-part-most = omega arith

  pub parts-fit : half_square_lem r * third_part_lem r ≤ 2 ^ 27 * 2 ^ 32
  parts-fit =
      let l : half_square_lem r ≤ 2 ^ 27 = omega (arith, half-square-most) in
      mul-le-mul l third-part-most

  -- half the square times at most 1
  pub decrease-most : decrease r ≤ 4 * r
  unfolding decrease
  decrease-most = omega (arith, mul-le-mul_left (half_square_lem r) third-part-most, half-square-most)

pub nothing-lowered : (t : ℕ) → lowered t (decrease 0) ≡ t
unfolding lowered
nothing-lowered t =
    let z : decrease 0 ≡ 0 = omega (arith, decrease-most 0 (omega arith)) in
    rw z (omega arith)

pub beyond : (y : ℕ) → 1536 * 2 ^ 32 ≤ y → exp_upper_lem y ≡ entry 1536
unfolding exp_upper_lem exp_within
beyond y h = rw (min-eq_right h) (nothing-lowered (entry 1536))

pub between : (y : ℕ) → y < 1536 * 2 ^ 32 → exp_upper_lem y ≡ lowered (entry (y / 2 ^ 32)) (decrease (y % 2 ^ 32))
unfolding exp_upper_lem exp_within
between y h = rw (min-eq_left (le_of_lt h)) refl
