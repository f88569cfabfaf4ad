-- The value between two entries: at or above exp(-y), and by at most 16 units.
-- Assumes nothing.
use Prim.Native.Nat.{ℕ, ◌+◌, ◌*◌, ◌-◌, ◌/◌, ◌%◌, ◌^◌, ◌≤◌, ◌<◌}
use mathlib.Core.Path.{◌≡◌, ap, subst⁻¹}
use lib.Dec.{lit≤}
use native.Mathlib.Decide.{dec_le}
use native.Mathlib.Nat.{mul-le-mul, mul-le-mul_right, le_trans, le_of_lt, div-add-mod'}
use native.Mathlib.Omega.{arith}
use Rattle.exact.proofs.Enclosure.{Above, Below, above-product, above-exponent, above-value, below-product, below-exponent, below-value}
use Rattle.exponential.specs.Exponential.{half_square_lem, third_part_lem, decrease, lowered}
use Rattle.exponential.proofs.Rule.{Least}
use Rattle.exponential.proofs.Series.{Rounded, Alternating, SmallRemainder, alternating, alternating-zero, above-remainder, below-remainder}
use Rattle.exponential.proofs.Steps.{product-most, half-square-most, decrease-most}

module _ (r : ℕ) (h : r < 2 ^ 32) where
  -- what rounding half the square down leaves
  abbrev left : ℕ
  left = 2 * (r * r % 2 ^ 37)

  rounded : 0 < r → Rounded (2 ^ 38) r (half_square_lem r) (64 * third_part_lem r) left (decrease r)
  unfolding half_square_lem third_part_lem decrease
  rounded pos =
      let n : ℕ = half_square_lem r * third_part_lem r in
      let i : n / 2 ^ 32 * 2 ^ 32 ≤ n = omega arith in
      let j : n < (n / 2 ^ 32 + 1) * 2 ^ 32 = omega arith in
      record {
        square = omega (arith, div-add-mod' (r * r) (2 ^ 37));
        left = omega arith;
        third_low = omega (arith, half-square-most r h);
        third_high = omega (arith, half-square-most r h);
        down_low = omega (arith, half-square-most r h);
        down_high = omega (arith, half-square-most r h);
        first = omega arith;
      }

  alternates : Alternating (2 ^ 38) r (decrease r)
  alternates =
      elim (dec_le 1 r) [
        | yes pos ↦ alternating (2 ^ 38) r (half_square_lem r) (64 * third_part_lem r) left (decrease r) (rounded pos)
        | no zero ↦
            let e : r ≡ 0 = omega arith in
            rw e (subst⁻¹ (λ (d : ℕ). Alternating (2 ^ 38) 0 d) (omega (arith, decrease-most 0 (omega arith))) (alternating-zero (2 ^ 38)))
      ]

  small : SmallRemainder (2 ^ 38) r
  small =
      let one : r ≤ 2 ^ 32 = le_of_lt h in
      let two : r * r ≤ 2 ^ 32 * 2 ^ 32 = mul-le-mul one one in
      let five : r * r * r * r * r ≤ 2 ^ 32 * 2 ^ 32 * 2 ^ 32 * 2 ^ 32 * 2 ^ 32 = mul-le-mul (mul-le-mul (mul-le-mul two one) one) one in
      let six : r * r * r * r * r * r ≤ 2 ^ 192 = mul-le-mul five one in
      record {
        first = omega arith;
        fifth = five;
        sixth = six;
        eighth = le_trans (mul-le-mul (mul-le-mul six one) one) (lit≤ tt);
      }

  -- An entry t at k/64, lowered for the remainder r.
  module _ (t k : ℕ) (l : Least t (2 ^ 40) k 64) (t-most : t ≤ 2 ^ 40) where
    d-most : decrease r ≤ 4 * r
    d-most = decrease-most r h

    -- what rounding up the last product costs
    last-low : (d e : ℕ) → e + d ≡ 2 ^ 40 → t * e ≤ lowered t d * 2 ^ 40
    unfolding lowered
    last-low d e s = let g : t * (e + d) ≡ t * 2 ^ 40 = ap (λ (x : ℕ). t * x) s in omega arith

    pub above-between : Above (lowered t (decrease r)) (2 ^ 40) (k * 2 ^ 32 + r) (2 ^ 38)
    above-between =
        let d : ℕ = decrease r in
        above-value {t = t * (2 ^ 40 - d)} {g = 2 ^ 40 * 2 ^ 40} (lit≤ tt)
        (omega (arith, last-low d (2 ^ 40 - d) (omega (arith, d-most))))
        (above-product (lit≤ tt)
        (above-exponent (lit≤ tt) (omega arith) l.above)
        (above-remainder (2 ^ 38) r d (2 ^ 40 - d) (lit≤ tt) (omega (arith, d-most)) alternates))

    last-high : (d v s : ℕ) → v + 14 + d ≡ 2 ^ 40 → t ≤ s + 1 → lowered t d * 2 ^ 40 ≤ s * v + 16 * 2 ^ 40
    unfolding lowered
    last-high d v s e f =
        let i : t * (v + 14 + d) ≡ t * 2 ^ 40 = ap (λ (x : ℕ). t * x) e in
        let j : t * v ≤ (s + 1) * v = mul-le-mul_right v f in
        let q : t * d / 2 ^ 40 ≤ 1 * t = product-most 1 t d (omega arith) in
        omega arith

    pub below-between : Below (lowered t (decrease r) - 16) (2 ^ 40) (k * 2 ^ 32 + r) (2 ^ 38)
    below-between =
        let d : ℕ = decrease r in
        let u : ℕ = 2 ^ 40 - d - 14 in
        let e : u + 14 + d ≡ 2 ^ 40 = omega (arith, d-most) in
        below-value {s = (t - 1) * u} {g = 2 ^ 40 * 2 ^ 40} (lit≤ tt)
        (omega (arith, last-high d u (t - 1) e (omega arith)))
        (below-product (lit≤ tt)
        (below-exponent (lit≤ tt) (omega arith) l.below)
        (below-remainder (2 ^ 38) r d u (lit≤ tt) e alternates small))
