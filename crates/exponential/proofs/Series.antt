-- Between two entries: r - r²/2 (1 - r/3 (1 - r/4)), rounded down, is nearly 1 - exp(-r), and never above it.
-- r stands for the fraction r / β; every law is over a variable β.
-- Assumes nothing.
use Prim.Native.Nat.{ℕ, ◌+◌, ◌*◌, ◌^◌, ◌≤◌, ◌<◌}
use mathlib.Core.Path.{◌≡◌, ap, ◌∙◌}
use native.Mathlib.Nat.{pow-zero, pow-suc, mul-pos, mul-le-mul_left, mul-le-mul_right, le_of_mul-le-mul_left, le_trans}
use native.Mathlib.Omega.{arith}
use Rattle.exact.proofs.Enclosure.{Above, Below, below-tail}
use Rattle.exact.proofs.Sums.{num, den, tailed}

-- One product a step: s is r²/2 rounded down and d the whole rounded down, both in units of 1 / (4 β), and w is r/3 (1 - r/4) rounded down,
-- in units of 1 / β; g is what rounding s down leaves.
pub record Rounded (β r s w g d : ℕ) : Type 0 where
  pub square : β * s + g ≡ 2 * (r * r)
  pub left : g ≤ β
  pub third_low : 24 * w + s ≤ 8 * r
  pub third_high : 8 * r ≤ 24 * w + s + 1700
  pub down_low : β * (d + 1 + s) ≤ 4 * (β * r) + s * w
  pub down_high : 4 * (β * r) + s * w ≤ β * (d + 2 + s)
  pub first : 64 * r ≤ β

-- 24 β⁴ E(4): its terms of even and of odd degree in r
abbrev even : ℕ → ℕ → ℕ
even β r = 24 * (β * β * β * β) + 12 * (β * β * r * r) + r * r * r * r

abbrev odd : ℕ → ℕ → ℕ
odd β r = 24 * (β * β * β * r) + 4 * (β * r * r * r)

squares : (β r : ℕ) →
    even β r * even β r ≡
    odd β r * odd β r + 6 * (β * β * β) * (96 * (β * β * β * β * β)) + (8 * (β * β * r * r * r * r * r * r) + r * r * r * r * r * r * r * r)
squares β r = omega arith

-- d lies within these of the alternating sum.
pub record Alternating (β r d : ℕ) : Type 0 where
  pub not_above : 6 * (β * β * β) * d + even β r ≤ odd β r + 24 * (β * β * β * β)
  pub nearly : odd β r + 24 * (β * β * β * β) ≤ 6 * (β * β * β) * d + even β r + 13 * (β * β * β) + 900 * (β * (r * r))

module _ (β r s w g d : ℕ) (h : Rounded β r s w g d) where
  ss : β * β * (s * s) + 4 * (r * r * g) ≡ 4 * (r * r * r * r) + g * g
  ss =
      let e : β * s + g ≡ 2 * (r * r) = h.square in
      omega (arith, ap (λ (t : ℕ). t * (β * s + g)) e, ap (λ (t : ℕ). 2 * (r * r) * t) e, ap (λ (t : ℕ). g * t) e)

  low : 6 * (β * β * β) * d + 12 * (β * β * (r * r)) + r * r * r * r ≤ 24 * (β * β * β * r) + 4 * (β * (r * r * r))
  low =
      le_of_mul-le-mul_left {k = 4}
      (omega (
        arith,
        ss,
        mul-le-mul_left (24 * (β * β)) h.down_low,
        mul-le-mul_left (β * β * s) h.third_low,
        mul-le-mul_left (24 * (β * β)) h.left,
        ap (λ (t : ℕ). 24 * (β * β) * t) h.square,
        ap (λ (t : ℕ). 8 * (β * r) * t) h.square,
        mul-le-mul_left (r * g) h.first,
      ))
      (omega arith)

  high : 24 * (β * β * β * r) + 4 * (β * (r * r * r)) ≤ 6 * (β * β * β) * d + 12 * (β * β * (r * r)) + r * r * r * r + 13 * (β * β * β) + 900 * (β * (r * r))
  high =
      le_of_mul-le-mul_left {k = 4}
      (omega (
        arith,
        ss,
        mul-le-mul_left (24 * (β * β)) h.down_high,
        mul-le-mul_left (β * β * s) h.third_high,
        ap (λ (t : ℕ). 24 * (β * β) * t) h.square,
        ap (λ (t : ℕ). 8 * (β * r) * t) h.square,
        ap (λ (t : ℕ). 1700 * β * t) h.square,
        mul-le-mul_left (β * g) h.first,
        mul-le-mul_left g h.left,
      ))
      (omega arith)

  pub alternating : Alternating β r d
  alternating = record { not_above = omega (arith, low); nearly = omega (arith, high) }

-- with no remainder nothing is taken away
pub alternating-zero : (β : ℕ) → Alternating β 0 0
alternating-zero β = record { not_above = omega arith; nearly = omega arith }

-- small powers as products
p1 : (r : ℕ) → r ^ 1 ≡ r
p1 r = pow-suc r 0 ∙ (rw (pow-zero r) (omega arith))

p2 : (r : ℕ) → r ^ 2 ≡ r * r
p2 r = pow-suc r 1 ∙ ap (λ (t : ℕ). t * r) (p1 r)

p3 : (r : ℕ) → r ^ 3 ≡ r * r * r
p3 r = pow-suc r 2 ∙ ap (λ (t : ℕ). t * r) (p2 r)

p4 : (r : ℕ) → r ^ 4 ≡ r * r * r * r
p4 r = pow-suc r 3 ∙ ap (λ (t : ℕ). t * r) (p3 r)

p5 : (r : ℕ) → r ^ 5 ≡ r * r * r * r * r
p5 r = pow-suc r 4 ∙ ap (λ (t : ℕ). t * r) (p4 r)

p6 : (r : ℕ) → r ^ 6 ≡ r * r * r * r * r * r
p6 r = pow-suc r 5 ∙ ap (λ (t : ℕ). t * r) (p5 r)

sum-of-4 : (β r : ℕ) → num r β 4 ≡ even β r + odd β r
unfolding num
sum-of-4 β r = rw (p1 r, p2 r, p3 r, p4 r) (omega arith)

den-of-4 : (β : ℕ) → den β 4 ≡ 24 * (β * β * β * β)
unfolding den
den-of-4 β = omega arith

tailed-of-5 : (β r : ℕ) → tailed r β 5 ≡ 30 * (β * β) * (even β r + odd β r) + (6 * (β * r * r * r * r * r) + 2 * (r * r * r * r * r * r))
unfolding tailed num
tailed-of-5 β r = rw (p1 r, p2 r, p3 r, p4 r, p5 r, p6 r) (omega arith)

den-of-6 : (β : ℕ) → den β 6 ≡ 720 * (β * β * β * β * β * β)
unfolding den
den-of-6 β = omega arith

-- (C - S) (C + S) is C² - S².
difference-above : (p e C S q R : ℕ) → 0 < p → C ≤ p * e + S → C * C ≡ S * S + p * q + R → q ≤ e * (C + S)
difference-above p e C S q R pos h i =
    le_of_mul-le-mul_left {k = p} (omega (arith, mul-le-mul_right (C + S) h, i)) pos

-- 1 - d is at or above exp(-x).
pub above-remainder : (β r d e : ℕ) → 0 < β → e + d ≡ 4 * β → Alternating β r d → Above e (4 * β) r β
above-remainder β r d e pos sum h = record {
  order = 4;
  reached =
      rw (sum-of-4 β r, den-of-4 β)
      (omega (
        arith,
        difference-above (6 * (β * β * β)) e (even β r) (odd β r) (96 * (β * β * β * β * β))
            (8 * (β * β * r * r * r * r * r * r) + r * r * r * r * r * r * r * r)
            (mul-pos (omega arith) (mul-pos (mul-pos pos pos) pos))
            (omega (arith, h.not_above, ap (λ (t : ℕ). 6 * (β * β * β) * t) sum))
            (squares β r),
      ));
}

difference_below : (p v C S q R g : ℕ) → p * v + S + g ≤ C → C * C ≡ S * S + p * q + R → p * v * (C + S) + g * (C + S) ≤ p * q + R
difference_below p v C S q R g h i = omega (arith, mul-le-mul_right (C + S) h, i)

tail-below : (p v M Q K q R g t : ℕ) → 0 < p → p * v * M + g * M ≤ p * q + R → p * v * K ≤ t → Q * R + t ≤ Q * g * M → v * (Q * M + K) ≤ Q * q
tail-below p v M Q K q R g t pos h i j = le_of_mul-le-mul_left {k = p} (omega (arith, mul-le-mul_left Q h, i, j)) pos

-- r is so small against β that the terms beyond the fourth vanish in the rounding.
pub record SmallRemainder (β r : ℕ) : Type 0 where
  pub first : 64 * r ≤ β
  pub fifth : r * r * r * r * r ≤ 256 * (β * β * β * β)
  pub sixth : r * r * r * r * r * r ≤ 4 * (β * β * β * β * β)
  pub eighth : r * r * r * r * r * r * r * r ≤ β * β * β * β * β * β * β

module _ (β r d v : ℕ) (pos : 0 < β) (sum : v + 14 + d ≡ 4 * β) (h : Alternating β r d) (small : SmallRemainder β r) where
  margin : 6 * (β * β * β) * v + odd β r + 70 * (β * β * β) ≤ even β r
  margin =
      omega (
        arith,
        h.nearly,
        ap (λ (t : ℕ). 6 * (β * β * β) * t) sum,
        mul-le-mul_left (β * β) small.first,
        mul-le-mul_left (β * r) small.first,
      )

  rest : 30 * (β * β) * (8 * (β * β * r * r * r * r * r * r) + r * r * r * r * r * r * r * r) +
      24 * (β * β * β * β) * (6 * (β * r * r * r * r * r) + 2 * (r * r * r * r * r * r)) ≤
      30 * (β * β) * (70 * (β * β * β)) * (24 * (β * β * β * β))
  rest =
      omega (
        arith,
        mul-le-mul_left (β * β * β * β * β) small.fifth,
        mul-le-mul_left (β * β * β * β) small.sixth,
        mul-le-mul_left (β * β) small.eighth,
      )

  -- 1 - d less 14 units is at or below exp(-x).
  pub below-remainder : Below v (4 * β) r β
  below-remainder =
      let p : ℕ = 6 * (β * β * β) in
      let M : ℕ = even β r + odd β r in
      let K : ℕ = 6 * (β * r * r * r * r * r) + 2 * (r * r * r * r * r * r) in
      let R : ℕ = 8 * (β * β * r * r * r * r * r * r) + r * r * r * r * r * r * r * r in
      let q : ℕ = 96 * (β * β * β * β * β) in
      let g : ℕ = 70 * (β * β * β) in
      let v-most : p * v ≤ 24 * (β * β * β * β) = omega (arith, mul-le-mul_left {m = v} {n = 4 * β} p (omega (arith, sum))) in
      below-tail 5 pos (omega (arith, small.first))
      (rw (tailed-of-5 β r, den-of-6 β)
      (le_trans
      (tail-below p v M (30 * (β * β)) K q R g (24 * (β * β * β * β) * K)
      (mul-pos (omega arith) (mul-pos (mul-pos pos pos) pos))
      (difference_below p v (even β r) (odd β r) q R g margin (squares β r))
      (mul-le-mul_right K v-most)
      (le_trans rest (mul-le-mul_left (30 * (β * β) * g) (omega arith))))
      (omega arith)))
