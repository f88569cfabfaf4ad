-- The money part: signed amounts, their sizes, and the enclosures of a loan's two numbers over natural numbers.
-- Assumes nothing.
use mathlib.Core.Path.{◌≡◌, refl, ap, subst⁻¹}
use Prim.Native.Nat.{ℕ, ◌+◌, ◌*◌, ◌-◌, ◌/◌, ◌%◌, ◌^◌, ◌≤◌, ◌<◌, min}
use native.Mathlib.Decide.{dec_le}
use native.Mathlib.Omega.{arith}
use native.Mathlib.Nat.{mul-le-mul, mul-le-mul_left, mul-le-mul_right, add-le-add, min-le_left, min-le_right, min-eq_left, min-eq_right}
use native.Mathlib.Nat.{sub-add_cancel, le_of_lt, lt_of_not-le}
use Rattle.fixed_point.specs.Quotient.{scaled_product_lem}
use Rattle.loan_charge.specs.declared.charge.Heights.{Heights}
use Rattle.fixed_point.specs.declared.Signed.{Signed}
use Rattle.coefficients.specs.declared.ScaledCurve.{ScaledCurve}
use Rattle.loan_charge.specs.Computation.{unit, limit, limited, total_pad, supplement_pad, ceiling_offset, floor_offset, weighted, scaled_sum_lem}
use Rattle.loan_charge.specs.Computation.{curves_sum_lem, factor, rate, times, signed, rounded_up_lem, rounded_down_lem}
use Rattle.loan_charge.proofs.Near.{Near, Floored, near_add, near_mul, near-equal, near-scale, near-widen, near-multiple, near-floor}
use Rattle.loan_charge.proofs.ScaledValue.{Held}

pub floored : (a b : ℕ) → Floored (2 ^ 40) a b (scaled_product_lem a b)
floored a b = record { below = omega arith; above = omega arith }

-- u is the value, in units of 2^-40, of an exponential N / D
pub record Value (u N D : ℕ) : Type 0 where
  pub positive : 0 < D
  pub most : N ≤ D
  pub near : Near u (2 ^ 40 * N) D 42 0

-- an exponential times a weight
weight-near : {u N D : ℕ} (w : ℕ) → Value u N D → Near (w * u) (2 ^ 40 * (w * N)) D (w * 42) 0
weight-near w v = record {
  low = omega (arith, mul-le-mul_left w v.near.low);
  high = omega (arith, mul-le-mul_left w v.near.high);
}

-- 10^7 x + k y in two parts: the products fit, and together they are the quotient

pub high_part : (k y : ℕ) → k ≤ 2 * 10 ^ 8 → y ≤ 2 ^ 58 → k * (y / 1073741824) ≤ 2 * 10 ^ 8 * 2 ^ 28
high_part k y h g = let l : y / 1073741824 ≤ 2 ^ 28 = omega arith in mul-le-mul h l

pub low_part : (k y : ℕ) → k ≤ 2 * 10 ^ 8 → k * (y % 1073741824) ≤ 2 * 10 ^ 8 * 2 ^ 30
low_part k y h = let l : y % 1073741824 ≤ 2 ^ 30 = omega arith in mul-le-mul h l

pub parts-sum : (k x1 x0 y1 y0 x y : ℕ) → x ≡ x1 * 1073741824 + x0 → y ≡ y1 * 1073741824 + y0 →
    (10000000 * x1 + k * y1 + (10000000 * x0 + k * y0) / 1073741824) / 1024 ≡ (10 ^ 7 * x + k * y) / 2 ^ 40
parts-sum k x1 x0 y1 y0 x y p q = omega (arith, ap (λ (t : ℕ). k * t) q)

-- Both sides of an amount are near fractions over one denominator.
pub record Both (x : Signed) (np nm d αp βp αm βm : ℕ) : Type 0 where
  pub plus_near : Near x.plus np d αp βp
  pub minus_near : Near x.minus nm d αm βm

abbrev pub sum : Signed → Signed → Signed
sum x y = record { plus = x.plus + y.plus; minus = x.minus + y.minus }

pub both-add : {x y : Signed} {np nm d αp βp αm βm np' nm' d' αp' βp' αm' βm' : ℕ} → Both x np nm d αp βp αm βm →
    Both y np' nm' d' αp' βp' αm' βm' →
    Both (sum x y) (np * d' + np' * d) (nm * d' + nm' * d) (d * d') (αp + αp') (βp + βp') (αm + αm') (βm + βm')
both-add p q = record {
  plus_near = near_add p.plus_near q.plus_near;
  minus_near = near_add p.minus_near q.minus_near;
}

-- What the product by f, at most B, adds to the allowances: kp and lp on the side of at most P, km and lm on that of at most M.
pub record ProductAllowance (P M α β kp lp km lm : ℕ) : Type 0 where
  pub plus_low : P * α ≤ kp * 2 ^ 40
  pub plus_high : P * β ≤ lp * 2 ^ 40
  pub minus_low : M * α ≤ km * 2 ^ 40
  pub minus_high : M * β ≤ lm * 2 ^ 40

pub both-times : {x : Signed} {np nm d αp βp αm βm f fn fd α β : ℕ} (P M B kp lp km lm : ℕ) → Both x np nm d αp βp αm βm →
    Near f (2 ^ 40 * fn) fd α β → x.plus ≤ P → x.minus ≤ M → fn ≤ B * fd → ProductAllowance P M α β kp lp km lm →
    Both (times x f) (np * fn) (nm * fn) (d * fd) (B * αp + kp) (1 + B * βp + lp) (B * αm + km) (1 + B * βm + lm)
unfolding times
both-times {x} {f = f} P M B kp lp km lm b n hp hm hf a = record {
  plus_near =
      near_mul {s = 2 ^ 40} P B kp lp (omega arith) (floored x.plus f) b.plus_near n hp hf a.plus_low a.plus_high;
  minus_near =
      near_mul {s = 2 ^ 40} M B km lm (omega arith) (floored x.minus f) b.minus_near n hm hf a.minus_low a.minus_high;
}

-- m / 10^17
pub factor-near : (m : ℕ) → Near (factor m) (2 ^ 40 * m) (10 ^ 17) 0 1
unfolding factor
factor-near m = record { low = omega arith; high = omega arith }

-- a of the supplement's rate: the smaller of c + (z - 1) / 10 and 1.15, with c in 12000ths, over 1200000 q
abbrev pub limited_num : ℕ → ℕ → ℕ → ℕ
limited_num p q c = min (c * 100 * q + 120000 * (p - q)) (1380000 * q)

module _ {P q w : ℕ} (h : Held P q w) (c : ℕ) where
  less_one : (w - unit) * q + unit * q ≡ w * q
  less_one = omega (arith, ap (λ (t : ℕ). t * q) (sub-add_cancel h.least))

  limited-low : limited w c * q ≤ 2 ^ 27 * limited_num P q c
  limited-low =
      omega (
        arith,
        mul-le-mul_right q (min-le_left (c * 100 * 2 ^ 27 + (w - unit)) limit),
        mul-le-mul_right q (min-le_right (c * 100 * 2 ^ 27 + (w - unit)) limit),
        less_one,
        h.low,
        h.value,
      )

  limited-high : 2 ^ 27 * limited_num P q c ≤ (limited w c + 1) * q
  limited-high = go (dec_le (c * 100 * 2 ^ 27 + (w - unit)) limit)
    where
      go : Dec (c * 100 * 2 ^ 27 + (w - unit) ≤ limit) → 2 ^ 27 * limited_num P q c ≤ (limited w c + 1) * q
      go (yes k) = rw (min-eq_left k) (omega (arith, less_one, h.value, h.high (omega arith)))
      go (no k) = rw (min-eq_right {n = limit} {m = c * 100 * 2 ^ 27 + (w - unit)} (le_of_lt (lt_of_not-le k))) (omega arith)

  limit-near : Near (limited w c * 8192 / 1200000) (2 ^ 40 * limited_num P q c) (1200000 * q) 0 2
  limit-near = limit-step (limited w c) q (limited_num P q c) limited-low limited-high
    where
      limit-step : (x q g : ℕ) → x * q ≤ 2 ^ 27 * g → 2 ^ 27 * g ≤ (x + 1) * q →
          Near (x * 8192 / 1200000) (2 ^ 40 * g) (1200000 * q) 0 2
      limit-step x q g k l =
          let n : ℕ = x * 8192 / 1200000 in
          let n-low : n * 1200000 ≤ x * 8192 = omega arith in
          let n-high : x * 8192 ≤ n * 1200000 + 1200000 = omega arith in
          record {
            low = omega (arith, mul-le-mul_right q n-low);
            high = omega (arith, mul-le-mul_right q n-high);
          }

-- b / 10 times an exponential
share-near : {e N D : ℕ} (b : ℕ) → b ≤ 3 → Value e N D → Near (b * e / 10) (2 ^ 40 * (b * N)) (10 * D) 13 1
share-near {e} {N} {D} b h v =
    let n : ℕ = b * e / 10 in
    let n-low : n * 10 ≤ b * e = omega arith in
    let n-high : b * e ≤ n * 10 + 10 = omega arith in
    record {
      low = omega (arith, mul-le-mul_right D n-low, mul-le-mul_left b v.near.low, mul-le-mul_right D h);
      high = omega (arith, mul-le-mul_right D n-high, mul-le-mul_left b v.near.high);
    }

-- r = a + b exp(-n / 120), over one denominator
abbrev pub rate_num : (p q c b N D : ℕ) → ℕ
rate_num p q c b N D = limited_num p q c * (10 * D) + b * N * (1200000 * q)

abbrev pub rate_den : (q D : ℕ) → ℕ
rate_den q D = 1200000 * q * (10 * D)

pub rate-near : {P q w e N D : ℕ} (c b : ℕ) → Held P q w → b ≤ 3 → Value e N D →
    Near (rate w c b e) (2 ^ 40 * rate_num P q c b N D) (rate_den q D) 13 3
unfolding rate
rate-near {P} {q} {w} {e} {N} {D} c b h hb v =
    near-equal (near_add (limit-near h c) (share-near b hb v)) (regroup (limited_num P q c) (10 * D) (b * N) (1200000 * q)) refl
  where
    regroup : (g d n k : ℕ) → 2 ^ 40 * g * d + 2 ^ 40 * n * k ≡ 2 ^ 40 * (g * d + n * k)
    regroup g d n k = omega arith

-- r is at most 2
pub rate-most : {e N D : ℕ} (P q c b : ℕ) → b ≤ 3 → Value e N D → rate_num P q c b N D ≤ 2 * rate_den q D
rate-most {e} {N} {D} P q c b hb v =
    omega (
      arith,
      mul-le-mul_right (10 * D) (min-le_right (c * 100 * q + 120000 * (P - q)) (1380000 * q)),
      mul-le-mul_right (1200000 * q) (mul-le-mul hb v.most),
    )

-- C1 e1 + C2 e2 over the product of the denominators
pub weighted-near : {N₁ D₁ N₂ D₂ : ℕ} (c : ScaledCurve) (h : Heights) → Value h.first N₁ D₁ → Value h.second N₂ D₂ →
    Both (weighted c h) (2 ^ 40 * (c.weight1 * N₁ * D₂ + c.plus2 * N₂ * D₁)) (2 ^ 40 * (c.minus2 * N₂ * D₁)) (D₁ * D₂)
    (c.weight1 * 42 + c.plus2 * 42) 0 (c.minus2 * 42) 0
unfolding weighted
weighted-near {N₁} {D₁} {N₂} {D₂} c h v₁ v₂ = record {
  plus_near = near-equal (near_add (weight-near c.weight1 v₁) (weight-near c.plus2 v₂)) (omega arith) refl;
  minus_near = near-equal (near-scale D₁ (weight-near c.minus2 v₂)) (omega arith) (omega arith);
}

-- 10^7 x + k y, rounded down
scaled-sum-near : {x d α y d' α' : ℕ} (k a n n' : ℕ) → 10 ^ 7 * α + k * α' ≤ a * 2 ^ 40 → Near x (2 ^ 40 * n) d α 0 → Near y (2 ^ 40 * n') d' α' 0 →
    Near (scaled_sum_lem k x y) (10 ^ 7 * n * d' + k * n' * d) (d * d') a 1
unfolding scaled_sum_lem
scaled-sum-near {x} {d} {α} {y} {d'} {α'} k a n n' h p q =
    near-floor (2 ^ 40) a ((10 ^ 7 * x + k * y) / 2 ^ 40) (omega arith) (omega arith) (omega arith) h
    (near-equal
    (near-widen (10 ^ 7 * α + k * α') 0 (near_add (near-multiple (10 ^ 7) p) (near-multiple k q)) (omega arith) (omega arith))
    (omega arith)
    refl)

pub curves-near : {a b : Signed} {d αp αm d' αp' αm' : ℕ} (np nm np' nm' k lp lm : ℕ) →
    10 ^ 7 * αp + k * αp' ≤ lp * 2 ^ 40 → 10 ^ 7 * αm + k * αm' ≤ lm * 2 ^ 40 →
    Both a (2 ^ 40 * np) (2 ^ 40 * nm) d αp 0 αm 0 → Both b (2 ^ 40 * np') (2 ^ 40 * nm') d' αp' 0 αm' 0 →
    Both (curves_sum_lem k a b) (10 ^ 7 * np * d' + k * np' * d) (10 ^ 7 * nm * d' + k * nm' * d) (d * d') lp 1 lm 1
unfolding curves_sum_lem
curves-near np nm np' nm' k lp lm hp hm x y = record {
  plus_near = scaled-sum-near k lp np np' hp x.plus_near y.plus_near;
  minus_near = scaled-sum-near k lm nm nm' hm x.minus_near y.minus_near;
}

-- Sizes.

-- the largest whole numbers of a curve's weights
pub record Weights (most-weight1 most-plus2 most-minus2 : ℕ) (c : ScaledCurve) : Type 0 where
  pub weight1 : c.weight1 ≤ most-weight1
  pub plus2 : c.plus2 ≤ most-plus2
  pub minus2 : c.minus2 ≤ most-minus2

-- both exponentials are at most 1
pub record AtMostOne (h : Heights) : Type 0 where
  pub first : h.first ≤ 2 ^ 40
  pub second : h.second ≤ 2 ^ 40

pub record SignedAtMost (P M : ℕ) (x : Signed) : Type 0 where
  pub plus : x.plus ≤ P
  pub minus : x.minus ≤ M

-- what is equal to an amount is as small
pub at-most : {p m : ℕ} {x y : Signed} → x ≡ y → SignedAtMost p m y → SignedAtMost p m x
at-most {p} {m} e h = subst⁻¹ (λ (x : Signed). SignedAtMost p m x) e h

pub weighted-most : {c : ScaledCurve} {h : Heights} (w₁ w₂ w₃ : ℕ) → Weights w₁ w₂ w₃ c → AtMostOne h →
    SignedAtMost (w₁ * 2 ^ 40 + w₂ * 2 ^ 40) (w₃ * 2 ^ 40) (weighted c h)
unfolding weighted
weighted-most w₁ w₂ w₃ w s = record {
  plus = add-le-add (mul-le-mul w.weight1 s.first) (mul-le-mul w.plus2 s.second);
  minus = mul-le-mul w.minus2 s.second;
}

scaled-sum-most : (k x y K X Y n : ℕ) → k ≤ K → x ≤ X → y ≤ Y → 10 ^ 7 * X + K * Y < (n + 1) * 2 ^ 40 → scaled_sum_lem k x y ≤ n
unfolding scaled_sum_lem
scaled-sum-most k x y K X Y n hk hx hy h = omega (arith, mul-le-mul hk hy)

pub curves-most : {a b : Signed} (k K P M P' M' p m : ℕ) → k ≤ K → SignedAtMost P M a → SignedAtMost P' M' b →
    10 ^ 7 * P + K * P' < (p + 1) * 2 ^ 40 → 10 ^ 7 * M + K * M' < (m + 1) * 2 ^ 40 → SignedAtMost p m (curves_sum_lem k a b)
unfolding curves_sum_lem
curves-most {a} {b} k K P M P' M' p m hk x y hp hm = record {
  plus = scaled-sum-most k a.plus b.plus K P P' p hk x.plus y.plus hp;
  minus = scaled-sum-most k a.minus b.minus K M M' m hk x.minus y.minus hm;
}

pub times-most : {x : Signed} {f : ℕ} (P M k : ℕ) → SignedAtMost P M x → f ≤ k * 2 ^ 40 → SignedAtMost (P * k) (M * k) (times x f)
unfolding times
times-most {x} {f} P M k h hf = record {
  plus = omega (arith, mul-le-mul h.plus hf);
  minus = omega (arith, mul-le-mul h.minus hf);
}

-- From the enclosed sides to whole cents: over an offset of 100000 cents, in units of 1 / 1200000 cent. The pad covers the errors on one side,
-- and with those on the other it stays below a twentieth of a cent.
module _ (P M t np nm d rp rm αp βp αm βm pad : ℕ) (offset : rp + 100000 ≡ t + rm) (p : Near P np d αp βp) (m : Near M nm d αm βm) where
  up-low : P + 120000000000 + pad ≤ 1200000 * t + M → βp + αm ≤ pad → np + rm * (1200000 * d) ≤ nm + rp * (1200000 * d)
  up-low h a =
      omega
      (arith, mul-le-mul_right d h, mul-le-mul_right d a, p.high, m.low, ap (λ (x : ℕ). x * d) offset)

  up-high : 1200000 * t + M ≤ P + 120000000000 + pad + 1199999 → αp + βm + pad ≤ 60000 → 0 < d →
      rp * (1200000 * d) + nm < np + rm * (1200000 * d) + 1260000 * d
  up-high h a pos =
      omega
      (arith, mul-le-mul_right d h, mul-le-mul_right d a, p.low, m.high, ap (λ (x : ℕ). x * d) offset)

  down_high : 1200000 * t + M + pad ≤ P + 120000000000 → αp + βm ≤ pad → nm + rp * (1200000 * d) ≤ np + rm * (1200000 * d)
  down_high h a =
      omega
      (arith, mul-le-mul_right d h, mul-le-mul_right d a, p.low, m.high, ap (λ (x : ℕ). x * d) offset)

  down_low : P + 120000000000 < 1200000 * t + M + 1200000 + pad → βp + αm + pad ≤ 60000 → 0 < d →
      np + rm * (1200000 * d) < nm + rp * (1200000 * d) + 1260000 * d
  down_low h a pos =
      omega
      (arith, mul-le-mul_right d h, mul-le-mul_right d a, p.high, m.low, ap (λ (x : ℕ). x * d) offset)

-- the exact amount (np - nm) / (1200000 d) is at most r, and r exceeds it by less than 1.05
pub record CentsAbove (r : Signed) (np nm d : ℕ) : Type 0 where
  pub low : np + r.minus * (1200000 * d) ≤ nm + r.plus * (1200000 * d)
  pub high : r.plus * (1200000 * d) + nm < np + r.minus * (1200000 * d) + 1260000 * d

-- r is at most the exact amount, and less than 1.05 below it
pub record CentsBelow (r : Signed) (np nm d : ℕ) : Type 0 where
  pub high : nm + r.plus * (1200000 * d) ≤ np + r.minus * (1200000 * d)
  pub low : np + r.minus * (1200000 * d) < nm + r.plus * (1200000 * d) + 1260000 * d

pub rounded-above : {np nm d αp βp αm βm : ℕ} (x y : Signed) → Both (sum x y) np nm d αp βp αm βm → x.minus + y.minus ≤ 120000000000 →
    βp + αm ≤ total_pad → αp + βm + total_pad ≤ 60000 → 0 < d → CentsAbove (rounded_up_lem x y) np nm d
unfolding rounded_up_lem signed
rounded-above {np} {nm} {d} {αp} {βp} {αm} {βm} x y b h a a' pos =
    let P : ℕ = x.plus + y.plus in
    let M : ℕ = x.minus + y.minus in
    let t : ℕ = (P + ceiling_offset - M) / 1200000 in
    record {
      low = up-low P M t np nm d (t - 100000) (100000 - t) αp βp αm βm total_pad (omega arith) b.plus_near b.minus_near (omega arith) a;
      high = up-high P M t np nm d (t - 100000) (100000 - t) αp βp αm βm total_pad (omega arith) b.plus_near b.minus_near (omega arith) a' pos;
    }

pub rounded-below : {np nm d αp βp αm βm : ℕ} (x : Signed) → Both x np nm d αp βp αm βm → x.minus ≤ floor_offset →
    αp + βm ≤ supplement_pad → βp + αm + supplement_pad ≤ 60000 → 0 < d → CentsBelow (rounded_down_lem x) np nm d
unfolding rounded_down_lem signed
rounded-below {np} {nm} {d} {αp} {βp} {αm} {βm} x b h a a' pos =
    let P : ℕ = x.plus in
    let M : ℕ = x.minus in
    let t : ℕ = (P + floor_offset - M) / 1200000 in
    record {
      high = down_high P M t np nm d (t - 100000) (100000 - t) αp βp αm βm supplement_pad (omega arith) b.plus_near b.minus_near (omega arith) a;
      low = down_low P M t np nm d (t - 100000) (100000 - t) αp βp αm βm supplement_pad (omega arith) b.plus_near b.minus_near (omega arith) a' pos;
    }
