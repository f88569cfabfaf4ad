-- A whole number near a fraction, and how nearness passes through sums and products rounded down.
use mathlib.Core.Path.{◌≡◌}
use Prim.Native.Nat.{ℕ, ◌+◌, ◌*◌, ◌≤◌, ◌<◌}
use native.Mathlib.Omega.{arith}
use native.Mathlib.Nat.{mul-le-mul_left, mul-le-mul_right, le_of_mul-le-mul_left, le_trans}

-- v - α ≤ num / den ≤ v + β
pub record Near (v num den α β : ℕ) : Type 0 where
  pub low : v * den ≤ num + α * den
  pub high : num ≤ (v + β) * den

-- c is the product a b in units of 1 / s, rounded down
pub record Floored (s a b c : ℕ) : Type 0 where
  pub below : c * s ≤ a * b
  pub above : a * b ≤ (c + 1) * s

pub near_add : {v n d α β v' n' d' α' β' : ℕ} → Near v n d α β → Near v' n' d' α' β' →
    Near (v + v') (n * d' + n' * d) (d * d') (α + α') (β + β')
near_add {v} {n} {d} {α} {β} {v'} {n'} {d'} {α'} {β'} p q = record {
  low = omega (arith, mul-le-mul_right d' p.low, mul-le-mul_right d q.low);
  high = omega (arith, mul-le-mul_right d' p.high, mul-le-mul_right d q.high);
}

-- larger allowances
pub near-widen : {v n d α β : ℕ} (α' β' : ℕ) → Near v n d α β → α ≤ α' → β ≤ β' → Near v n d α' β'
near-widen {v} {n} {d} {α} {β} α' β' p hα hβ = record {
  low = omega (arith, p.low, mul-le-mul_right d hα);
  high = omega (arith, p.high, mul-le-mul_right d hβ);
}

-- The chains of the two sides of a product, over its terms.
low-chain : {L M₁ M₂ T₁ T₂ T₃ T₄ T₅ G₂ G₃ G : ℕ} (G₁ : ℕ) → L ≤ M₁ → M₁ ≤ M₂ → M₂ ≡ T₁ + T₂ → T₁ ≤ T₃ → T₃ ≡ G₁ + T₄ →
    T₄ ≤ T₅ → T₅ ≡ G₂ → T₂ ≤ G₃ → G ≡ G₁ + G₂ + G₃ → L ≤ G
low-chain G₁ a b c d e f g h i = omega arith

high-chain : {L M M₁ T₁ T₂ T₃ T₄ T₅ G₁ G₂ G₃ G : ℕ} → L ≤ M → M ≡ T₁ + T₂ → T₁ ≤ T₃ → T₃ ≡ M₁ + T₄ → M₁ ≤ G₁ →
    T₄ ≤ G₃ → T₂ ≤ T₅ → T₅ ≡ G₂ → G ≡ G₁ + G₂ + G₃ → L ≤ G
high-chain a b c d e f g h i = omega arith

allowance : (s a α A k xd fd : ℕ) → a ≤ A → A * α ≤ k * s → a * α * (xd * fd) ≤ s * (k * (xd * fd))
allowance s a α A k xd fd ha h =
    omega (arith, mul-le-mul_right (xd * fd) (le_trans (mul-le-mul_right α ha) h))

floored-below : {s a b c : ℕ} (xd fd : ℕ) → Floored s a b c → s * (c * (xd * fd)) ≤ a * xd * (b * fd)
floored-below {s} {a} {b} {c} xd fd f = omega (arith, mul-le-mul_right (xd * fd) f.below)

floored-above : {s a b c : ℕ} (xd fd : ℕ) → Floored s a b c → a * xd * (b * fd) ≤ s * ((c + 1) * (xd * fd))
floored-above {s} {a} {b} {c} xd fd f = omega (arith, mul-le-mul_right (xd * fd) f.above)

-- a near x, b near s f, a at most A, f at most B: the floored product is near x f.
pub near_mul : {s a xn xd α₁ β₁ b fn fd α₂ β₂ c : ℕ} (A B k₁ k₂ : ℕ) → 0 < s → Floored s a b c →
    Near a xn xd α₁ β₁ → Near b (s * fn) fd α₂ β₂ → a ≤ A → fn ≤ B * fd → A * α₂ ≤ k₁ * s → A * β₂ ≤ k₂ * s →
    Near c (xn * fn) (xd * fd) (B * α₁ + k₁) (1 + B * β₁ + k₂)
near_mul {s} {a} {xn} {xd} {α₁} {β₁} {b} {fn} {fd} {α₂} {β₂} {c} A B k₁ k₂ hs f p q ha hf h₁ h₂ = record {
  low =
      le_of_mul-le-mul_left
      (low-chain (s * (xn * fn))
      (floored-below xd fd f)
      (mul-le-mul_left (a * xd) q.low)
      (split-low s a xd fn fd α₂)
      (mul-le-mul_left (s * fn) p.low)
      (split s xn xd fn α₁)
      (mul-le-mul_left (s * α₁ * xd) hf)
      (regroup s α₁ xd B fd)
      (allowance s a α₂ A k₁ xd fd ha h₁)
      (split-goal s (xn * fn) (B * α₁) k₁ (xd * fd)))
      hs;
  high =
      le_of_mul-le-mul_left
      (high-chain
      (le_trans (turn s xn fn) (mul-le-mul_left (s * fn) p.high))
      (split-high s fn a xd β₁)
      (mul-le-mul_left (a * xd) q.high)
      (split-above a xd b fd β₂)
      (floored-above xd fd f)
      (allowance s a β₂ A k₂ xd fd ha h₂)
      (mul-le-mul_left (s * β₁ * xd) hf)
      (regroup s β₁ xd B fd)
      (split-sum s c (B * β₁) k₂ (xd * fd)))
      hs;
}
  where
    turn : (s xn fn : ℕ) → s * (xn * fn) ≤ s * fn * xn
    turn s xn fn = omega arith

    split-low : (s a xd fn fd α₂ : ℕ) → a * xd * (s * fn + α₂ * fd) ≡ s * fn * (a * xd) + a * α₂ * (xd * fd)
    split-low s a xd fn fd α₂ = omega arith

    split : (s xn xd fn α₁ : ℕ) → s * fn * (xn + α₁ * xd) ≡ s * (xn * fn) + s * α₁ * xd * fn
    split s xn xd fn α₁ = omega arith

    regroup : (s α₁ xd B fd : ℕ) → s * α₁ * xd * (B * fd) ≡ s * (B * α₁ * (xd * fd))
    regroup s α₁ xd B fd = omega arith

    split-goal : (s g b k d : ℕ) → s * (g + (b + k) * d) ≡ s * g + s * (b * d) + s * (k * d)
    split-goal s g b k d = omega arith

    split-high : (s fn a xd β₁ : ℕ) → s * fn * ((a + β₁) * xd) ≡ a * xd * (s * fn) + s * β₁ * xd * fn
    split-high s fn a xd β₁ = omega arith

    split-above : (a xd b fd β₂ : ℕ) → a * xd * ((b + β₂) * fd) ≡ a * xd * (b * fd) + a * β₂ * (xd * fd)
    split-above a xd b fd β₂ = omega arith

    split-sum : (s c b k d : ℕ) → s * ((c + (1 + b + k)) * d) ≡ s * ((c + 1) * d) + s * (b * d) + s * (k * d)
    split-sum s c b k d = omega arith

-- The same fraction under other names, or with both parts multiplied.

pub near-equal : {v n n' d d' α β : ℕ} → Near v n d α β → n ≡ n' → d ≡ d' → Near v n' d' α β
near-equal p e e' = rw (← e, ← e') p

pub near-scale : {v n d α β : ℕ} (j : ℕ) → Near v n d α β → Near v (n * j) (d * j) α β
near-scale {v} {n} {d} {α} {β} j p = record {
  low = omega (arith, mul-le-mul_right j p.low);
  high = omega (arith, mul-le-mul_right j p.high);
}

-- so many times
pub near-multiple : {v n d α β : ℕ} (k : ℕ) → Near v n d α β → Near (k * v) (k * n) d (k * α) (k * β)
near-multiple {v} {n} {d} {α} {β} k p = record {
  low = omega (arith, mul-le-mul_left k p.low);
  high = omega (arith, mul-le-mul_left k p.high);
}

-- in units s times as large, rounded down
pub near-floor : {v n d α : ℕ} (s a c : ℕ) → 0 < s → c * s ≤ v → v ≤ (c + 1) * s → α ≤ a * s → Near v (s * n) d α 0 → Near c n d a 1
near-floor {v} {n} {d} {α} s a c pos below above h p = record {
  low = le_of_mul-le-mul_left {k = s} (omega (arith, mul-le-mul_right d below, mul-le-mul_right d h, p.low)) pos;
  high = le_of_mul-le-mul_left {k = s} (omega (arith, mul-le-mul_right d above, p.high)) pos;
}
