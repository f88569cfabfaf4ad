-- The laws of the exponential for the crates above.
-- Assumes nothing.
use Prim.Native.Nat.{ℕ, ◌+◌, ◌*◌, ◌-◌, ◌/◌, ◌%◌, ◌^◌, ◌≤◌, ◌<◌}
use mathlib.Core.Logic.{◌⊎◌, inl, inr}
use mathlib.Core.Path.{◌≡◌, refl, ◌∙◌}
use lib.Dec.{lit≤}
use native.Mathlib.Decide.{dec_le}
use native.Mathlib.Nat.{le_refl, le_trans, mul-le-mul_right, div-add-mod'}
use native.Mathlib.Omega.{arith}
use Rattle.exact.proofs.Enclosure.{Above, Below, above_from, above-exponent, below-product, below-exponent, below-value, below-tail}
use Rattle.exact.proofs.Sums.{num, den, tailed}
use Rattle.exponential.specs.Exponential.{lowered, decrease, exp_upper_lem}
use Rattle.exponential.specs.Table.{exponentials, entry}
use Rattle.exponential.proofs.Between.{above-between, below-between}
use Rattle.exponential.proofs.Entries.{rule, entry-bounded}
use Rattle.exponential.proofs.Steps.{nothing-lowered, beyond, between}

-- The last entry.
last : entry 1536 ≡ 42
unfolding exponentials
last = refl

-- From 24 on the value is 42.
pub from-24 : (y : ℕ) → 1536 * 2 ^ 32 ≤ y → exp_upper_lem y ≡ 42
from-24 y h = beyond y h ∙ last

-- By cases: below 24, and from there on.
by-24 : (P : ℕ → Type 0) (y : ℕ) →
    (y < 1536 * 2 ^ 32 → P (lowered (entry (y / 2 ^ 32)) (decrease (y % 2 ^ 32)))) → (1536 * 2 ^ 32 ≤ y → P (entry 1536)) → P (exp_upper_lem y)
by-24 P y below above =
    elim (dec_le (1536 * 2 ^ 32) y) [
      | yes h ↦ rw (beyond y h) (above h)
      | no h ↦
          let l : y < 1536 * 2 ^ 32 = omega arith in
          rw (between y l) (below l)
    ]

-- At an entry's exponent the value is the entry.
pub at_entries : (k : ℕ) → k ≤ 1536 → exp_upper_lem (k * 2 ^ 32) ≡ entry k
at_entries k h =
    by-24 (λ (u : ℕ). u ≡ entry k) (k * 2 ^ 32)
    (λ l.
    let q : k * 2 ^ 32 / 2 ^ 32 ≡ k = omega arith in
    let z : k * 2 ^ 32 % 2 ^ 32 ≡ 0 = omega arith in
    rw (q, z) (nothing-lowered (entry k)))
    (λ l. let e : k ≡ 1536 = omega arith in rw e refl)

lowered-most : (t d : ℕ) → lowered t d ≤ t
unfolding lowered
lowered-most t d = omega arith

-- The value is at most 1.
pub bounded : (y : ℕ) → exp_upper_lem y ≤ 2 ^ 40
bounded y =
    by-24 (λ (u : ℕ). u ≤ 2 ^ 40) y
    (λ h. le_trans (lowered-most (entry (y / 2 ^ 32)) (decrease (y % 2 ^ 32))) (entry-bounded (y / 2 ^ 32) (omega arith)))
    (λ h. entry-bounded 1536 (le_refl 1536))

-- The value is at or above exp(-y).
pub at-or-above : (y : ℕ) → Above (exp_upper_lem y) (2 ^ 40) y (2 ^ 38)
at-or-above y =
    by-24 (λ (u : ℕ). Above u (2 ^ 40) y (2 ^ 38)) y
    (λ h.
    let k : y / 2 ^ 32 ≤ 1536 = omega arith in
    rw (div-add-mod' y (2 ^ 32)) at
    (above-between (y % 2 ^ 32) (omega arith) (entry (y / 2 ^ 32)) (y / 2 ^ 32) (rule.at (y / 2 ^ 32) k) (entry-bounded (y / 2 ^ 32) k)))
    (λ h. above-exponent (lit≤ tt) (omega arith) (rule.at 1536 (le_refl 1536)).above)

-- Below 24 it is so by at most 16 units.
pub within-16 : (y : ℕ) → y < 1536 * 2 ^ 32 → Below (exp_upper_lem y - 16) (2 ^ 40) y (2 ^ 38)
within-16 y h =
    let k : y / 2 ^ 32 ≤ 1536 = omega arith in
    rw (between y h)
    (rw (div-add-mod' y (2 ^ 32)) at
    (below-between (y % 2 ^ 32) (omega arith) (entry (y / 2 ^ 32)) (y / 2 ^ 32) (rule.at (y / 2 ^ 32) k) (entry-bounded (y / 2 ^ 32) k)))

-- u in units of 2^-40 is at or above exp(-a/d), 1/E(m) for all m from some order on, by at most 42 units
pub record NearExponential (u a d : ℕ) : Type 0 where
  pub from : ℕ
  pub above : (m : ℕ) → from ≤ m → 2 ^ 40 * den d m ≤ u * num a d m
  pub below : (m : ℕ) → u * num a d m ≤ 2 ^ 40 * den d m + 42 * num a d m

-- 1 - h is at or below exp(-h), for h of 5 units
five-units : Below (2 ^ 38 - 5) (2 ^ 38) 5 (2 ^ 38)
unfolding tailed num den
five-units = below-tail 1 (lit≤ tt) (lit≤ tt) (lit≤ tt)

beyond-42 : (y a d : ℕ) → 1536 * 2 ^ 32 ≤ y → Below (exp_upper_lem y - 42) (2 ^ 40) a d
beyond-42 y a d h = rw (from-24 y h) (record { every = λ n. omega arith })

pub within-42 : (y a d : ℕ) → (2 ^ 38 * a ≤ (y + 5) * d) ⊎ (1536 * 2 ^ 32 ≤ y) → Below (exp_upper_lem y - 42) (2 ^ 40) a d
within-42 y a d (inr h) = beyond-42 y a d h
within-42 y a d (inl close) =
    elim (dec_le (1536 * 2 ^ 32) y) [
      | yes h ↦ beyond-42 y a d h
      | no h ↦
          below-value {s = (exp_upper_lem y - 16) * (2 ^ 38 - 5)} {g = 2 ^ 40 * 2 ^ 38} (lit≤ tt)
          (omega (arith, bounded y))
          (below-exponent (lit≤ tt) (omega arith) (below-product (lit≤ tt) (within-16 y (omega arith)) five-units))
    ]

-- The value is at or above exp(-a/d) for every larger exponent a/d.
pub above_at : (y a d : ℕ) → y * d ≤ 2 ^ 38 * a → Above (exp_upper_lem y) (2 ^ 40) a d
above_at y a d low = above-exponent (lit≤ tt) (omega arith) (at-or-above y)

-- The exponent a/d may lie up to 5 units above y, or anywhere above it where y is 24 or more.
pub near : (y a d : ℕ) → 0 < d → y * d ≤ 2 ^ 38 * a → (2 ^ 38 * a ≤ (y + 5) * d) ⊎ (1536 * 2 ^ 32 ≤ y) → NearExponential (exp_upper_lem y) a d
near y a d pos low high =
    let u : ℕ = exp_upper_lem y in
    let above : Above u (2 ^ 40) a d = above_at y a d low in
    record {
      from = above.order;
      above = above_from pos above;
      below = λ m.
          omega (arith, (within-42 y a d high).every m, mul-le-mul_right {m = u} {n = u - 42 + 42} (num a d m) (omega arith));
    }
