-- Partial sums of the exponential at a fraction a / d, on natural numbers over one denominator.
use Prim.Native.Nat.{ℕ, zero, suc, ◌+◌, ◌*◌, ◌^◌, ◌≤◌, ◌<◌}
use mathlib.Core.Path.{◌≡◌, refl}
use native.Mathlib.Nat.{add-suc, add-zero, pow-zero, pow-suc, le_dest, mul-pos, mul-le-mul, mul-le-mul_left, mul-le-mul_right, le_refl, le_trans, le_antisymm}
use native.Mathlib.Decide.{dec_le}
use native.Mathlib.Omega.{arith}

-- d^n n!
unfoldable pub den : ℕ → ℕ → ℕ
den d zero = 1
den d (suc n) = suc n * d * den d n

-- num a d n / den d n is E(n), the sum of (a / d)^k / k! for k from 0 to n.
unfoldable pub num : ℕ → ℕ → ℕ → ℕ
num a d zero = 1
num a d (suc n) = suc n * d * num a d n + a ^ suc n

-- tailed a d n / den d (suc n) is E(n) + 2 y^(n+1) / (n+1)! at y = a / d.
unfoldable pub tailed : ℕ → ℕ → ℕ → ℕ
tailed a d n = suc n * d * num a d n + 2 * a ^ suc n

pub den-suc : (d n : ℕ) → den d (suc n) ≡ suc n * d * den d n
unfolding den
den-suc d n = refl

pub num-suc : (a d n : ℕ) → num a d (suc n) ≡ suc n * d * num a d n + a ^ suc n
unfolding num
num-suc a d n = refl

pub den_pos : (d : ℕ) → 0 < d → (n : ℕ) → 0 < den d n
unfolding den
den_pos d h zero = omega arith
den_pos d h (suc n) = mul-pos (mul-pos (omega arith) h) (den_pos d h n)

pub num_pos : (a d : ℕ) → 0 < d → (n : ℕ) → 0 < num a d n
unfolding num
num_pos a d h zero = omega arith
num_pos a d h (suc n) = omega (arith, mul-pos {m = suc n * d} {n = num a d n} (mul-pos {m = suc n} (omega arith) h) (num_pos a d h n))

-- The sums grow in the order.
grows : (a d n k : ℕ) → num a d n * den d (n + k) ≤ num a d (n + k) * den d n
grows a d n zero = rw (add-zero n) (le_refl (num a d n * den d n))
grows a d n (suc k) =
    rw (add-suc n k, num-suc a d (n + k), den-suc d (n + k))
    (omega (arith, mul-le-mul_left (suc (n + k) * d) (grows a d n k)))

pub growing : (a d n m : ℕ) → n ≤ m → num a d n * den d m ≤ num a d m * den d n
growing a d n m h = let (k, e) = le_dest h in rw (← e) (grows a d n k)

-- One term of the sums at a smaller and at a larger fraction.
term-monotone : (a d a' d' : ℕ) → a * d' ≤ a' * d → (n : ℕ) → a ^ n * den d' n ≤ a' ^ n * den d n
unfolding den
term-monotone a d a' d' h zero = rw (pow-zero a, pow-zero a') (le_refl 1)
term-monotone a d a' d' h (suc n) =
    rw (den-suc d n, den-suc d' n, pow-suc a n, pow-suc a' n)
    (omega (arith, mul-le-mul_left (suc n) (mul-le-mul h (term-monotone a d a' d' h n))))

-- The sums grow in the fraction.
pub monotone : (a d a' d' : ℕ) → a * d' ≤ a' * d → (n : ℕ) → num a d n * den d' n ≤ num a' d' n * den d n
unfolding den num
monotone a d a' d' h zero = le_refl 1
monotone a d a' d' h (suc n) =
    let t : a ^ suc n * (suc n * d' * den d' n) ≤ a' ^ suc n * (suc n * d * den d n) = term-monotone a d a' d' h (suc n) in
    omega (arith, t, mul-le-mul_left (suc n * d * (suc n * d')) (monotone a d a' d' h n))

-- Equal fractions have equal sums.
pub alike : (a d a' d' : ℕ) → a * d' ≡ a' * d → (n : ℕ) → num a d n * den d' n ≡ num a' d' n * den d n
alike a d a' d' e n = le_antisymm (monotone a d a' d' (omega arith) n) (monotone a' d' a d (omega arith) n)

-- The sum with its tail doubled bounds the next sum,
next-tailed : (a d n : ℕ) → num a d (suc n) ≤ tailed a d n
unfolding num tailed
next-tailed a d n = omega arith

-- does not grow with the order,
tailed-falls : (a d n : ℕ) → 2 * a ≤ (n + 2) * d → tailed a d (suc n) ≤ suc (suc n) * d * tailed a d n
unfolding num tailed
tailed-falls a d n h = rw (pow-suc a (suc n)) (omega (arith, mul-le-mul_left (a ^ suc n) h))

tailed-down : (a d n k : ℕ) → 2 * a ≤ (n + 2) * d → tailed a d (n + k) * den d (suc n) ≤ tailed a d n * den d (suc (n + k))
tailed-down a d n zero h = rw (add-zero n) (le_refl (tailed a d n * den d (suc n)))
tailed-down a d n (suc k) h =
    rw (add-suc n k, den-suc d (suc (n + k)))
    (omega (
      arith,
      mul-le-mul_left (suc (suc (n + k)) * d) (tailed-down a d n k h),
      mul-le-mul_right (den d (suc n)) (tailed-falls a d (n + k) (le_trans h (mul-le-mul_right d (omega arith)))),
    ))

tail-above : (a d n k : ℕ) → 2 * a ≤ (n + 2) * d → num a d (suc (n + k)) * den d (suc n) ≤ tailed a d n * den d (suc (n + k))
tail-above a d n k h = le_trans (mul-le-mul_right (den d (suc n)) (next-tailed a d (n + k))) (tailed-down a d n k h)

-- and so bounds the sum of every order.
pub tail : (a d n : ℕ) → 2 * a ≤ (n + 2) * d → (m : ℕ) → num a d m * den d (suc n) ≤ tailed a d n * den d m
tail a d n h m =
    elim (dec_le (suc n) m) [
      | yes above ↦
          let (k, e) = le_dest above in
          let e' : suc (n + k) ≡ m = omega (arith, e) in
          rw (← e') (tail-above a d n k h)
      | no below ↦
          le_trans (growing a d m (suc n) (omega arith)) (mul-le-mul_right (den d m) (next-tailed a d n))
    ]
