-- The addition laws of the partial sums E(n): E(n)(x + y) is at most E(n)(x) E(n)(y), and E(m)(x) E(k)(y) at most E(m + k)(x + y).
-- The terms w i of E, scaled to natural numbers, satisfy (i + 1) d w(i + 1) = a w(i). So does the convolution of two such sequences,
-- with the sum of the two a: no binomials are needed.
-- Assumes nothing.
use Prim.Native.Nat.{ℕ, zero, suc, ◌+◌, ◌*◌, ◌-◌, ◌^◌, ◌≤◌, ◌<◌}
use mathlib.Core.Path.{◌≡◌, refl, ap, ap₂, ◌∙◌}
use native.Mathlib.Nat.{add-suc, add-zero, zero-add, suc-add, pow-zero, pow-suc, mul-pos, mul-le-mul_left, mul-le-mul_right, le_refl, le_of_mul-le-mul_left}
use native.Mathlib.Omega.{arith}
use Rattle.exact.proofs.Sums.{num, den, den-suc, num-suc}

-- w 0 + .. + w n
sum : (ℕ → ℕ) → ℕ → ℕ
sum w zero = w 0
sum w (suc n) = sum w n + w (suc n)

-- w s + .. + w (s + n)
sum_from : (ℕ → ℕ) → ℕ → ℕ → ℕ
sum_from w s zero = w s
sum_from w s (suc n) = w s + sum_from w (suc s) n

-- u s · v n + u (s + 1) · v (n - 1) + .. + u (s + n) · v 0
convolution : (ℕ → ℕ) → (ℕ → ℕ) → ℕ → ℕ → ℕ
convolution u v s zero = u s * v 0
convolution u v s (suc n) = u s * v (suc n) + convolution u v (suc s) n

sum_from-last : (w : ℕ → ℕ) (s n : ℕ) → sum_from w s (suc n) ≡ sum_from w s n + w (suc (s + n))
unfolding sum_from
sum_from-last w s zero = rw (add-zero s) refl
sum_from-last w s (suc n) = rw (add-suc s n, ← suc-add s n) (omega (arith, sum_from-last w (suc s) n))

sum-from-zero : (w : ℕ → ℕ) (n : ℕ) → sum_from w 0 n ≡ sum w n
unfolding sum_from sum
sum-from-zero w zero = refl
sum-from-zero w (suc n) =
    sum_from-last w 0 n ∙ (rw (zero-add n) (ap (λ (t : ℕ). t + w (suc n)) (sum-from-zero w n)))

sum-grows : (w : ℕ → ℕ) (n k : ℕ) → sum w n ≤ sum w (k + n)
unfolding sum
sum-grows w n zero = rw (zero-add n) (le_refl (sum w n))
sum-grows w n (suc k) = rw (suc-add k n) (omega (arith, sum-grows w n k))

-- The convolution with sums is the sum of convolutions,
convolution-sum : (u v : ℕ → ℕ) (s n : ℕ) → convolution u (sum v) s (suc n) ≡ convolution u (sum v) s n + convolution u v s (suc n)
unfolding convolution sum
convolution-sum u v s zero = omega arith
convolution-sum u v s (suc n) = omega (arith, convolution-sum u v (suc s) n)

-- at most the product of the sums,
convolution-upper : (u v : ℕ → ℕ) (s n : ℕ) → convolution u (sum v) s n ≤ sum_from u s n * sum v n
unfolding convolution sum sum_from
convolution-upper u v s zero = le_refl (u s * v 0)
convolution-upper u v s (suc n) = omega (arith, convolution-upper u v (suc s) n)

-- and at least the product of sums of lower orders.
convolution-first : (u v : ℕ → ℕ) (s k : ℕ) → u s * sum v k ≤ convolution u (sum v) s k
unfolding convolution sum
convolution-first u v s zero = le_refl (u s * v 0)
convolution-first u v s (suc k) = omega arith

convolution-lower : (u v : ℕ → ℕ) (s m k : ℕ) → sum_from u s m * sum v k ≤ convolution u (sum v) s (m + k)
unfolding sum_from convolution
convolution-lower u v s zero k = rw (zero-add k) (convolution-first u v s k)
convolution-lower u v s (suc m) k =
    let g : sum v k ≤ sum v (suc (m + k)) = rw (← suc-add m k) (sum-grows v k (suc m)) in
    rw (suc-add m k) (omega (arith, mul-le-mul_left (u s) g, convolution-lower u v (suc s) m k))

-- The sequence satisfies the law of the terms of the exponential at a / d, up to index N.
abbrev Terms : ℕ → ℕ → ℕ → (ℕ → ℕ) → Type 0
Terms a d N w = (i : ℕ) → i < N → suc i * d * w (suc i) ≡ a * w i

-- So w n is w 0 times a term of E, and its sums are w 0 times E.
terms-are : (a d N : ℕ) (w : ℕ → ℕ) → Terms a d N w → (n : ℕ) → n ≤ N → w n * den d n ≡ w 0 * a ^ n
unfolding den
terms-are a d N w law zero h = rw (pow-zero a) refl
terms-are a d N w law (suc n) h =
    rw (pow-suc a n)
    (omega (arith, ap (λ (t : ℕ). t * den d n) (law n h), ap (λ (t : ℕ). a * t) (terms-are a d N w law n (omega arith))))

sums-are : (a d N : ℕ) (w : ℕ → ℕ) → Terms a d N w → (n : ℕ) → n ≤ N → sum w n * den d n ≡ w 0 * num a d n
unfolding sum den num
sums-are a d N w law zero h = refl
sums-are a d N w law (suc n) h =
    rw (num-suc a d n)
    (omega (
      arith,
      terms-are a d N w law (suc n) h,
      ap (λ (t : ℕ). suc n * d * t) (sums-are a d N w law n (omega arith)),
      ap (λ (t : ℕ). sum w n * t) (den-suc d n),
    ))

-- The convolution of two such sequences satisfies it with the sum of the exponents.
convolution-law : (a b d N : ℕ) (u v : ℕ → ℕ) → Terms a d N u → Terms b d N v → (k s : ℕ) → s + k < N →
    suc (s + k) * d * convolution u v s (suc k) ≡ (a + b) * convolution u v s k + s * d * u s * v (suc k)
unfolding convolution
convolution-law a b d N u v ul vl zero s h =
    omega (arith, ap (λ (t : ℕ). t * v 0) (ul s (omega arith)), ap (λ (t : ℕ). u s * t) (vl 0 (omega arith)))
convolution-law a b d N u v ul vl (suc k) s h =
    omega (
      arith,
      convolution-law a b d N u v ul vl k (suc s) (omega arith),
      ap (λ (t : ℕ). t * v (suc k)) (ul s (omega arith)),
      ap (λ (t : ℕ). u s * t) (vl (suc k) (omega arith)),
    )

convolution-terms : (a b d N : ℕ) (u v : ℕ → ℕ) → Terms a d N u → Terms b d N v → Terms (a + b) d N (convolution u v 0)
convolution-terms a b d N u v ul vl k h = omega (arith, convolution-law a b d N u v ul vl k 0 (omega arith))

sum-convolution : (u v : ℕ → ℕ) (n : ℕ) → sum (convolution u v 0) n ≡ convolution u (sum v) 0 n
unfolding sum convolution
sum-convolution u v zero = refl
sum-convolution u v (suc n) = omega (arith, convolution-sum u v 0 n, sum-convolution u v n)

-- (i + 1) d · .. · (i + r) d
factors : ℕ → ℕ → ℕ → ℕ
factors d i zero = 1
factors d i (suc r) = suc i * d * factors d (suc i) r

factors-pos : (d : ℕ) → 0 < d → (i r : ℕ) → 0 < factors d i r
unfolding factors
factors-pos d h i zero = omega arith
factors-pos d h i (suc r) = mul-pos (mul-pos (omega arith) h) (factors-pos d h (suc i) r)

-- the terms of E up to index N, times d^N N!
scaled : ℕ → ℕ → ℕ → ℕ → ℕ
scaled a d N i = a ^ i * factors d i (N - i)

scaled-terms : (a d N : ℕ) → Terms a d N (scaled a d N)
unfolding scaled factors
scaled-terms a d N i h =
    let e : N - i ≡ suc (N - suc i) = omega arith in
    rw (e, pow-suc a i) (omega arith)

scaled-pos : (a d N : ℕ) → 0 < d → 0 < scaled a d N 0
unfolding scaled
scaled-pos a d N h = rw (pow-zero a) (omega (arith, factors-pos d h 0 (N - 0)))

upper-scaled : (C U W D P A B p q : ℕ) → 0 < p → 0 < q → C * D ≡ p * q * P → U * D ≡ p * A → W * D ≡ q * B → C ≤ U * W → P * D ≤ A * B
upper-scaled C U W D P A B p q hp hq e f g h =
    le_of_mul-le-mul_left {k = p * q} (omega (arith, ap (λ (t : ℕ). t * D) e, ap₂ ◌*◌ f g, mul-le-mul_right (D * D) h)) (mul-pos hp hq)

lower-scaled : (C U W D F G P A B p q : ℕ) → 0 < p → 0 < q → C * D ≡ p * q * P → U * F ≡ p * A → W * G ≡ q * B → U * W ≤ C →
    A * B * D ≤ P * (F * G)
lower-scaled C U W D F G P A B p q hp hq e f g h =
    le_of_mul-le-mul_left {k = p * q}
    (omega (arith, ap (λ (t : ℕ). t * (F * G)) e, ap (λ (t : ℕ). t * D) (ap₂ ◌*◌ f g), mul-le-mul_right (D * (F * G)) h))
    (mul-pos hp hq)

-- E(n)(x + y) ≤ E(n)(x) E(n)(y)
pub upper : (a b d n : ℕ) → 0 < d → num (a + b) d n * den d n ≤ num a d n * num b d n
unfolding convolution
upper a b d n pos =
    let u : ℕ → ℕ = scaled a d n in
    let v : ℕ → ℕ = scaled b d n in
    let c : ℕ → ℕ = convolution u v 0 in
    upper-scaled (sum c n) (sum u n) (sum v n) (den d n) (num (a + b) d n) (num a d n) (num b d n) (u 0) (v 0)
    (scaled-pos a d n pos)
    (scaled-pos b d n pos)
    (sums-are (a + b) d n c (convolution-terms a b d n u v (scaled-terms a d n) (scaled-terms b d n)) n (le_refl n))
    (sums-are a d n u (scaled-terms a d n) n (le_refl n))
    (sums-are b d n v (scaled-terms b d n) n (le_refl n))
    (rw (sum-convolution u v n, ← sum-from-zero u n) (convolution-upper u v 0 n))

-- E(m)(x) E(k)(y) ≤ E(m + k)(x + y)
pub lower : (a b d m k : ℕ) → 0 < d → num a d m * num b d k * den d (m + k) ≤ num (a + b) d (m + k) * (den d m * den d k)
unfolding convolution
lower a b d m k pos =
    let N : ℕ = m + k in
    let u : ℕ → ℕ = scaled a d N in
    let v : ℕ → ℕ = scaled b d N in
    let c : ℕ → ℕ = convolution u v 0 in
    lower-scaled (sum c N) (sum u m) (sum v k) (den d N) (den d m) (den d k) (num (a + b) d N) (num a d m) (num b d k) (u 0) (v 0)
    (scaled-pos a d N pos)
    (scaled-pos b d N pos)
    (sums-are (a + b) d N c (convolution-terms a b d N u v (scaled-terms a d N) (scaled-terms b d N)) N (le_refl N))
    (sums-are a d N u (scaled-terms a d N) m (omega arith))
    (sums-are b d N v (scaled-terms b d N) k (omega arith))
    (rw (sum-convolution u v N, ← sum-from-zero u m) (convolution-lower u v 0 m k))
