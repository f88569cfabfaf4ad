-- The exact charge, from the paper's fractions to natural numerators and denominators.
-- Assumes nothing.
use mathlib.Core.Path.{◌≡◌, ap, ap₂}
use Prim.Native.Nat.{ℕ, ◌+◌, ◌*◌, ◌-◌, ◌^◌, ◌≤◌, ◌<◌, max, min}
use native.Mathlib.Decide.{dec_le}
use native.Mathlib.Omega.{arith}
use native.Mathlib.Nat.{mul-pos, min-eq_left, min-eq_right, le_dest, le_of_lt, lt_of_not-le, mul-le-mul_right, sub-zero, add-sub_cancel_left}
use Rattle.exact.specs.Fraction.{Fraction, quotient, whole, negated, reciprocal, smaller, ◌⊕◌, ◌⊖◌, ◌⊗◌, ◌≈◌, Equals}
use Rattle.exact.proofs.Dependence.{equals-of, equals-refl, equals-as, equals-sum, equals-product, equals-negated, equals-smaller, equals-reciprocal}
use Rattle.exact.specs.Quantity.{Assignment}
use Rattle.coefficients.specs.Coefficients.{Curve}
use Rattle.loan_charge.specs.Charge.{value_ratio, gauss_exponent, exponent1, exponent2, curve_value}
use Rattle.coefficients.specs.declared.ScaledCurve.{ScaledCurve}
use Rattle.coefficients.specs.Promise.{ScaledCurveOf}
use Rattle.loan_charge.proofs.Gauss.{exponent_num, exponent_den}
use Rattle.loan_charge.proofs.Money.{limited_num, rate_num, rate_den}

-- z
pub ratio-is : (p q : ℕ) → 0 < q → Equals (value_ratio p q) (quotient (max p q) q)
unfolding value_ratio
ratio-is p q h =
    equals-of (omega arith) h
    (omega (arith, ap (λ (t : ℕ). t * q) (ap₂ max {x = p * 1 + 0 * q} {y = p} {u = 1 * q + 0 * 1} {v = q} (omega arith) (omega arith))))

-- the square of a difference
square : (a b : ℕ) → a * a + b * b ≡ (a - b + (b - a)) * (a - b + (b - a)) + (a * b + b * a)
square a b = go (dec_le b a)
  where
    go : Dec (b ≤ a) → a * a + b * b ≡ (a - b + (b - a)) * (a - b + (b - a)) + (a * b + b * a)
    go (yes h) =
        let (k, e) = le_dest h in
        rw (← e) (difference b k)
      where
        difference : (b k : ℕ) → (b + k) * (b + k) + b * b ≡ (b + k - b + (b - (b + k))) * (b + k - b + (b - (b + k))) + ((b + k) * b + b * (b + k))
        difference b k = rw (dropped b k) (omega arith)
          where
            dropped : (b k : ℕ) → b + k - b + (b - (b + k)) ≡ k
            dropped b k = omega arith
    go (no h) =
        let (k, e) = le_dest (le_of_lt (lt_of_not-le h)) in
        rw (← e) (difference a k)
      where
        difference : (a k : ℕ) → a * a + (a + k) * (a + k) ≡ (a - (a + k) + (a + k - a)) * (a - (a + k) + (a + k - a)) + (a * (a + k) + (a + k) * a)
        difference a k = rw (dropped a k) (omega arith)
          where
            dropped : (a k : ℕ) → a - (a + k) + (a + k - a) ≡ k
            dropped a k = omega arith

square-is : (a b o : ℕ) →
    record { plus = a; minus = b; over = o } ⊗ record { plus = a; minus = b; over = o } ≈ quotient ((a - b + (b - a)) * (a - b + (b - a))) (o * o)
square-is a b o = record { crossed = omega (arith, ap (λ (t : ℕ). t * (o * o)) (square a b)) }

combined : (D q s : ℕ) → quotient D (120000 * q * (120000 * q)) ⊗ quotient (120000 * 120000) (2 * (s * s)) ≈ quotient D (2 * (s * q * (s * q)))
combined D q s = record { crossed = omega arith }

-- the exponent (z - μ)² / (2 σ²) with z = P / q and μ, σ in 120000ths
module _ {z mean deviation : Fraction} {P q i s : ℕ} (ez : Equals z (quotient P q)) (em : Equals mean (quotient i 120000))
    (ed : Equals deviation (quotient s 120000)) (s-pos : 0 < s) where
  scale-pos : 0 < 120000 * q
  scale-pos = omega (arith, ez.right.positive)

  difference-is : Equals (z ⊖ mean) (record { plus = 120000 * P; minus = i * q; over = 120000 * q })
  difference-is = equals-as (equals-sum ez (equals-negated em)) (record { positive = scale-pos }) (record { crossed = omega arith })

  square-same : Equals ((z ⊖ mean) ⊗ (z ⊖ mean)) (quotient (exponent_num P q i) (120000 * q * (120000 * q)))
  square-same =
      equals-as (equals-product difference-is difference-is) (record { positive = mul-pos scale-pos scale-pos })
      (square-is (120000 * P) (i * q) (120000 * q))

  twice-is : Equals (whole 2 ⊗ (deviation ⊗ deviation)) (quotient (2 * (s * s)) (120000 * 120000))
  twice-is =
      equals-as (equals-product {x = whole 2} (equals-refl (record { positive = omega arith })) (equals-product ed ed))
      (record { positive = omega arith }) (record { crossed = omega arith })

  reciprocal_is : Equals (reciprocal (whole 2 ⊗ (deviation ⊗ deviation))) (quotient (120000 * 120000) (2 * (s * s)))
  reciprocal_is = rw (sub-zero (2 * (s * s))) at (equals-reciprocal twice-is (record { above = omega (arith, mul-pos s-pos s-pos) }))

  exponent-den-pos : 0 < exponent_den q s
  exponent-den-pos = omega (arith, mul-pos (mul-pos s-pos ez.right.positive) (mul-pos s-pos ez.right.positive))

  pub exponent-is : Equals (gauss_exponent z mean deviation) (quotient (exponent_num P q i) (exponent_den q s))
  unfolding gauss_exponent
  exponent-is = equals-as (equals-product square-same reciprocal_is) (record { positive = exponent-den-pos }) (combined (exponent_num P q i) q s)

-- numerators of a curve in 12ths over D₁ D₂: of the terms with a plus, and with a minus
abbrev pub curve_plus : ScaledCurve → (N₁ D₁ N₂ D₂ : ℕ) → ℕ
curve_plus c N₁ D₁ N₂ D₂ = c.weight1 * N₁ * D₂ + c.plus2 * N₂ * D₁

abbrev pub curve_minus : ScaledCurve → (N₁ D₁ N₂ D₂ : ℕ) → ℕ
curve_minus c N₁ D₁ N₂ D₂ = c.minus2 * N₂ * D₁

two-terms : (c p m N₁ D₁ N₂ D₂ : ℕ) →
    quotient c 12 ⊗ quotient N₁ D₁ ⊕ record { plus = p; minus = m; over = 12 } ⊗ quotient N₂ D₂ ≈
    record { plus = c * N₁ * D₂ + p * N₂ * D₁; minus = m * N₂ * D₁; over = 12 * (D₁ * D₂) }
two-terms c p m N₁ D₁ N₂ D₂ = record { crossed = omega arith }

pub curve-is : {w p m : ℕ} {curve : Curve} {s : ScaledCurve} → ScaledCurveOf w p m curve s → (z : Fraction) (exp : Assignment) {N₁ D₁ N₂ D₂ : ℕ} →
    Equals (exp (exponent1 curve z)) (quotient N₁ D₁) → Equals (exp (exponent2 curve z)) (quotient N₂ D₂) →
    Equals (curve_value curve z exp) (record { plus = curve_plus s N₁ D₁ N₂ D₂; minus = curve_minus s N₁ D₁ N₂ D₂; over = 12 * (D₁ * D₂) })
unfolding curve_value
curve-is {s = s} h z exp {N₁} {D₁} {N₂} {D₂} v₁ v₂ =
    equals-as (equals-sum (equals-product h.weight1.is v₁) (equals-product h.weight2.is v₂))
    (record { positive = omega (arith, mul-pos v₁.right.positive v₂.right.positive) })
    (two-terms s.weight1 s.plus2 s.minus2 N₁ D₁ N₂ D₂)

-- an amount of (plus - minus) / over units, in cents
abbrev pub cents : (plus minus over : ℕ) → Fraction
cents plus minus over = record { plus = plus; minus = minus; over = 1200000 * over }

-- A + B × balance / 10^7
both-curves : (a b d a' b' d' k K : ℕ) →
    record { plus = a; minus = b; over = 12 * d } ⊕ record { plus = a'; minus = b'; over = 12 * d' } ⊗ quotient k K ≈
    record { plus = K * a * d' + k * a' * d; minus = K * b * d' + k * b' * d; over = 12 * (K * (d * d')) }
both-curves a b d a' b' d' k K = record { crossed = omega arith }

-- 100 m times that
hundredfold : (S R d m T : ℕ) → whole 100 ⊗ quotient m T ⊗ record { plus = S; minus = R; over = 12 * (10000000 * d) } ≈ cents (S * m) (R * m) (d * T)
hundredfold S R d m T = record { crossed = omega arith }

pub base-is : {A B : Fraction} {a b a' b' : ℕ} (d d' : ℕ) → Equals A (record { plus = a; minus = b; over = 12 * d }) →
    Equals B (record { plus = a'; minus = b'; over = 12 * d' }) → 0 < d * d' → (balance m : ℕ) →
    Equals (whole 100 ⊗ quotient m (10 ^ 17) ⊗ (A ⊕ B ⊗ quotient balance 10000000))
    (cents ((10000000 * a * d' + balance * a' * d) * m) ((10000000 * b * d' + balance * b' * d) * m) (d * d' * 10 ^ 17))
base-is {a = a} {b} {a'} {b'} d d' eA eB pos balance m =
    equals-as
    (equals-product {x = whole 100 ⊗ quotient m (10 ^ 17)} (equals-refl (record { positive = omega arith }))
    (equals-as (equals-sum eA (equals-product eB (equals-refl {x = quotient balance 10000000} (record { positive = omega arith }))))
    (record { positive = omega (arith, pos) }) (both-curves a b d a' b' d' balance 10000000)))
    (record { positive = omega (arith, pos) })
    (hundredfold (10000000 * a * d' + balance * a' * d) (10000000 * b * d' + balance * b' * d) (d * d') m (10 ^ 17))

-- the smaller of two fractions over one denominator
smaller-is : (g h k : ℕ) → smaller (quotient g k) (quotient h k) ≈ quotient (min g h) k
smaller-is g h k = record { crossed = omega (arith, ap (λ (t : ℕ). t * k) factored) }
  where
    cases : Dec (g ≤ h) → min (g * k + 0 * k) (h * k + 0 * k) ≡ min g h * k
    cases (yes l) = rw (min-eq_left l, min-eq_left {n = g * k + 0 * k} {m = h * k + 0 * k} (omega (arith, mul-le-mul_right k l))) (omega arith)
    cases (no l) =
        let l' : h ≤ g = le_of_lt (lt_of_not-le l) in
        rw (min-eq_right {n = h} {m = g} l', min-eq_right {n = h * k + 0 * k} {m = g * k + 0 * k} (omega (arith, mul-le-mul_right k l'))) (omega arith)

    factored : min (g * k + 0 * k) (h * k + 0 * k) ≡ min g h * k
    factored = cases (dec_le g h)

-- c + (z - 1) / 10
unlimited : (c P q : ℕ) → q ≤ P → quotient c 12000 ⊕ quotient 1 10 ⊗ (quotient P q ⊖ whole 1) ≈ quotient (c * 100 * q + 120000 * (P - q)) (1200000 * q)
unlimited c P q h =
    let (k, e) = le_dest h in
    rw (← e, add-sub_cancel_left q k) (record { crossed = omega arith })

module _ {z C b v : Fraction} {P q c i N D : ℕ} (ez : Equals z (quotient P q)) (above : q ≤ P) (eC : Equals C (quotient c 12000))
    (eb : Equals b (quotient i 10)) (ev : Equals v (quotient N D)) where
  scaled-pos : 0 < 1200000 * q
  scaled-pos = omega (arith, ez.right.positive)

  unlimited-is : Equals (C ⊕ quotient 1 10 ⊗ (z ⊖ whole 1)) (quotient (c * 100 * q + 120000 * (P - q)) (1200000 * q))
  unlimited-is =
      equals-as
      (equals-sum eC
      (equals-product {x = quotient 1 10} (equals-refl (record { positive = omega arith }))
      (equals-sum ez (equals-refl {x = negated (whole 1)} (record { positive = omega arith })))))
      (record { positive = scaled-pos }) (unlimited c P q above)

  limited-is : Equals (smaller (C ⊕ quotient 1 10 ⊗ (z ⊖ whole 1)) (quotient 115 100)) (quotient (limited_num P q c) (1200000 * q))
  limited-is =
      equals-as
      (equals-smaller unlimited-is (equals-of {x = quotient 115 100} {y = quotient (1380000 * q) (1200000 * q)} (omega arith) scaled-pos (omega arith)))
      (record { positive = scaled-pos }) (smaller-is (c * 100 * q + 120000 * (P - q)) (1380000 * q) (1200000 * q))

  pub rate-is : Equals (smaller (C ⊕ quotient 1 10 ⊗ (z ⊖ whole 1)) (quotient 115 100) ⊕ b ⊗ v) (quotient (rate_num P q c i N D) (rate_den q D))
  rate-is =
      equals-as (equals-sum limited-is (equals-product eb ev))
      (record { positive = omega (arith, mul-pos ez.right.positive ev.right.positive) })
      (added (limited_num P q c) (1200000 * q) i N D)
    where
      added : (g k i N D : ℕ) → quotient g k ⊕ quotient i 10 ⊗ quotient N D ≈ quotient (g * (10 * D) + i * N * k) (k * (10 * D))
      added g k i N D = record { crossed = omega arith }

-- r times a base, and the sum of two amounts
pub product_is : (n d p m o : ℕ) → quotient n d ⊗ cents p m o ≈ cents (p * n) (m * n) (o * d)
product_is n d p m o = record { crossed = omega arith }

pub sum_is : (p m o p' m' o' : ℕ) → cents p m o ⊕ cents p' m' o' ≈ cents (p * o' + p' * o) (m * o' + m' * o) (o * o')
sum_is p m o p' m' o' = record { crossed = omega arith }
