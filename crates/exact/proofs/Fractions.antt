-- Laws of the signed fractions: they are numbers, whatever way they are written.
-- Assumes nothing.
use mathlib.Core.Path.{◌≡◌, refl, sym, ◌∙◌, ap, ap₂}
use Prim.Native.Nat.{ℕ, ◌+◌, ◌*◌, ◌≤◌, ◌<◌}
use native.Mathlib.Decide.{dec_le}
use mathlib.Core.Logic.{⊎_elim, ◌⊎◌, inl, inr}
use native.Mathlib.Nat.{le_dest, le_of_lt, lt_of_not-le, max-eq_left, max-eq_right, min-eq_left, min-eq_right, sub-add_cancel, mul-le-mul_left}
use native.Mathlib.Nat.{mul-le-mul_right, mul-lt-mul_of_pos_left, mul-pos, le_of_mul-le-mul_left, lt_of_mul-lt-mul_left, eq_of_mul-eq-mul_left}
use native.Mathlib.Nat.{le_of_eq, le_antisymm, add-le-add}
use native.Mathlib.Omega.{arith}
use Rattle.exact.specs.Fraction.{Fraction, Proper, quotient, negated, ◌⊕◌, ◌⊗◌, ◌≼◌, ◌≺◌, ◌≈◌, larger, smaller, reciprocal}

-- Proper

pub proper-quotient : (a : ℕ) {b : ℕ} → 0 < b → Proper (quotient a b)
proper-quotient a h = record { positive = h }

pub proper-sum : {x y : Fraction} → Proper x → Proper y → Proper (x ⊕ y)
proper-sum h k = record { positive = mul-pos h.positive k.positive }

pub proper-product : {x y : Fraction} → Proper x → Proper y → Proper (x ⊗ y)
proper-product h k = record { positive = mul-pos h.positive k.positive }

pub proper-negated : {x : Fraction} → Proper x → Proper (negated x)
proper-negated h = record { positive = h.positive }

pub proper-larger : {x y : Fraction} → Proper x → Proper y → Proper (larger x y)
proper-larger h k = record { positive = mul-pos h.positive k.positive }

pub proper-smaller : {x y : Fraction} → Proper x → Proper y → Proper (smaller x y)
proper-smaller h k = record { positive = mul-pos h.positive k.positive }

-- The same number

pub same_refl : (x : Fraction) → x ≈ x
same_refl x = record { crossed = refl }

pub same-sym : {x y : Fraction} → x ≈ y → y ≈ x
same-sym h = record { crossed = sym h.crossed }

pub same-trans : {x y z : Fraction} → Proper y → x ≈ y → y ≈ z → x ≈ z
same-trans {x} {y} {z} p h k =
    record {
      crossed = eq_of_mul-eq-mul_left y.over p.positive _ _
          (omega (arith, ap (λ (t : ℕ). z.over * t) h.crossed, ap (λ (t : ℕ). x.over * t) k.crossed));
    }

-- one side of the order of two sums, put in order
side : (p c a o o' c' m' b' : ℕ) → (p * c + a * o) * (o' * c') + (m' * c' + b' * o') * (o * c) ≡ c * c' * (p * o' + m' * o) + o * o' * (a * c' + b' * c)
side p c a o o' c' m' b' = omega arith

sum_left : (x x' y y' : Fraction) →
    (x ⊕ y).plus * (x' ⊕ y').over + (x' ⊕ y').minus * (x ⊕ y).over ≡
    y.over * y'.over * (x.plus * x'.over + x'.minus * x.over) + x.over * x'.over * (y.plus * y'.over + y'.minus * y.over)
sum_left x x' y y' = side x.plus y.over y.plus x.over x'.over y'.over x'.minus y'.minus

sum-right : (x x' y y' : Fraction) →
    (x' ⊕ y').plus * (x ⊕ y).over + (x ⊕ y).minus * (x' ⊕ y').over ≡
    y.over * y'.over * (x'.plus * x.over + x.minus * x'.over) + x.over * x'.over * (y'.plus * y.over + y.minus * y'.over)
sum-right x x' y y' = sum_left x' x y' y ∙ omega arith

pub same_sum : {x x' y y' : Fraction} → x ≈ x' → y ≈ y' → x ⊕ y ≈ x' ⊕ y'
same_sum {x} {x'} {y} {y'} h k =
    record {
      crossed = sum_left x x' y y' ∙ ap₂ (λ (s t : ℕ). y.over * y'.over * s + x.over * x'.over * t) h.crossed k.crossed ∙ sym (sum-right x x' y y');
    }

pub same-negated : {x y : Fraction} → x ≈ y → negated x ≈ negated y
same-negated h = record { crossed = omega (arith, h.crossed) }

pub same-product-left : {x x' : Fraction} (y : Fraction) → x ≈ x' → x ⊗ y ≈ x' ⊗ y
same-product-left {x} {x'} y h =
    record {
      crossed = omega (arith, ap (λ (t : ℕ). y.over * y.plus * t) h.crossed, ap (λ (t : ℕ). y.over * y.minus * t) h.crossed);
    }

-- equal in each part
pub same-of-parts : {x y : Fraction} → x.plus ≡ y.plus → x.minus ≡ y.minus → x.over ≡ y.over → x ≈ y
same-of-parts p m o = record { crossed = omega (arith, ap₂ ◌*◌ p (sym o), ap₂ ◌*◌ m (sym o)) }

-- each part k times
pub same-of-multiple : {x y : Fraction} (k : ℕ) → y.plus ≡ k * x.plus → y.minus ≡ k * x.minus → y.over ≡ k * x.over → x ≈ y
same-of-multiple {x} {y} k p m o =
    record {
      crossed = omega (
        arith,
        ap (λ (t : ℕ). x.plus * t) o,
        ap (λ (t : ℕ). t * x.over) m,
        ap (λ (t : ℕ). t * x.over) p,
        ap (λ (t : ℕ). x.minus * t) o,
      );
    }

pub product-sum : (x y f : Fraction) → (x ⊕ y) ⊗ f ≈ x ⊗ f ⊕ y ⊗ f
product-sum x y f = same-of-multiple f.over (omega arith) (omega arith) (omega arith)

pub same-product : {x x' y y' : Fraction} → Proper x' → Proper y → x ≈ x' → y ≈ y' → x ⊗ y ≈ x' ⊗ y'
same-product {x} {x'} {y} {y'} p q h k =
    same-trans (proper-product p q) (same-product-left y h)
    (record { crossed = omega (arith, (same-product-left x' k).crossed) })

-- Order

pub at-most-refl : (x : Fraction) → x ≼ x
at-most-refl x = record { crossed = omega arith }

pub at-most-of-same : {x y : Fraction} → x ≈ y → x ≼ y
at-most-of-same h = record { crossed = le_of_eq h.crossed }

pub at-most-of-below : {x y : Fraction} → x ≺ y → x ≼ y
at-most-of-below h = record { crossed = le_of_lt h.crossed }

pub at-most-trans : {x y z : Fraction} → Proper y → x ≼ y → y ≼ z → x ≼ z
at-most-trans {x} {y} {z} p h k =
    record {
      crossed = le_of_mul-le-mul_left {k = y.over} (omega (arith, mul-le-mul_left z.over h.crossed, mul-le-mul_left x.over k.crossed))
          p.positive;
    }

pub below-at-most : {x y z : Fraction} → Proper y → Proper z → x ≺ y → y ≼ z → x ≺ z
below-at-most {x} {y} {z} p q h k =
    record {
      crossed = lt_of_mul-lt-mul_left y.over (omega (arith, mul-lt-mul_of_pos_left h.crossed q.positive, mul-le-mul_left x.over k.crossed));
    }

pub at-most-below : {x y z : Fraction} → Proper x → Proper y → x ≼ y → y ≺ z → x ≺ z
at-most-below {x} {y} {z} p q h k =
    record {
      crossed = lt_of_mul-lt-mul_left y.over (omega (arith, mul-le-mul_left z.over h.crossed, mul-lt-mul_of_pos_left k.crossed p.positive));
    }

pub same-of-at-most : {x y : Fraction} → x ≼ y → y ≼ x → x ≈ y
same-of-at-most h k = record { crossed = le_antisymm h.crossed (omega (arith, k.crossed)) }

pub at-most-sum : {x x' y y' : Fraction} → x ≼ x' → y ≼ y' → x ⊕ y ≼ x' ⊕ y'
at-most-sum {x} {x'} {y} {y'} h k =
    record {
      crossed = rw (sum_left x x' y y', sum-right x x' y y')
          (add-le-add (mul-le-mul_left (y.over * y'.over) h.crossed) (mul-le-mul_left (x.over * x'.over) k.crossed));
    }

pub at-most-negated : {x y : Fraction} → x ≼ y → negated y ≼ negated x
at-most-negated h = record { crossed = omega (arith, h.crossed) }

-- y is at or above 0
pub record Nonnegative (y : Fraction) : Type 0 where
  pub above : y.minus ≤ y.plus

-- y is above 0
pub record Positive (y : Fraction) : Type 0 where
  pub above : y.minus < y.plus

-- with L ≤ R and b ≤ a: a L + b R ≤ a R + b L
exchanged : (a b L R : ℕ) → b ≤ a → L ≤ R → a * L + b * R ≤ a * R + b * L
exchanged a b L R h k =
    let (d, e) = le_dest h in
    omega (arith, mul-le-mul_left d k, ap (λ (t : ℕ). t * L) e, ap (λ (t : ℕ). t * R) e)

product-left : (x x' y : Fraction) →
    (x ⊗ y).plus * (x' ⊗ y).over + (x' ⊗ y).minus * (x ⊗ y).over ≡
    y.over * (y.plus * (x.plus * x'.over + x'.minus * x.over) + y.minus * (x'.plus * x.over + x.minus * x'.over))
product-left x x' y = omega arith

product-right : (x x' y : Fraction) →
    (x' ⊗ y).plus * (x ⊗ y).over + (x ⊗ y).minus * (x' ⊗ y).over ≡
    y.over * (y.plus * (x'.plus * x.over + x.minus * x'.over) + y.minus * (x.plus * x'.over + x'.minus * x.over))
product-right x x' y = omega arith

pub at-most-product : {x x' : Fraction} (y : Fraction) → Nonnegative y → x ≼ x' → x ⊗ y ≼ x' ⊗ y
at-most-product {x} {x'} y n h =
    record {
      crossed = rw (product-left x x' y, product-right x x' y)
          (mul-le-mul_left y.over
          (exchanged y.plus y.minus (x.plus * x'.over + x'.minus * x.over) (x'.plus * x.over + x.minus * x'.over) n.above h.crossed));
    }

-- The larger of two is one of them, and not below the other. The same of the smaller.

pub larger-cases : (x y : Fraction) → ((larger x y ≈ x) × (y ≼ x)) ⊎ ((larger x y ≈ y) × (x ≼ y))
larger-cases x y = go (dec_le (y.plus * x.over + x.minus * y.over) (x.plus * y.over + y.minus * x.over))
  where
    go : Dec (y.plus * x.over + x.minus * y.over ≤ x.plus * y.over + y.minus * x.over) → ((larger x y ≈ x) × (y ≼ x)) ⊎ ((larger x y ≈ y) × (x ≼ y))
    go (yes h) = inl (record { crossed = rw (max-eq_left h) (omega arith) }, record { crossed = h })
    go (no h) = inr (record { crossed = rw (max-eq_right (le_of_lt (lt_of_not-le h))) (omega arith) }, record { crossed = le_of_lt (lt_of_not-le h) })

pub smaller-cases : (x y : Fraction) → ((smaller x y ≈ x) × (x ≼ y)) ⊎ ((smaller x y ≈ y) × (y ≼ x))
smaller-cases x y = go (dec_le (x.plus * y.over + y.minus * x.over) (y.plus * x.over + x.minus * y.over))
  where
    go : Dec (x.plus * y.over + y.minus * x.over ≤ y.plus * x.over + x.minus * y.over) → ((smaller x y ≈ x) × (x ≼ y)) ⊎ ((smaller x y ≈ y) × (y ≼ x))
    go (yes h) = inl (record { crossed = rw (min-eq_left h) (omega arith) }, record { crossed = h })
    go (no h) = inr (record { crossed = rw (min-eq_right (le_of_lt (lt_of_not-le h))) (omega arith) }, record { crossed = le_of_lt (lt_of_not-le h) })

pub left-le-larger : {x y : Fraction} → Proper x → Proper y → x ≼ larger x y
left-le-larger {x} {y} p q = ⊎_elim (λ c. at-most-of-same (same-sym c.0)) (λ c. at-most-trans q c.1 (at-most-of-same (same-sym c.0)))
    (larger-cases x y)

pub right-le-larger : {x y : Fraction} → Proper x → Proper y → y ≼ larger x y
right-le-larger {x} {y} p q = ⊎_elim (λ c. at-most-trans p c.1 (at-most-of-same (same-sym c.0))) (λ c. at-most-of-same (same-sym c.0))
    (larger-cases x y)

pub larger-le : {x y z : Fraction} → Proper x → Proper y → x ≼ z → y ≼ z → larger x y ≼ z
larger-le {x} {y} p q h k = ⊎_elim (λ c. at-most-trans p (at-most-of-same c.0) h) (λ c. at-most-trans q (at-most-of-same c.0) k) (larger-cases x y)

pub same-larger : {x x' y y' : Fraction} → Proper x → Proper x' → Proper y → Proper y' → x ≈ x' → y ≈ y' → larger x y ≈ larger x' y'
same-larger p p' q q' h k =
    same-of-at-most
    (larger-le p q (at-most-trans p' (at-most-of-same h) (left-le-larger p' q')) (at-most-trans q' (at-most-of-same k) (right-le-larger p' q')))
    (larger-le p' q' (at-most-trans p (at-most-of-same (same-sym h)) (left-le-larger p q))
    (at-most-trans q (at-most-of-same (same-sym k)) (right-le-larger p q)))

pub smaller-le-left : {x y : Fraction} → Proper x → Proper y → smaller x y ≼ x
smaller-le-left {x} {y} p q = ⊎_elim (λ c. at-most-of-same c.0) (λ c. at-most-trans q (at-most-of-same c.0) c.1) (smaller-cases x y)

pub smaller-le-right : {x y : Fraction} → Proper x → Proper y → smaller x y ≼ y
smaller-le-right {x} {y} p q = ⊎_elim (λ c. at-most-trans p (at-most-of-same c.0) c.1) (λ c. at-most-of-same c.0) (smaller-cases x y)

pub le-smaller : {x y z : Fraction} → Proper x → Proper y → z ≼ x → z ≼ y → z ≼ smaller x y
le-smaller {x} {y} p q h k = ⊎_elim (λ c. at-most-trans p h (at-most-of-same (same-sym c.0)))
    (λ c. at-most-trans q k (at-most-of-same (same-sym c.0))) (smaller-cases x y)

pub same-smaller : {x x' y y' : Fraction} → Proper x → Proper x' → Proper y → Proper y' → x ≈ x' → y ≈ y' → smaller x y ≈ smaller x' y'
same-smaller p p' q q' h k =
    same-of-at-most
    (le-smaller p' q' (at-most-trans p (smaller-le-left p q) (at-most-of-same h)) (at-most-trans q (smaller-le-right p q) (at-most-of-same k)))
    (le-smaller p q (at-most-trans p' (smaller-le-left p' q') (at-most-of-same (same-sym h)))
    (at-most-trans q' (smaller-le-right p' q') (at-most-of-same (same-sym k))))

-- 1 / x

pub proper-reciprocal : {x : Fraction} → Positive x → Proper (reciprocal x)
proper-reciprocal h = record { positive = omega (arith, h.above) }

pub same-reciprocal : {x y : Fraction} → Positive x → Positive y → x ≈ y → reciprocal x ≈ reciprocal y
same-reciprocal {x} {y} p q h =
    record {
      crossed = omega (
        arith,
        ap (λ (t : ℕ). x.over * t) (sub-add_cancel (le_of_lt q.above)),
        ap (λ (t : ℕ). y.over * t) (sub-add_cancel (le_of_lt p.above)),
        h.crossed,
      );
    }

pub nonnegative-same : {x y : Fraction} → Proper x → Proper y → x ≈ y → Nonnegative x → Nonnegative y
nonnegative-same {x} {y} p q h n =
    record { above = le_of_mul-le-mul_left {k = x.over} (omega (arith, mul-le-mul_left y.over n.above, h.crossed)) p.positive }

pub positive-same : {x y : Fraction} → Proper x → Proper y → x ≈ y → Positive x → Positive y
positive-same {x} {y} p q h n =
    record { above = lt_of_mul-lt-mul_left x.over (omega (arith, mul-lt-mul_of_pos_left n.above q.positive, h.crossed)) }

pub nonnegative-sum : {x y : Fraction} → Nonnegative x → Nonnegative y → Nonnegative (x ⊕ y)
nonnegative-sum {x} {y} h k = record { above = add-le-add (mul-le-mul_right y.over h.above) (mul-le-mul_right x.over k.above) }
