-- Distances on one side: y is at or above x, by at most a.
-- Assumes nothing.
use mathlib.Core.Path.{◌≡◌}
use Prim.Native.Nat.{ℕ, ◌+◌, ◌-◌, ◌*◌, ◌≤◌}
use native.Mathlib.Nat.{mul-le-mul_left, lt-div-mul-add, div-mul-le_self, div-lt_iff_lt-mul, le_antisymm}
use native.Mathlib.Omega.{arith}
use Rattle.exact.specs.Fraction.{Fraction, Proper, whole, negated, ◌⊕◌, ◌⊗◌, ◌≼◌, ◌≺◌, ◌≈◌, larger, ceiling}
use Rattle.exact.proofs.Fractions
use Rattle.exact.proofs.Fractions.{Nonnegative}

pub record Within (x y a : Fraction) : Type 0 where
  pub lower : Proper x
  pub upper : Proper y
  pub width : Proper a
  pub at_most : x ≼ y
  pub near : y ≼ x ⊕ a

pub within_same : {x y : Fraction} → Proper x → Proper y → x ≈ y → Within x y (whole 0)
within_same p q e =
    record {
      lower = p;
      upper = q;
      width = record { positive = omega arith };
      at_most = Fractions.at-most-of-same e;
      near = record { crossed = omega (arith, e.crossed) };
    }

-- (x + a) + (y + b) is (x + y) + (a + b)
regrouped : (x a y b : Fraction) → (x ⊕ a) ⊕ (y ⊕ b) ≈ (x ⊕ y) ⊕ (a ⊕ b)
regrouped x a y b = Fractions.same-of-parts (omega arith) (omega arith) (omega arith)

pub within-sum : {x y a x' y' b : Fraction} → Within x y a → Within x' y' b → Within (x ⊕ x') (y ⊕ y') (a ⊕ b)
within-sum {x} {y} {a} {x'} {y'} {b} h k =
    record {
      lower = Fractions.proper-sum h.lower k.lower;
      upper = Fractions.proper-sum h.upper k.upper;
      width = Fractions.proper-sum h.width k.width;
      at_most = Fractions.at-most-sum h.at_most k.at_most;
      near = Fractions.at-most-trans
          (Fractions.proper-sum (Fractions.proper-sum h.lower h.width) (Fractions.proper-sum k.lower k.width))
          (Fractions.at-most-sum h.near k.near)
          (Fractions.at-most-of-same (regrouped x a x' b));
    }

pub within-negated : {x y a : Fraction} → Within x y a → Within (negated y) (negated x) a
within-negated {x} {y} {a} h =
    record {
      lower = Fractions.proper-negated h.upper;
      upper = Fractions.proper-negated h.lower;
      width = h.width;
      at_most = Fractions.at-most-negated h.at_most;
      near = record { crossed = omega (arith, h.near.crossed) };
    }

pub within-trans : {x y z a b : Fraction} → Within x y a → Within y z b → Within x z (a ⊕ b)
within-trans {x} {y} {z} {a} {b} h k =
    record {
      lower = h.lower;
      upper = k.upper;
      width = Fractions.proper-sum h.width k.width;
      at_most = Fractions.at-most-trans h.upper h.at_most k.at_most;
      near = Fractions.at-most-trans (Fractions.proper-sum h.upper k.width) k.near
          (Fractions.at-most-trans (Fractions.proper-sum (Fractions.proper-sum h.lower h.width) k.width)
          (Fractions.at-most-sum h.near (Fractions.at-most-refl b))
          (Fractions.at-most-of-same (Fractions.same-of-parts (omega arith) (omega arith) (omega arith))));
    }

pub within_wider : {x y a b : Fraction} → Proper b → a ≼ b → Within x y a → Within x y b
within_wider {x} {y} {a} {b} p l h =
    record {
      lower = h.lower;
      upper = h.upper;
      width = p;
      at_most = h.at_most;
      near = Fractions.at-most-trans (Fractions.proper-sum h.lower h.width) h.near (Fractions.at-most-sum (Fractions.at-most-refl x) l);
    }

-- the same numbers, written another way
pub within-alike : {x x' y y' a : Fraction} → Proper x' → Proper y' → x ≈ x' → y ≈ y' → Within x y a → Within x' y' a
within-alike {x} {x'} {y} {y'} {a} p q e f h =
    record {
      lower = p;
      upper = q;
      width = h.width;
      at_most = Fractions.at-most-trans h.lower (Fractions.at-most-of-same (Fractions.same-sym e))
          (Fractions.at-most-trans h.upper h.at_most (Fractions.at-most-of-same f));
      near = Fractions.at-most-trans h.upper (Fractions.at-most-of-same (Fractions.same-sym f))
          (Fractions.at-most-trans (Fractions.proper-sum h.lower h.width) h.near
          (Fractions.at-most-sum (Fractions.at-most-of-same e) (Fractions.at-most-refl a)));
    }

-- the larger of each and 0
pub within-larger : {x y a z : Fraction} → Proper z → Nonnegative a → Within x y a → Within (larger x z) (larger y z) a
within-larger {x} {y} {a} {z} p n h =
    record {
      lower = Fractions.proper-larger h.lower p;
      upper = Fractions.proper-larger h.upper p;
      width = h.width;
      at_most = Fractions.larger-le h.lower p (Fractions.at-most-trans h.upper h.at_most (Fractions.left-le-larger h.upper p))
          (Fractions.right-le-larger h.upper p);
      near = Fractions.larger-le h.upper p
          (Fractions.at-most-trans (Fractions.proper-sum h.lower h.width) h.near
          (Fractions.at-most-sum (Fractions.left-le-larger h.lower p) (Fractions.at-most-refl a)))
          (Fractions.at-most-trans (Fractions.proper-sum p h.width)
          (record { crossed = omega (arith, mul-le-mul_left (z.over * z.over) n.above) })
          (Fractions.at-most-sum (Fractions.right-le-larger h.lower p) (Fractions.at-most-refl a)));
    }

-- a share of each
pub within-product : {x y a : Fraction} (f : Fraction) → Proper f → Nonnegative f → Within x y a → Within (x ⊗ f) (y ⊗ f) (a ⊗ f)
within-product {x} {y} {a} f p n h =
    record {
      lower = Fractions.proper-product h.lower p;
      upper = Fractions.proper-product h.upper p;
      width = Fractions.proper-product h.width p;
      at_most = Fractions.at-most-product f n h.at_most;
      near = Fractions.at-most-trans (Fractions.proper-product (Fractions.proper-sum h.lower h.width) p) (Fractions.at-most-product f n h.near)
          (Fractions.at-most-of-same (Fractions.product-sum x a f));
    }

-- x rounded up is the least whole number not below x,
pub ceiling-above : {x : Fraction} → Proper x → x ≼ whole (ceiling x)
unfolding ceiling
ceiling-above {x} p =
    record {
      crossed = omega (
        arith,
        lt-div-mul-add {a = x.plus - x.minus + (x.over - 1)} {b = x.over} p.positive,
        p.positive,
      );
    }

pub ceiling-least : {x : Fraction} (k : ℕ) → Proper x → x ≼ whole k → ceiling x ≤ k
unfolding ceiling
ceiling-least {x} k p h =
    omega (
      arith,
      (div-lt_iff_lt-mul {k = x.over} {x = x.plus - x.minus + (x.over - 1)} {y = k + 1} p.positive).1 (omega (arith, h.crossed, p.positive)),
    )

-- so it does not go by how x is written,
pub ceiling-alike : {x y : Fraction} → Proper x → Proper y → x ≈ y → ceiling x ≡ ceiling y
ceiling-alike {x} {y} p q e =
    le_antisymm
    (ceiling-least (ceiling y) p (Fractions.at-most-trans q (Fractions.at-most-of-same e) (ceiling-above q)))
    (ceiling-least (ceiling x) q (Fractions.at-most-trans p (Fractions.at-most-of-same (Fractions.same-sym e)) (ceiling-above p)))

-- and lies less than 1 above x.
pub ceiling-near : {x : Fraction} → Proper x → Nonnegative x → whole (ceiling x) ≺ x ⊕ whole 1
unfolding ceiling
ceiling-near {x} p n =
    record {
      crossed = omega (
        arith,
        div-mul-le_self (x.plus - x.minus + (x.over - 1)) x.over,
        n.above,
        p.positive,
      );
    }

pub within-ceiling : {x : Fraction} → Proper x → Nonnegative x → Within x (whole (ceiling x)) (whole 1)
within-ceiling p n =
    record {
      lower = p;
      upper = record { positive = omega arith };
      width = record { positive = omega arith };
      at_most = ceiling-above p;
      near = Fractions.at-most-of-below (ceiling-near p n);
    }
