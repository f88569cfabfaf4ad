-- Equal fractions go into sums, products and the larger of two; so values that depend on some exponentials alone do.
-- Assumes nothing.
use mathlib.Core.Path.{◌≡◌}
use mathlib.Core.List.Memᴰ
use mathlib.Core.List.{List, ◌++◌, Memᴰ}
use Prim.Native.Nat.{◌+◌, ◌*◌, ◌<◌}
use Rattle.exact.specs.Fraction.{Fraction, Proper, negated, reciprocal, ◌⊕◌, ◌⊗◌, ◌≈◌, Equals, larger, smaller}
use Rattle.exact.specs.Quantity.{Assignment, DependsOn}
use Rattle.exact.proofs.Fractions
use Rattle.exact.proofs.Fractions.{Positive}

-- by computation, where x and y are numerals
pub equals-of : {x y : Fraction} → 0 < x.over → 0 < y.over → x.plus * y.over + y.minus * x.over ≡ y.plus * x.over + x.minus * y.over → Equals x y
equals-of p q e = record { left = record { positive = p }; right = record { positive = q }; same = record { crossed = e } }

pub equals-refl : {x : Fraction} → Proper x → Equals x x
equals-refl {x} p = record { left = p; right = p; same = Fractions.same_refl x }

-- the second written another way
pub equals-as : {x y z : Fraction} → Equals x y → Proper z → y ≈ z → Equals x z
equals-as h p e = record { left = h.left; right = p; same = Fractions.same-trans h.right h.same e }

pub equals-sum : {x x' y y' : Fraction} → Equals x x' → Equals y y' → Equals (x ⊕ y) (x' ⊕ y')
equals-sum h k = record {
  left = Fractions.proper-sum h.left k.left;
  right = Fractions.proper-sum h.right k.right;
  same = Fractions.same_sum h.same k.same;
}

pub equals-product : {x x' y y' : Fraction} → Equals x x' → Equals y y' → Equals (x ⊗ y) (x' ⊗ y')
equals-product h k = record {
  left = Fractions.proper-product h.left k.left;
  right = Fractions.proper-product h.right k.right;
  same = Fractions.same-product h.right k.left h.same k.same;
}

pub equals-negated : {x x' : Fraction} → Equals x x' → Equals (negated x) (negated x')
equals-negated h = record {
  left = Fractions.proper-negated h.left;
  right = Fractions.proper-negated h.right;
  same = Fractions.same-negated h.same;
}

pub equals-larger : {x x' y y' : Fraction} → Equals x x' → Equals y y' → Equals (larger x y) (larger x' y')
equals-larger h k = record {
  left = Fractions.proper-larger h.left k.left;
  right = Fractions.proper-larger h.right k.right;
  same = Fractions.same-larger h.left h.right k.left k.right h.same k.same;
}

pub equals-smaller : {x x' y y' : Fraction} → Equals x x' → Equals y y' → Equals (smaller x y) (smaller x' y')
equals-smaller h k = record {
  left = Fractions.proper-smaller h.left k.left;
  right = Fractions.proper-smaller h.right k.right;
  same = Fractions.same-smaller h.left h.right k.left k.right h.same k.same;
}

pub equals-reciprocal : {x y : Fraction} → Equals x y → Positive y → Equals (reciprocal x) (reciprocal y)
equals-reciprocal h p =
    let q = Fractions.positive-same h.right h.left (Fractions.same-sym h.same) p in
    record { left = Fractions.proper-reciprocal q; right = Fractions.proper-reciprocal p; same = Fractions.same-reciprocal q p h.same }

module _ {ys : List Fraction} where
  pub depends-constant : {c : Fraction} → Proper c → DependsOn ys (λ x. c)
  depends-constant p = record { alike = λ x x' a. equals-refl p }

  -- exp(-y), for y in the list
  pub depends-exponential : (y : Fraction) → Memᴰ y ys → DependsOn ys (λ x. x y)
  depends-exponential y k = record { alike = λ x x' a. record { left = a.left y; right = a.right y; same = a.same y k } }

  module _ {f g : Assignment → Fraction} (h : DependsOn ys f) (k : DependsOn ys g) where
    pub depends-sum : DependsOn ys (λ x. f x ⊕ g x)
    depends-sum = record { alike = λ x x' a. equals-sum (h.alike x x' a) (k.alike x x' a) }

    pub depends-product : DependsOn ys (λ x. f x ⊗ g x)
    depends-product = record { alike = λ x x' a. equals-product (h.alike x x' a) (k.alike x x' a) }

    pub depends-larger : DependsOn ys (λ x. larger (f x) (g x))
    depends-larger = record { alike = λ x x' a. equals-larger (h.alike x x' a) (k.alike x x' a) }

  pub depends-negated : {f : Assignment → Fraction} → DependsOn ys f → DependsOn ys (λ x. negated (f x))
  depends-negated h = record { alike = λ x x' a. equals-negated (h.alike x x' a) }

  -- on more of them too
  pub depends-more : {zs : List Fraction} {f : Assignment → Fraction} → ((y : Fraction) → Memᴰ y ys → Memᴰ y zs) → DependsOn ys f → DependsOn zs f
  depends-more m h = record { alike = λ x x' a. h.alike x x' (record { left = a.left; right = a.right; same = λ y k. a.same y (m y k) }) }

pub depends-left : {ys : List Fraction} (zs : List Fraction) {f : Assignment → Fraction} → DependsOn ys f → DependsOn (ys ++ zs) f
depends-left zs h = depends-more (λ y k. Memᴰ.append_left zs k) h

pub depends-right : (ys : List Fraction) {zs : List Fraction} {f : Assignment → Fraction} → DependsOn zs f → DependsOn (ys ++ zs) f
depends-right ys h = depends-more (λ y k. Memᴰ.append_right ys k) h
