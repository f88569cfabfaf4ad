-- The exact total and supplement depend on the exponentials of their exponents alone: no exponent is left out of the lists.
-- Assumes nothing.
use mathlib.Core.Path.{refl}
use mathlib.Core.Bool.{Bool, true, false}
use mathlib.Core.List.{List, [], ◌∷◌, Memᴰ}
use lib.Dec.{leb}
use Prim.Native.Nat.{ℕ}
use native.Mathlib.Omega.{arith}
use Rattle.exact.specs.Choice.{pick}
use Rattle.exact.specs.Fraction.{Fraction, Proper, quotient, whole, ◌⊕◌, ◌⊗◌}
use Rattle.exact.specs.Quantity.{DependsOn, Determined}
use Rattle.exact.proofs.Fractions
use Rattle.exact.proofs.Dependence.{depends-constant, depends-exponential, depends-sum, depends-product, depends-left, depends-right}
use Rattle.coefficients.specs.Coefficients.{Curve, first_set_lem, rate_b_lem}
use Rattle.coefficients.specs.declared.ScaledCurve.{ScaledCurve}
use Rattle.coefficients.specs.Promise.{ScaledCurveOf}
use Rattle.coefficients.proofs.CoefficientLaws.{scaled-a, scaled-b, scaled-c}
use Rattle.loan_charge.specs.declared.LoanInputs.{LoanInputs}
use Rattle.loan_charge.specs.Charge.{ratio_of, exponent1, exponent2, curve_value, exact_base, rate_a, exact_rate, exact_supplement, exact_total}
use Rattle.loan_charge.specs.Charge.{base_exponents, rate_exponents, all_exponents, total_exponents, supplement_exponents, total_quantity}
use Rattle.loan_charge.specs.Charge.{supplement_quantity, Chargeable}
use Rattle.loan_charge.proofs.ExactValues.{ratio-is}
use Rattle.loan_charge.proofs.Sizes.{months-in}

curve-depends : {w p m : ℕ} {curve : Curve} {s : ScaledCurve} → ScaledCurveOf w p m curve s → (z : Fraction) {ys : List Fraction} →
    Memᴰ (exponent1 curve z) ys → Memᴰ (exponent2 curve z) ys → DependsOn ys (curve_value curve z)
unfolding curve_value
curve-depends {curve = curve} c z k₁ k₂ =
    depends-sum
    (depends-product (depends-constant c.weight1.is.left) (depends-exponential (exponent1 curve z) k₁))
    (depends-product (depends-constant c.weight2.is.left) (depends-exponential (exponent2 curve z) k₂))

-- 0 times an exponential depends on none
zero-depends : {ys : List Fraction} (y : Fraction) → DependsOn ys (λ x. whole 0 ⊗ x y)
zero-depends y = record {
  alike = λ x x' a. record {
    left = Fractions.proper-product {x = whole 0} (record { positive = omega arith }) (a.left y);
    right = Fractions.proper-product {x = whole 0} (record { positive = omega arith }) (a.right y);
    same = record { crossed = omega arith };
  };
}

share-depends : (first : Bool) (n : ℕ) → DependsOn (rate_exponents first n) (λ x. rate_b_lem first n ⊗ x (quotient n 120))
unfolding rate_exponents rate_b_lem
share-depends true n = go (leb n 120)
  where
    go : (t : Bool) → DependsOn (pick t (quotient n 120 ∷ []) []) (λ x. pick t (quotient 3 10) (whole 0) ⊗ x (quotient n 120))
    go true = depends-product (depends-constant (record { positive = omega arith })) (depends-exponential (quotient n 120) (Memᴰ.head refl))
    go false = zero-depends (quotient n 120)
share-depends false n =
    depends-product (depends-constant (record { positive = omega arith })) (depends-exponential (quotient n 120) (Memᴰ.head refl))

module _ (l : LoanInputs) (c : Chargeable l) where
  base-depends : DependsOn (base_exponents l) (exact_base l)
  unfolding base_exponents exact_base
  base-depends =
      depends-product (depends-constant (record { positive = omega arith }))
      (depends-sum
      (curve-depends (scaled-a l.months (months-in c) (first_set_lem l.term)) (ratio_of l) (Memᴰ.head refl) (Memᴰ.tail (Memᴰ.head refl)))
      (depends-product
      (curve-depends (scaled-b l.months (months-in c) (first_set_lem l.term)) (ratio_of l)
      (Memᴰ.tail (Memᴰ.tail (Memᴰ.head refl))) (Memᴰ.tail (Memᴰ.tail (Memᴰ.tail (Memᴰ.head refl)))))
      (depends-constant (record { positive = omega arith }))))

  rate-a-proper : Proper (rate_a l)
  unfolding rate_a
  rate-a-proper =
      Fractions.proper-smaller
      (Fractions.proper-sum (scaled-c l.months (months-in c) (first_set_lem l.term)).is.left
      (Fractions.proper-product {x = quotient 1 10} (record { positive = omega arith })
      (Fractions.proper-sum (ratio-is l.value l.over c.divisor_least).left (record { positive = omega arith }))))
      (record { positive = omega arith })

  rate-depends : DependsOn (rate_exponents (first_set_lem l.term) l.months) (exact_rate l)
  unfolding exact_rate
  rate-depends = depends-sum (depends-constant rate-a-proper) (share-depends (first_set_lem l.term) l.months)

  all-base : DependsOn (all_exponents l) (exact_base l)
  all-base = depends-left (rate_exponents (first_set_lem l.term) l.months) base-depends

  all-supplement : DependsOn (all_exponents l) (λ x. exact_rate l x ⊗ exact_base l x)
  all-supplement = depends-product (depends-right (base_exponents l) rate-depends) all-base

  zero : {ys : List Fraction} → DependsOn ys (λ x. whole 0)
  zero = depends-constant (record { positive = omega arith })

  pub total_determined : Determined (total_quantity l)
  unfolding total_exponents exact_total exact_supplement
  total_determined = go l.supplement
    where
      go : (t : Bool) → DependsOn (pick t (all_exponents l) (base_exponents l)) (λ x. exact_base l x ⊕ pick t (exact_rate l x ⊗ exact_base l x) (whole 0))
      go true = depends-sum all-base all-supplement
      go false = depends-sum base-depends zero

  pub supplement_determined : Determined (supplement_quantity l)
  unfolding supplement_exponents exact_supplement
  supplement_determined = go l.supplement
    where
      go : (t : Bool) → DependsOn (pick t (all_exponents l) []) (λ x. pick t (exact_rate l x ⊗ exact_base l x) (whole 0))
      go true = all-supplement
      go false = zero
