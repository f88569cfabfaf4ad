-- What a loan's two numbers promise: they lie near the exact ones, on their sides; they are small; and they depend on p / q alone.
-- Assumes nothing.
use mathlib.Core.Path.{◌≡◌, refl, ap}
use mathlib.Core.Bool.{Bool, true, false}
use mathlib.Core.List.{List, [], ◌∷◌}
use lib.Dec.{leb}
use Prim.Native.Nat.{ℕ, ◌+◌, ◌*◌, ◌/◌, ◌^◌, ◌≤◌, ◌<◌, max}
use native.Mathlib.Omega.{arith}
use native.Mathlib.Nat.{mul-pos, mul-le-mul}
use Rattle.exact.specs.Fraction.{Fraction, Proper, quotient, whole, negated, ◌⊕◌, ◌⊖◌, ◌⊗◌, ◌≼◌, ◌≺◌, Equals}
use Rattle.exact.specs.Exponential.{bracket_high}
use Rattle.exact.specs.Quantity.{Assignment, Eventually}
use Rattle.exact.proofs.Fractions
use Rattle.exact.proofs.Dependence.{equals-of, equals-as, equals-sum, equals-product}
use Rattle.exact.proofs.Bridge.{At, high_is, high-proper}
use Rattle.exact.proofs.Quantities.{Exponent, Exponents, at-every-order, mapped, some-allowed, no-exponents, more-exponents, appended-exponents}
use Rattle.exact.proofs.Sums.{num, den, num_pos}
use Rattle.exponential.specs.Exponential.{exp_upper_lem}
use Rattle.exponential.proofs.Laws as Exponential
use Rattle.exact.specs.Choice.{pick}
use Rattle.coefficients.specs.Coefficients.{Curve, first_set_lem}
use Rattle.coefficients.specs.Integers.{scaled_a, scaled_b, scaled_c, tenths_b}
use Rattle.loan_charge.specs.Charge.{value_ratio, ratio_of, curve_a_of, curve_b_of, gauss_exponent, exponent1, exponent2, exact_base, rate_a, exact_rate}
use Rattle.loan_charge.specs.Charge.{exact_supplement, exact_total, base_exponents, rate_exponents, all_exponents, total_exponents}
use Rattle.loan_charge.specs.Charge.{supplement_exponents, total_quantity, supplement_quantity, Chargeable}
use Rattle.loan_charge.specs.Promise.{signed_cents, tolerance, NearExact, Promised, InRange}
use Rattle.loan_charge.specs.Computation.{scaled_value_lem, ratio_units, signed, exponent, exponents, heights_at_lem, heights, curve_units_lem, curves_sum_lem, a_units}
use Rattle.loan_charge.specs.Computation.{b_units, factor, rate}
use Rattle.loan_charge.specs.Computation.{times, rounded_up_lem, rounded_down_lem, zero_amount, base_units_lem, rate_units_lem, charge_from, charge_of}
use Rattle.coefficients.specs.declared.ScaledCurve.{ScaledCurve}
use Rattle.loan_charge.specs.declared.LoanInputs.{LoanInputs}
use Rattle.loan_charge.specs.declared.charge.LoanCharge.{LoanCharge}
use Rattle.fixed_point.specs.declared.Signed.{Signed}
use Rattle.coefficients.specs.Promise.{Mean, Deviation, ScaledCurveOf}
use Rattle.coefficients.proofs.CoefficientLaws.{scaled-a, scaled-b, scaled-c, tenths-b}
use Rattle.loan_charge.proofs.Dependence.{total_determined, supplement_determined}
use Rattle.loan_charge.proofs.ExactValues.{cents, ratio-is, exponent-is, curve_plus, curve_minus, curve-is, base-is, rate-is, product_is, sum_is}
use Rattle.loan_charge.proofs.Gauss.{gauss-near, months-near, value-at, exponent_num, exponent_den}
use Rattle.loan_charge.proofs.Money.{Value, Both, CentsAbove, CentsBelow, SignedAtMost, both-add, both-times, weighted-near, curves-near}
use Rattle.loan_charge.proofs.Money.{factor-near, rate_num, rate_den, rate-near, rate-most, rounded-above, rounded-below}
use Rattle.loan_charge.proofs.Near.{Near}
use Rattle.loan_charge.proofs.ScaledValue.{held, value-alike}
use Rattle.loan_charge.proofs.Sizes.{months-in, base-most, sum-most, rate-units-most, supplement-most}

-- From enclosures over natural numbers to the fractions themselves.
module _ {total part : Fraction} {np nm d np' nm' d' : ℕ} (e : Equals total (cents np nm d)) (f : Equals part (cents np' nm' d')) where
  near-exact : (r : LoanCharge) → CentsAbove r.total np nm d → CentsBelow r.supplement np' nm' d' → NearExact r total part
  near-exact r a b =
      let t : Proper tolerance = record { positive = omega arith } in
      record {
        total_proper = e.left;
        total_at_least = Fractions.at-most-trans e.right (Fractions.at-most-of-same e.same) (record { crossed = omega (arith, a.low) });
        total_near =
            Fractions.below-at-most (Fractions.proper-sum e.right t) (Fractions.proper-sum e.left t) (record { crossed = omega (arith, a.high) })
            (Fractions.at-most-sum (Fractions.at-most-of-same (Fractions.same-sym e.same)) (Fractions.at-most-refl tolerance));
        supplement_proper = f.left;
        supplement_at_most =
            Fractions.at-most-trans f.right (record { crossed = omega (arith, b.high) }) (Fractions.at-most-of-same (Fractions.same-sym f.same));
        supplement_near =
            Fractions.at-most-below (Fractions.proper-sum f.left (Fractions.proper-negated t)) (Fractions.proper-sum f.right (Fractions.proper-negated t))
            (Fractions.at-most-sum (Fractions.at-most-of-same f.same) (Fractions.at-most-refl (negated tolerance)))
            (record { crossed = omega (arith, b.low) });
      }

-- The base in money units near its exact value v in cents; and r near its exact value.
record BaseNear (x : Signed) (v : Fraction) : Type 0 where
  plus : ℕ
  minus : ℕ
  over : ℕ
  positive : 0 < over
  is : Equals v (cents plus minus over)
  both : Both x plus minus over 4554 41 3 5
  most : SignedAtMost 119205000000000 27150000000 x

record RateNear (r : ℕ) (v : Fraction) : Type 0 where
  above : ℕ
  over : ℕ
  is : Equals v (quotient above over)
  near : Near r (2 ^ 40 * above) over 13 3
  most : above ≤ 2 * over
  bound : r ≤ 2 * 2 ^ 40

zero-both : Both zero_amount 0 0 1 0 0 0 0
zero-both = record {
  plus_near = record { low = omega arith; high = omega arith };
  minus_near = record { low = omega arith; high = omega arith };
}

zero_is : Equals (whole 0) (cents 0 0 1)
zero_is = equals-of (omega arith) (omega arith) (omega arith)

module _ {x : Signed} {v : Fraction} (b : BaseNear x v) where
  -- v and another amount
  with-amount : {w : Fraction} {p m o : ℕ} → 0 < o → Equals w (cents p m o) →
      Equals (v ⊕ w) (cents (b.plus * o + p * b.over) (b.minus * o + m * b.over) (b.over * o))
  with-amount {p = p} {m} {o} pos e =
      equals-as (equals-sum b.is e) (record { positive = omega (arith, mul-pos b.positive pos) }) (sum_is b.plus b.minus b.over p m o)

  -- without a supplement
  alone : (r : ℕ) → NearExact (charge_from false x r) (v ⊕ whole 0) (whole 0)
  unfolding charge_from
  alone r =
      near-exact {d' = 1} (with-amount (omega arith) zero_is) zero_is (charge_from false x r)
      (rounded-above x zero_amount (both-add b.both zero-both) (omega (arith, b.most.minus)) (omega arith) (omega arith) (omega (arith, b.positive)))
      (record { high = omega arith; low = omega arith })

  module _ {r : ℕ} {s : Fraction} (a : RateNear r s) where
    -- the supplement's denominator
    abbrev so : ℕ
    so = b.over * a.over

    so-pos : 0 < so
    so-pos = mul-pos b.positive a.is.right.positive

    supplement-is : Equals (s ⊗ v) (cents (b.plus * a.above) (b.minus * a.above) so)
    supplement-is =
        equals-as (equals-product a.is b.is) (record { positive = omega (arith, so-pos) })
        (product_is a.above a.over b.plus b.minus b.over)

    supplement-both : Both (times x r) (b.plus * a.above) (b.minus * a.above) so (2 * 4554 + 1410) (1 + 2 * 41 + 326) (2 * 3 + 1) (1 + 2 * 5 + 1)
    supplement-both =
        both-times 119205000000000 27150000000 2 1410 326 1 1 b.both a.near b.most.plus b.most.minus a.most
        (record { plus_low = omega arith; plus_high = omega arith; minus_low = omega arith; minus_high = omega arith })

    -- with one
    together : NearExact (charge_from true x r) (v ⊕ s ⊗ v) (s ⊗ v)
    unfolding charge_from
    together =
        let most = supplement-most b.most a.bound in
        near-exact (with-amount so-pos supplement-is) supplement-is (charge_from true x r)
        (rounded-above x (times x r) (both-add b.both supplement-both) (omega (arith, b.most.minus, most.minus)) (omega arith) (omega arith)
        (mul-pos b.positive so-pos))
        (rounded-below (times x r) supplement-both (omega (arith, most.minus)) (omega arith) (omega arith) so-pos)

-- u encloses exp(-y) from some order on; y is a / d.
record Enclosed (u : ℕ) (y : Fraction) : Type 0 where
  a : ℕ
  d : ℕ
  at : At y a d
  near : Exponential.NearExponential u a d

-- At one order: u, and the exact value v = N / D.
record Valued (u : ℕ) (v : Fraction) : Type 0 where
  N : ℕ
  D : ℕ
  value : Value u N D
  exact : Equals v (quotient N D)

valued : {u : ℕ} {y : Fraction} (e : Enclosed u y) (k : ℕ) → e.near.from ≤ k → Valued u (bracket_high k y)
valued e k l = record {
  N = den e.d k;
  D = num e.a e.d k;
  value = value-at e.near e.at.positive k l;
  exact = record { left = high-proper e.at k; right = record { positive = num_pos e.a e.d e.at.positive k }; same = high_is e.at k };
}

gauss-enclosed : (p q : ℕ) → 0 < q → {mean deviation : Fraction} {i s : ℕ} → Mean mean i → Deviation deviation s →
    Enclosed (exp_upper_lem (exponent (scaled_value_lem p q) i s)) (gauss_exponent (value_ratio p q) mean deviation)
gauss-enclosed p q pos {i = i} {s = s} μ σ = record {
  a = exponent_num (max p q) q i;
  d = exponent_den q s;
  at =
      let e = exponent-is (ratio-is p q pos) μ.is σ.is (omega (arith, σ.least)) in
      record { proper = e.left; positive = e.right.positive; same = e.same };
  near = gauss-near (held p q pos) i s μ.most σ.least σ.most;
}

months-enclosed : (n : ℕ) → Enclosed (exp_upper_lem (n * 2 ^ 38 / 120)) (quotient n 120)
months-enclosed n = record {
  a = n;
  d = 120;
  at = record { proper = record { positive = omega arith }; positive = omega arith; same = Fractions.same_refl (quotient n 120) };
  near = months-near n;
}

-- One loan that can be charged.
module _ (l : LoanInputs) (c : Chargeable l) where
  abbrev first : Bool
  first = first_set_lem l.term

  abbrev w : ℕ
  w = ratio_units l

  abbrev z : Fraction
  z = ratio_of l

  abbrev a : ScaledCurve
  a = scaled_a first l.months

  abbrev b : ScaledCurve
  b = scaled_b first l.months

  a-is : ScaledCurveOf 29856 45960 905 (curve_a_of l) a
  a-is = scaled-a l.months (months-in c) first

  b-is : ScaledCurveOf 144240 50640 0 (curve_b_of l) b
  b-is = scaled-b l.months (months-in c) first

  module _ {w₁ p₂ m₂ : ℕ} {curve : Curve} {s : ScaledCurve} (e : ScaledCurveOf w₁ p₂ m₂ curve s) where
    first-enclosed : Enclosed (heights w s).first (exponent1 curve z)
    unfolding heights heights_at_lem exponents
    first-enclosed = gauss-enclosed l.value l.over c.divisor_least e.mean1 e.deviation1

    second-enclosed : Enclosed (heights w s).second (exponent2 curve z)
    unfolding heights heights_at_lem exponents
    second-enclosed = gauss-enclosed l.value l.over c.divisor_least e.mean2 e.deviation2

  A₁ : Enclosed (heights w a).first (exponent1 (curve_a_of l) z)
  A₁ = first-enclosed a-is

  A₂ : Enclosed (heights w a).second (exponent2 (curve_a_of l) z)
  A₂ = second-enclosed a-is

  B₁ : Enclosed (heights w b).first (exponent1 (curve_b_of l) z)
  B₁ = first-enclosed b-is

  B₂ : Enclosed (heights w b).second (exponent2 (curve_b_of l) z)
  B₂ = second-enclosed b-is

  months-at : Enclosed (exp_upper_lem (l.months * 2 ^ 38 / 120)) (quotient l.months 120)
  months-at = months-enclosed l.months

  module _ (exp : Assignment) where
    -- the base at one order
    module _ (v₁ : Valued (heights w a).first (exp (exponent1 (curve_a_of l) z))) (v₂ : Valued (heights w a).second (exp (exponent2 (curve_a_of l) z)))
        (v₃ : Valued (heights w b).first (exp (exponent1 (curve_b_of l) z))) (v₄ : Valued (heights w b).second (exp (exponent2 (curve_b_of l) z))) where
      -- the numerator of A + B × balance / 10^7, of the terms with a plus or with a minus
      abbrev numerator : (ScaledCurve → ℕ → ℕ → ℕ → ℕ → ℕ) → ℕ
      numerator part =
          10 ^ 7 * part a v₁.N v₁.D v₂.N v₂.D * (v₃.D * v₄.D) + l.balance * part b v₃.N v₃.D v₄.N v₄.D * (v₁.D * v₂.D)

      curves-both : Both (curves_sum_lem l.balance (a_units l) (b_units l)) (numerator curve_plus) (numerator curve_minus)
          (v₁.D * v₂.D * (v₃.D * v₄.D)) 1518 1 1 1
      unfolding a_units b_units curve_units_lem
      curves-both =
          curves-near
          (curve_plus a v₁.N v₁.D v₂.N v₂.D) (curve_minus a v₁.N v₁.D v₂.N v₂.D)
          (curve_plus b v₃.N v₃.D v₄.N v₄.D) (curve_minus b v₃.N v₃.D v₄.N v₄.D)
          l.balance 1518 1
          (omega (
            arith,
            a-is.weight1.most,
            a-is.weight2.plus_most,
            mul-le-mul c.balance_most b-is.weight1.most,
            mul-le-mul c.balance_most b-is.weight2.plus_most,
          ))
          (omega (arith, a-is.weight2.minus_most, mul-le-mul c.balance_most b-is.weight2.minus_most))
          (weighted-near a (heights w a) v₁.value v₂.value)
          (weighted-near b (heights w b) v₃.value v₄.value)

      base-near : BaseNear (base_units_lem l) (exact_base l exp)
      unfolding base_units_lem exact_base
      base-near =
          let pos : 0 < v₁.D * v₂.D * (v₃.D * v₄.D) =
          mul-pos (mul-pos v₁.exact.right.positive v₂.exact.right.positive) (mul-pos v₃.exact.right.positive v₄.exact.right.positive) in
          record {
            plus = numerator curve_plus * l.factor;
            minus = numerator curve_minus * l.factor;
            over = v₁.D * v₂.D * (v₃.D * v₄.D) * 10 ^ 17;
            positive = omega (arith, pos);
            is =
                base-is (v₁.D * v₂.D) (v₃.D * v₄.D) (curve-is a-is z exp v₁.exact v₂.exact) (curve-is b-is z exp v₃.exact v₄.exact) pos
                l.balance l.factor;
            both =
                both-times 39735000000000 9050000000 3 0 37 0 1 curves-both (factor-near l.factor)
                (sum-most l c).plus (sum-most l c).minus c.factor_most
                (record { plus_low = omega arith; plus_high = omega arith; minus_low = omega arith; minus_high = omega arith });
            most = base-most l c;
          }

    -- r at one order
    module _ (v : Valued (exp_upper_lem (l.months * 2 ^ 38 / 120)) (exp (quotient l.months 120))) where
      supplement-rate-near : RateNear (rate_units_lem l) (exact_rate l exp)
      unfolding rate_units_lem exact_rate rate_a
      supplement-rate-near =
          let C = scaled-c l.months (months-in c) first in
          let B = tenths-b l.months (months-in c) first in
          let h = held l.value l.over c.divisor_least in
          record {
            above = rate_num (max l.value l.over) l.over (scaled_c first l.months) (tenths_b first l.months) v.N v.D;
            over = rate_den l.over v.D;
            is = rate-is (ratio-is l.value l.over c.divisor_least) h.value C.is B.is v.exact;
            near = rate-near (scaled_c first l.months) (tenths_b first l.months) h B.most v.value;
            most = rate-most (max l.value l.over) l.over (scaled_c first l.months) (tenths_b first l.months) B.most v.value;
            bound = rate-units-most l c;
          }

  -- With exp(-y) taken as 1 / E(k), for every k from some k on, both numbers are near the exact ones.

  start : ℕ
  start = A₁.near.from + A₂.near.from + B₁.near.from + B₂.near.from + months-at.near.from

  base-at : (k : ℕ) → start ≤ k → BaseNear (base_units_lem l) (exact_base l (bracket_high k))
  unfolding start
  base-at k h = base-near (bracket_high k) (valued A₁ k (omega arith)) (valued A₂ k (omega arith)) (valued B₁ k (omega arith)) (valued B₂ k (omega arith))

  rate-at : (k : ℕ) → start ≤ k → RateNear (rate_units_lem l) (exact_rate l (bracket_high k))
  unfolding start
  rate-at k h = supplement-rate-near (bracket_high k) (valued months-at k (omega arith))

  pub charge-near : Eventually (λ exp. NearExact (charge_of l) (exact_total l exp) (exact_supplement l exp))
  unfolding charge_of exact_total exact_supplement
  charge-near = record { from = start; holds = λ k h. go l.supplement (base-at k h) (rate-at k h) }
    where
      go : {v s : Fraction} (t : Bool) → BaseNear (base_units_lem l) v → RateNear (rate_units_lem l) s →
          NearExact (charge_from t (base_units_lem l) (rate_units_lem l)) (v ⊕ pick t (s ⊗ v) (whole 0)) (pick t (s ⊗ v) (whole 0))
      go true x y = together x y
      go false x y = alone x (rate_units_lem l)

-- Every exponent in the charge is a fraction at or above 0.

exponent-of : {u : ℕ} {y : Fraction} → Enclosed u y → Exponent y
exponent-of e = record {
  proper = e.at.proper;
  nonnegative =
      (Fractions.nonnegative-same (Fractions.proper-quotient e.a e.at.positive) e.at.proper (Fractions.same-sym e.at.same)
      (record { above = omega arith })).above;
}

rate-exponents : (first : Bool) (months : ℕ) → Exponents (rate_exponents first months)
unfolding rate_exponents
rate-exponents true months = go (leb months 120)
  where
    go : (t : Bool) → Exponents (pick t (quotient months 120 ∷ []) [])
    go true = more-exponents (exponent-of (months-enclosed months)) no-exponents
    go false = no-exponents
rate-exponents false months = more-exponents (exponent-of (months-enclosed months)) no-exponents

either-exponents : {xs ys : List Fraction} (t : Bool) → Exponents xs → Exponents ys → Exponents (pick t xs ys)
either-exponents true e f = e
either-exponents false e f = f

module _ (l : LoanInputs) (c : Chargeable l) where
  base-exponents : Exponents (base_exponents l)
  unfolding base_exponents
  base-exponents =
      more-exponents (exponent-of (A₁ l c))
      (more-exponents (exponent-of (A₂ l c))
      (more-exponents (exponent-of (B₁ l c))
      (more-exponents (exponent-of (B₂ l c)) no-exponents)))

  all-exponents : Exponents (all_exponents l)
  all-exponents = appended-exponents (base_exponents l) base-exponents (rate-exponents (first_set_lem l.term) l.months)

  pub total-exponents : Exponents (total_exponents l)
  unfolding total_exponents
  total-exponents = either-exponents l.supplement all-exponents base-exponents

  supplement-exponents : Exponents (supplement_exponents l)
  unfolding supplement_exponents
  supplement-exponents = either-exponents l.supplement all-exponents no-exponents

  -- document 01's statements, with the distance of 02, L7
  pub promised : Promised (charge_of l) (total_quantity l) (supplement_quantity l)
  promised =
      let law = charge-near l c in
      let r : LoanCharge = charge_of l in
      record {
        total_determined = total_determined l c;
        total_at_least = at-every-order (total_quantity l) (λ v. v ≼ signed_cents r.total) total-exponents
            (mapped (λ k n. (n.total_proper, n.total_at_least)) law);
        total_near = at-every-order (total_quantity l) (λ v. signed_cents r.total ≺ v ⊕ tolerance) total-exponents
            (mapped (λ k n. (n.total_proper, n.total_near)) law);
        total_orders = some-allowed (total_exponents l) total-exponents;
        supplement_determined = supplement_determined l c;
        supplement_at_most = at-every-order (supplement_quantity l) (λ v. signed_cents r.supplement ≼ v) supplement-exponents
            (mapped (λ k n. (n.supplement_proper, n.supplement_at_most)) law);
        supplement_near = at-every-order (supplement_quantity l) (λ v. v ⊖ tolerance ≺ signed_cents r.supplement) supplement-exponents
            (mapped (λ k n. (n.supplement_proper, n.supplement_near)) law);
        supplement_orders = some-allowed (supplement_exponents l) supplement-exponents;
      }

-- Both numbers are small.

up-range : (x y : Signed) → x.plus ≤ 119205000000000 → y.plus ≤ 238410000000000 → InRange (rounded_up_lem x y)
unfolding rounded_up_lem signed
up-range x y h k = record { most = omega arith; least = omega arith; one_sided = omega arith }

down-range : (x : Signed) → x.plus ≤ 238410000000000 → InRange (rounded_down_lem x)
unfolding rounded_down_lem signed
down-range x h = record { most = omega arith; least = omega arith; one_sided = omega arith }

charge-small : {x : Signed} {r : ℕ} (t : Bool) → SignedAtMost 119205000000000 27150000000 x → r ≤ 2 * 2 ^ 40 →
    InRange (charge_from t x r).total × InRange (charge_from t x r).supplement
unfolding charge_from
charge-small {x} {r} true h k =
    let s = supplement-most h k in
    (up-range x (times x r) h.plus s.plus, down-range (times x r) s.plus)
charge-small {x} false h k = (up-range x zero_amount h.plus (omega arith), record { most = omega arith; least = omega arith; one_sided = omega arith })

pub charge-range : (l : LoanInputs) → Chargeable l → InRange (charge_of l).total × InRange (charge_of l).supplement
unfolding charge_of
charge-range l c =
    charge-small l.supplement (base-most l c) (rate-units-most l c)

-- Where no supplement applies its number is 0.
pub no_supplement : (l : LoanInputs) → l.supplement ≡ false → (charge_of l).supplement ≡ zero_amount
unfolding charge_of charge_from
no_supplement l e = rw e refl

-- Equal fractions value / over have equal charges.
pub charge-alike : (l : LoanInputs) (value over : ℕ) → 0 < l.over → 0 < over → l.value * over ≡ value * l.over →
    charge_of l ≡ charge_of (record {
      value = value;
      over = over;
      balance = l.balance;
      months = l.months;
      term = l.term;
      supplement = l.supplement;
      factor = l.factor;
    })
unfolding charge_of base_units_lem rate_units_lem a_units b_units
charge-alike l value over pos pos' e =
    ap (λ (w : ℕ). charge_from l.supplement
    (times (curves_sum_lem l.balance (curve_units_lem w (scaled_a (first_set_lem l.term) l.months)) (curve_units_lem w (scaled_b (first_set_lem l.term) l.months)))
    (factor l.factor))
    (rate w (scaled_c (first_set_lem l.term) l.months) (tenths_b (first_set_lem l.term) l.months) (exp_upper_lem (l.months * 2 ^ 38 / 120))))
    (value-alike l.value l.over value over pos pos' e)
