use native.Mathlib.Omega.{arith}
use Prim.Native.Nat.{ℕ}
use mathlib.Core.Bool.{Bool}
use mathlib.Core.Path.{◌∙◌, ap₂}
use Rattle.coefficients.specs.Integers.{scaled_a, scaled_b}
use Rattle.fixed_point.specs.declared.Signed.{Signed}
use Rattle.loan_charge.specs.Computation.{curves_sum_lem, a_units, b_units}
use Rattle.loan_charge.proofs.Money.{at-most}
use Rattle.loan_charge.proofs.Sizes.{usable-a, usable-b, curve-is, a-most, b_most}
use Rattle.loan_charge.proofs.charge.Charged.curves_at.Goals as goal

-- `charge::curves_at` meets its contract: the coefficients are in their ranges, and A and B are small enough for their sum. Assumes nothing.

pub invariant_of-ca : goal.invariant_of-ca
invariant_of-ca c =
    let t = c.remaining-remaining.result in
    record { usable = usable-a t.first c.curve_a.ensures t.in_range }

pub invariant_of-cb : goal.invariant_of-cb
invariant_of-cb c =
    let t = c.remaining-remaining.result in
    record { usable = usable-b t.first c.curve_b.ensures t.in_range }

pub curves_sum-requires : goal.curves_sum-requires
unfolding a_units b_units
curves_sum-requires c =
    let s = c.args.self in
    let l = s.loan in
    let ok = s.chargeable in
    let t = c.remaining-remaining.ensures in
    let a-is = curve-is s.ratio (c.curve_a.ensures ∙ ap₂ (λ (f : Bool) (n : ℕ). scaled_a f n) t.0 t.1) c.exponents_of-ya.ensures c.units-a.ensures in
    let b-is = curve-is s.ratio (c.curve_b.ensures ∙ ap₂ (λ (f : Bool) (n : ℕ). scaled_b f n) t.0 t.1) c.exponents_of-yb.ensures c.units-b.ensures in
    let a = at-most a-is (a-most l ok) in
    let b = at-most b-is (b_most l ok) in
    (omega (arith, a.plus), omega (arith, a.minus), omega (arith, b.plus), omega (arith, b.minus))

pub returns : goal.returns
unfolding a_units b_units
returns c =
    let s = c.args.self in
    let t = c.remaining-remaining.ensures in
    c.curves_sum.ensures ∙
    ap₂ (λ (x y : Signed). curves_sum_lem s.loan.balance x y)
    (curve-is s.ratio (c.curve_a.ensures ∙ ap₂ (λ (f : Bool) (n : ℕ). scaled_a f n) t.0 t.1) c.exponents_of-ya.ensures c.units-a.ensures)
    (curve-is s.ratio (c.curve_b.ensures ∙ ap₂ (λ (f : Bool) (n : ℕ). scaled_b f n) t.0 t.1) c.exponents_of-yb.ensures c.units-b.ensures)
