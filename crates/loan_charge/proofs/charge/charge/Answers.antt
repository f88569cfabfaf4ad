use native.Mathlib.Omega.{arith}
use Rattle.loan_charge.proofs.Money.{at-most}
use Rattle.loan_charge.proofs.ScaledValue.{held}
use Rattle.loan_charge.proofs.Sizes.{base-most, rate-units-most}
use Rattle.loan_charge.proofs.charge.charge.Goals as goal

-- `charge::charge` meets its contract: base and r are in the ranges of what follows. Assumes nothing.

pub with_supplement-requires : goal.with_supplement-requires
with_supplement-requires c =
    let l = c.args.l in
    let ok = c.requires.0 in
    let b = at-most c.base_units-base.ensures (base-most l ok) in
    (b.plus, b.minus, omega (arith, c.rate_units.ensures, rate-units-most l ok))

pub without_supplement-requires : goal.without_supplement-requires
without_supplement-requires c =
    let b = at-most c.base_units-base.ensures
    (base-most c.args.l c.requires.0) in
    (b.plus, b.minus)

pub invariant_of-z : goal.invariant_of-z
invariant_of-z c =
    let h = held c.args.l.value c.args.l.over c.requires.0.divisor_least in
    record { least = omega (arith, c.scaled_value.ensures, h.least); most = omega (arith, c.scaled_value.ensures, h.most) }
