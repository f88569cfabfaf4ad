use native.Mathlib.Omega.{arith}
use Rattle.loan_charge.proofs.Sizes.{supplement-most}
use Rattle.loan_charge.proofs.Money.{at-most}
use Rattle.loan_charge.proofs.charge.with_supplement.Goals as goal

pub rounded_up-requires : goal.rounded_up-requires
rounded_up-requires c =
    let s = at-most c.times_rate-supplement.ensures
    (supplement-most (record { plus = c.requires.0; minus = c.requires.1 }) c.requires.2) in
    (omega arith, omega (arith, s.plus), omega (arith, s.minus))

pub rounded_down-requires : goal.rounded_down-requires
rounded_down-requires c =
    let s = at-most c.times_rate-supplement.ensures
    (supplement-most (record { plus = c.requires.0; minus = c.requires.1 }) c.requires.2) in
    (omega (arith, s.plus), omega (arith, s.minus))
