use native.Mathlib.Omega.{arith}
use Rattle.loan_charge.proofs.ScaledValue.{begun, step_fits, begun-bound, quotient_is, step₄, step₅}
use Rattle.loan_charge.proofs.charge.Fraction.refine.Goals as goal

-- `charge::refine` meets its contract: each step of the long division fits. Assumes nothing.

pub division_step-d5-requires : goal.division_step-d5-requires
division_step-d5-requires c =
    let b = begun c.args.self.q c.args.d c.requires.1 in
    step_fits 512 (step₄ b c.division_step-d1.ensures c.division_step-d2.ensures
    c.division_step-d3.ensures c.division_step-d4.ensures)
    (begun-bound c.args.self.q c.args.d c.requires.1 c.requires.0) (omega arith) (omega arith) (omega arith)

pub returns : goal.returns
returns c =
    quotient_is (step₅ (begun c.args.self.q c.args.d c.requires.1) c.division_step-d1.ensures
    c.division_step-d2.ensures c.division_step-d3.ensures
    c.division_step-d4.ensures c.division_step-d5.ensures)
