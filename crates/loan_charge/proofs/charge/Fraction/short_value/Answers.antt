use native.Mathlib.Omega.{arith}
use Rattle.loan_charge.proofs.ScaledValue.{value_most, value-between, multiplied-step}
use Rattle.loan_charge.proofs.charge.Fraction.short_value.Goals as goal

-- `charge::short_value` meets its contract: one step of a division begun by 960000 p. Assumes nothing.

pub returns-then-q-p : goal.returns-then-q-p
returns-then-q-p c =
    value_most c.args.self.p c.args.self.q c.args.self.least c.if-q-p.true

pub returns : goal.returns
returns c =
    value-between c.args.self.p c.args.self.q c.division_step-last.result.quotient c.args.self.least c.requires.0 (omega (arith, c.if-q-p.false))
    (multiplied-step c.args.self.p c.args.self.q c.args.self.least c.division_step-last.ensures)
