use Rattle.loan_charge.proofs.ScaledValue.{value_least}
use Rattle.loan_charge.proofs.charge.Fraction.scaled_value.Goals as goal

-- `charge::scaled_value` meets its contract: below 1, and the two ways of dividing. Assumes nothing.

pub returns-then-p-q : goal.returns-then-p-q
returns-then-p-q c =
    value_least c.args.self.p c.args.self.q c.if-p-q.true
