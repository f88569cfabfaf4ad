use Rattle.loan_charge.proofs.ScaledValue.{whole-most, whole-between}
use Rattle.loan_charge.proofs.charge.Fraction.long_value.Goals as goal

-- `charge::long_value` meets its contract: the division begun by the whole part of p / q. Assumes nothing.

pub returns-then-z-ge16 : goal.returns-then-z-ge16
returns-then-z-ge16 c =
    whole-most c.args.self.p c.args.self.q c.args.self.least c.if-z-ge16.true

pub returns : goal.returns
returns c =
    whole-between c.args.self.p c.args.self.q c.refine.result c.args.self.least c.requires c.if-z-ge16.false c.refine.ensures
