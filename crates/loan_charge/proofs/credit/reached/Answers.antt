use native.Mathlib.Omega.{arith}
use Rattle.loan_charge.proofs.CreditLaws.{none-reached, some-reached}
use Rattle.loan_charge.proofs.credit.reached.Goals as goal

-- `credit::reached` meets its contract: none below the first limit, and from there one for each step. Assumes nothing.

pub returns-then-x-low : goal.returns-then-x-low
returns-then-x-low c =
    (omega (arith, none-reached c.args.x c.args.low c.args.step c.args.most c.if-x-low.true), omega arith)

pub returns : goal.returns
returns c =
    let n = c.min.ensures in
    omega (arith, n, some-reached c.args.x c.args.low c.args.step c.args.most c.requires.1 c.if-x-low.false)
