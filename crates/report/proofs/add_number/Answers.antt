use Rattle.report.proofs.Decimal.{signed-whole}
use Rattle.report.proofs.add_number.Goals as goal

-- `add_number` meets its contract: a number with no part below 0 is written by its digits.
-- Assumes nothing.

pub returns : goal.returns
returns c =
    let answer = rw (signed-whole c.args.n) at c.add_value.ensures in
    record { number = answer.value; short = answer.short }
