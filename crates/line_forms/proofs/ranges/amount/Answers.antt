use Rattle.line_forms.specs.Contents.{amount_in_range}
use Rattle.line_forms.proofs.ranges.amount.Goals as goal

-- `ranges::amount` meets its contract.

pub returns : goal.returns
unfolding amount_in_range
returns c =
    rw c.money.ensures
