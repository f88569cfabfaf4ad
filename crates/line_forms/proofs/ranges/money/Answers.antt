use Rattle.line_forms.specs.Contents.{money_in_range}
use Rattle.line_forms.proofs.ranges.money.Goals as goal

-- `ranges::money` meets its contract.

pub returns : goal.returns
unfolding money_in_range
returns c =
    rw (c.between.ensures, c.between-2.ensures)
