use Rattle.line_forms.specs.Contents.{month_in_range}
use Rattle.line_forms.proofs.ranges.month.Goals as goal

-- `ranges::month` meets its contract.

pub returns : goal.returns
unfolding month_in_range
returns c =
    rw (c.between.ensures, c.between-2.ensures)
