use Rattle.line_forms.specs.Contents.{derivative_in_range}
use Rattle.line_forms.proofs.ranges.derivative.Goals as goal

-- `ranges::derivative` meets its contract.

pub returns : goal.returns
unfolding derivative_in_range
returns c =
    rw (c.money.ensures, c.between.ensures, c.between-2.ensures, c.between-3.ensures, c.between-4.ensures)
