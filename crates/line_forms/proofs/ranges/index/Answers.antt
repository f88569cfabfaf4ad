use Rattle.line_forms.specs.Contents.{index_in_range}
use Rattle.line_forms.proofs.ranges.index.Goals as goal

-- `ranges::index` meets its contract.

pub returns : goal.returns
unfolding index_in_range
returns c =
    rw (c.month.ensures, c.between.ensures)
