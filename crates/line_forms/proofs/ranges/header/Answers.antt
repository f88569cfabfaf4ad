use Rattle.line_forms.specs.Contents.{header_in_range}
use Rattle.line_forms.proofs.ranges.header.Goals as goal

-- `ranges::header` meets its contract.

pub returns : goal.returns
unfolding header_in_range
returns c =
    rw (c.between.ensures, c.between-2.ensures)
