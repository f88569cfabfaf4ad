use Rattle.line_forms.specs.Contents.{asset_in_range}
use Rattle.line_forms.proofs.ranges.asset.Goals as goal

-- `ranges::asset` meets its contract.

pub returns : goal.returns
unfolding asset_in_range
returns c =
    rw (c.between.ensures, c.between-2.ensures)
