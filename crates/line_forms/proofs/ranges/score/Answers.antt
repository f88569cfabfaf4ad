use Rattle.line_forms.specs.Contents.{score_in_range}
use Rattle.line_forms.proofs.ranges.score.Goals as goal

-- `ranges::score` meets its contract.

pub returns-in-Scored : goal.returns-in-Scored
unfolding score_in_range
returns-in-Scored c =
    rw (c.in-Scored.is, c.between.ensures, c.between-in-Scored.ensures)

pub returns-in-Unscored : goal.returns-in-Unscored
unfolding score_in_range
returns-in-Unscored c =
    rw c.in-Unscored.is
