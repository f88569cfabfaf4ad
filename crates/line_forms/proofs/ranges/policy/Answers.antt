use Rattle.line_forms.specs.Contents.{policy_in_range}
use Rattle.line_forms.proofs.ranges.policy.Goals as goal

-- `ranges::policy` meets its contract.

pub returns : goal.returns
unfolding policy_in_range
returns c =
    rw (c.between.ensures, c.between-2.ensures, c.between-3.ensures)
