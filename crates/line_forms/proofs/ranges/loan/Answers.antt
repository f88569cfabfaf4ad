use Rattle.line_forms.specs.Contents.{loan_in_range}
use Rattle.line_forms.proofs.ranges.loan.Goals as goal

-- `ranges::loan` meets its contract.

pub returns : goal.returns
unfolding loan_in_range
returns c =
    rw (
      c.between.ensures,
      c.between-2.ensures,
      c.between-3.ensures,
      c.between-4.ensures,
      c.score.ensures,
      c.between-5.ensures,
      c.month.ensures,
    )
