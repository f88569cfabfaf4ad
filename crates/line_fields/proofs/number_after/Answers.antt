use mathlib.Core.Path.{◌∙◌}
use Rattle.line_fields.proofs.number_after.Goals as goal

-- `number_after` meets its contract.

pub returns : goal.returns
returns c =
    let e = c.skip.ensures in
    (c.number_at.ensures.0 ∙ rw e, c.number_at.ensures.1 ∙ rw e)
