use mathlib.Core.Path.{◌∙◌}
use Rattle.line_fields.proofs.signed_after.Goals as goal

-- `signed_after` meets its contract.

pub returns : goal.returns
returns c =
    let e = c.skip.ensures in
    (c.signed_at.ensures.0 ∙ rw e, c.signed_at.ensures.1 ∙ rw e)
