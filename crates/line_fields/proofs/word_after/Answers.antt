use mathlib.Core.Path.{◌∙◌}
use Rattle.line_fields.proofs.word_after.Goals as goal

-- `word_after` meets its contract.

pub returns : goal.returns
returns c =
    let e = c.skip.ensures in
    (c.word_at.ensures.0 ∙ rw e, c.word_at.ensures.1 ∙ rw e)
