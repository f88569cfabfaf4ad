use Rattle.line_forms.specs.Contents.{mark_form}
use Rattle.line_forms.specs.Readings.{mark_with, mark_held}
use Rattle.line_forms.specs.declared.Content.TheVariants.{Mark, NoForm}
use Rattle.line_forms.proofs.Readers.{Reading, skipped, last, holds, holds_not}
use Rattle.line_contents.proofs.mark.Goals as goal

pub returns-then-skip-line : goal.returns-then-skip-line
unfolding mark_held
returns-then-skip-line c =
    let found : Reading c.args.line.now (mark_form c.args.back) 0 =
    skipped c.mark_begun.ensures c.name_at-name.ensures (last c.skip.ensures) in
    holds found (λ v. Mark (mark_with c.args.back v)) NoForm c.if-skip-line.true

pub returns : goal.returns
unfolding mark_held
returns c =
    let found : Reading c.args.line.now (mark_form c.args.back) 0 =
    skipped c.mark_begun.ensures c.name_at-name.ensures (last c.skip.ensures) in
    holds_not found _ NoForm c.if-skip-line.false
