use Rattle.line_forms.specs.Contents.{index_form}
use Rattle.line_forms.specs.Readings.{index_with, index_held}
use Rattle.line_forms.specs.declared.Content.TheVariants.{Index, NoForm}
use Rattle.line_forms.proofs.Readers.{Reading, skipped, step, last, holds, holds_not}
use Rattle.line_contents.proofs.index.Goals as goal

pub returns-then-skip-line : goal.returns-then-skip-line
unfolding index_held
returns-then-skip-line c =
    let found : Reading c.args.line.now index_form 0 =
    skipped c.skip.ensures c.area_at-area.ensures
    (step c.number_after-month.ensures
    (step c.number_after-value.ensures
    (last c.skip-2.ensures))) in
    holds found (λ v. Index (index_with v)) NoForm c.if-skip-line.true

pub returns : goal.returns
unfolding index_held
returns c =
    let found : Reading c.args.line.now index_form 0 =
    skipped c.skip.ensures c.area_at-area.ensures
    (step c.number_after-month.ensures
    (step c.number_after-value.ensures
    (last c.skip-2.ensures))) in
    holds_not found _ NoForm c.if-skip-line.false
