use Rattle.line_forms.specs.Contents.{header_form}
use Rattle.line_forms.specs.Readings.{header_with, header_held}
use Rattle.line_forms.specs.declared.Content.TheVariants.{Header, NoForm}
use Rattle.line_forms.proofs.Readers.{Reading, step, last, holds, holds_not}
use Rattle.line_contents.proofs.header.Goals as goal

pub returns-then-skip-line : goal.returns-then-skip-line
unfolding header_held
returns-then-skip-line c =
    let found : Reading c.args.line.now header_form 0 =
    step c.number_after-loans.ensures
    (step c.number_after-unscored.ensures
    (step c.number_after-fresh.ensures
    (step c.number_after-held.ensures
    (last c.skip.ensures)))) in
    holds found (λ v. Header (header_with v)) NoForm c.if-skip-line.true

pub returns : goal.returns
unfolding header_held
returns c =
    let found : Reading c.args.line.now header_form 0 =
    step c.number_after-loans.ensures
    (step c.number_after-unscored.ensures
    (step c.number_after-fresh.ensures
    (step c.number_after-held.ensures
    (last c.skip.ensures)))) in
    holds_not found _ NoForm c.if-skip-line.false
