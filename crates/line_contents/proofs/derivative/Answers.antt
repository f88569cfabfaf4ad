use Rattle.line_forms.specs.Contents.{derivative_form}
use Rattle.line_forms.specs.Readings.{derivative_with, derivative_held}
use Rattle.line_forms.specs.declared.Content.TheVariants.{Derivative, NoForm}
use Rattle.line_forms.proofs.Readers.{Reading, step, last, holds, holds_not}
use Rattle.line_contents.proofs.derivative.Goals as goal

pub returns-then-skip-line : goal.returns-then-skip-line
unfolding derivative_held
returns-then-skip-line c =
    let found : Reading c.args.line.now derivative_form 0 =
    step c.word_after-kind.ensures
    (step c.signed_after-cost.ensures
    (step c.number_after-notional.ensures
    (step c.number_after-months.ensures
    (step c.number_after-payments.ensures
    (step c.number_after-factor.ensures
    (last c.skip.ensures)))))) in
    rw c.kind_at.ensures (holds found (λ v. Derivative (derivative_with v)) NoForm c.if-skip-line.true)

pub returns : goal.returns
unfolding derivative_held
returns c =
    let found : Reading c.args.line.now derivative_form 0 =
    step c.word_after-kind.ensures
    (step c.signed_after-cost.ensures
    (step c.number_after-notional.ensures
    (step c.number_after-months.ensures
    (step c.number_after-payments.ensures
    (step c.number_after-factor.ensures
    (last c.skip.ensures)))))) in
    holds_not found _ NoForm c.if-skip-line.false
