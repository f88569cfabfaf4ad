use Rattle.line_forms.specs.Contents.{policy_form}
use Rattle.line_forms.specs.Readings.{policy_with, policy_held}
use Rattle.line_forms.specs.declared.Content.TheVariants.{Policy, NoForm}
use Rattle.line_forms.proofs.Readers.{Reading, step, last, holds, holds_not}
use Rattle.line_contents.proofs.policy.Goals as goal

pub returns-then-skip-line : goal.returns-then-skip-line
unfolding policy_held
returns-then-skip-line c =
    let found : Reading c.args.line.now policy_form 0 =
    step c.word_after-class.ensures
    (step c.number_after-premium.ensures
    (step c.number_after-term.ensures
    (step c.number_after-completed.ensures
    (last c.skip.ensures)))) in
    rw c.class_at.ensures (holds found (λ v. Policy (policy_with v)) NoForm c.if-skip-line.true)

pub returns : goal.returns
unfolding policy_held
returns c =
    let found : Reading c.args.line.now policy_form 0 =
    step c.word_after-class.ensures
    (step c.number_after-premium.ensures
    (step c.number_after-term.ensures
    (step c.number_after-completed.ensures
    (last c.skip.ensures)))) in
    holds_not found _ NoForm c.if-skip-line.false
