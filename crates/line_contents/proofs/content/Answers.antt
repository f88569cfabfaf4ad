use mathlib.Core.Path.{sym, ◌∙◌}
use Rattle.line_forms.proofs.ContentLaws.{loan-begins}
use Rattle.line_contents.proofs.content.Goals as goal

-- `content` meets its contract.

pub loan-requires : goal.loan-requires
loan-requires c =
    sym c.stands.ensures ∙ c.if-stands.true

pub returns-then-stands : goal.returns-then-stands
returns-then-stands c =
    c.loan.ensures ∙ sym (loan-begins c.args.line.now (sym c.stands.ensures ∙ c.if-stands.true))

pub other-requires : goal.other-requires
other-requires c =
    sym c.stands.ensures ∙ c.if-stands.false
