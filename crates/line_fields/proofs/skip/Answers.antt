use mathlib.Core.Path.{sym, ◌∙◌}
use native.Mathlib.Omega.{arith}
use Rattle.line_forms.proofs.Bytes.{stands-fits, after-true, after-false}
use Rattle.line_fields.proofs.skip.Goals as goal

-- `skip` meets its contract.

pub overflow_add-result : goal.overflow_add-result
overflow_add-result c =
    let a = c.args in
    record { fits = omega (arith, stands-fits a.line.now a.at a.text.now (sym c.stands.ensures ∙ c.if-stands.true)) }

pub returns-then-stands : goal.returns-then-stands
returns-then-stands c =
    let a = c.args in
    after-true a.line.now a.at a.text.now (sym c.stands.ensures ∙ c.if-stands.true)

pub returns : goal.returns
returns c =
    let a = c.args in
    after-false a.line.now a.at a.text.now (sym c.stands.ensures ∙ c.if-stands.false)
