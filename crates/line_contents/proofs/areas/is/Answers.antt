use mathlib.Core.Path.{sym, ◌∙◌}
use native.Mathlib.Omega.{arith}
use borrow.Author.Tests.{ne_eqb}
use Rattle.line_forms.proofs.Bytes.{same_length, same_end, same_step}
use Rattle.line_contents.proofs.areas.is.Goals as goal

-- `is` meets its contract.

pub returns-then-n-name : goal.returns-then-n-name
returns-then-n-name c =
    let a = c.args in
    sym (same_length a.w.now a.name.now c.if-n-name.true)

pub returns-then-n-eq0 : goal.returns-then-n-eq0
returns-then-n-eq0 c =
    let a = c.args in
    sym (same_end a.w.now a.name.now 0 (omega arith) (omega arith))

pub returns-then-w-name : goal.returns-then-w-name
returns-then-w-name c =
    let a = c.args in
    sym (same_step a.w.now a.name.now 0 (omega arith) (omega arith) ∙ rw (ne_eqb _ _ c.if-w-name.true))
