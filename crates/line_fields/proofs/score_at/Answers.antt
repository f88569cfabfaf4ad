use mathlib.Core.Path.{sym, ◌∙◌, ap}
use native.Mathlib.Omega.{arith}
use lib.ListN.{length}
use Rattle.exact.specs.Text.{text}
use Rattle.line_forms.proofs.Bytes.{stands-fits, run_fits}
use Rattle.line_forms.proofs.ScoreLaws.{score-scored, score-none, score-missing}
use Rattle.line_fields.proofs.score_at.Goals as goal

-- `score_at` meets its contract.

pub overflow_add-number : goal.overflow_add-number
overflow_add-number c =
    let a = c.args in
    let n = c.short_at-number.result.next in
    let k = stands-fits a.line.now n (text " ") (sym c.stands.ensures ∙ c.if-stands.true) in
    record { fits = omega (arith, k) }

pub returns-then-stands : goal.returns-then-stands
returns-then-stands c =
    let a = c.args in
    let n = c.short_at-number.ensures in
    let m = c.short_at-age.ensures in
    let f = score-scored a.line.now a.at (rw (← n.1) (sym c.stands.ensures ∙ c.if-stands.true)) in
    (rw (n.0, m.0, n.1) f.0, m.1 ∙ rw n.1 f.1)

pub overflow_add-result : goal.overflow_add-result
overflow_add-result c =
    let a = c.args in
    record { fits = omega (arith, ap length c.run-word.ensures, run_fits 97 122 a.line.now a.at) }

pub returns-then-same : goal.returns-then-same
returns-then-same c =
    let a = c.args in
    score-none a.line.now a.at c.run-word.result.now c.run-word.ensures
    (sym c.same.ensures ∙ c.if-same.true)

pub returns : goal.returns
returns c =
    let a = c.args in
    let n = c.short_at-number.ensures in
    let f = score-missing a.line.now a.at
    (rw (← n.1) (sym c.stands.ensures ∙ c.if-stands.false))
    (rw (← c.run-word.ensures) (sym c.same.ensures ∙ c.if-same.false)) in
    (rw n.0 f.0, f.1)
