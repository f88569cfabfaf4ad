use mathlib.Core.Path.{sym, ◌∙◌, ap}
use native.Mathlib.Omega.{arith}
use lib.ListN.{length}
use Rattle.line_forms.proofs.Bytes.{run_fits}
use Rattle.line_forms.proofs.Choices.{sought-start, sought-next, word-found, word-missing}
use Rattle.line_fields.proofs.word_at.Goals as goal

pub loop-i-init : goal.loop-i-init
loop-i-init c =
    (omega arith, omega arith, sought-start c.run-w.result.now c.args.choices.now)

pub overflow_add-result : goal.overflow_add-result
overflow_add-result c =
    let a = c.args in
    record { fits = omega (arith, ap length c.run-w.ensures, run_fits 97 122 a.line.now a.at) }

pub returns-then-same : goal.returns-then-same
returns-then-same c =
    let a = c.args in
    word-found c.loop-i.invariant.2 a.line.now a.at c.run-w.ensures (omega arith)
    (rw (← c.run-choice.ensures) (sym c.same.ensures ∙ c.if-same.true))

pub loop-i-preserved : goal.loop-i-preserved
loop-i-preserved c =
    let l = c.loop-i in
    let e = c.run-choice.ensures in (
      omega (arith, ap length e, run_fits 0 123 c.args.choices.now l.i),
      omega arith,
      sought-next l.invariant.2 (length c.run-choice.result.now) (omega arith) (ap length e)
          (rw (← e) (sym c.same.ensures ∙ c.if-same.false)),
    )

pub returns : goal.returns
returns c =
    let a = c.args in
    word-missing c.loop-i.invariant.2 a.line.now a.at c.run-w.ensures (omega arith)
