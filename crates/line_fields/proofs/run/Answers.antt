use mathlib.Core.Path.{sym, ◌∙◌}
use native.Mathlib.Omega.{arith}
use native.Mathlib.Nat.{sub_self}
use mathlib.Core.List.{append_assoc, append-nil}
use borrow.Author.Rules.{rules}
use Rattle.line_forms.proofs.Bytes.{run_step, run-stops, run_end, part-more}
use Rattle.line_fields.proofs.run.Goals as goal

pub returns-then-line-at : goal.returns-then-line-at
returns-then-line-at c =
    let a = c.args in
    sym (run_end a.low a.high a.line.now a.at (omega arith))

pub loop-end-init : goal.loop-end-init
loop-end-init c =
    let a = c.args in
    (search rules, omega arith, rw (sub_self a.at))

pub returns-then-not-inside : goal.returns-then-not-inside
returns-then-not-inside c =
    let a = c.args in
    let l = c.loop-end in
    let e = sym c.inside.ensures ∙ c.if-not-inside.true in
    sym (l.invariant.2 ∙ rw (run-stops a.low a.high a.line.now l.end (omega arith) e, append-nil))

pub loop-end-preserved : goal.loop-end-preserved
loop-end-preserved c =
    let a = c.args in
    let l = c.loop-end in (
      omega arith,
      omega arith,
      l.invariant.2 ∙
          rw (
            part-more a.line.now a.at l.end l.invariant.0 (omega arith),
            append_assoc,
            run_step a.low a.high a.line.now l.end (omega arith)
                (sym c.inside.ensures ∙ c.if-not-inside.false),
          ),
    )

pub returns : goal.returns
returns c =
    let a = c.args in
    let l = c.loop-end in
    sym (l.invariant.2 ∙ rw (run_end a.low a.high a.line.now l.end (omega arith), append-nil))
