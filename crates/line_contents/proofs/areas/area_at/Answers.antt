use mathlib.Core.Path.{◌∙◌, ap}
use native.Mathlib.Omega.{arith}
use lib.ListN.{length}
use borrow.Author.Tests.{lt-ltb, le-ltb}
use Rattle.line_forms.specs.Parsing.{after_word}
use Rattle.line_forms.proofs.Bytes.{run_fits}
use Rattle.line_contents.proofs.areas.area_at.Goals as goal

-- `area_at` meets its contract.

pub overflow_add-result : goal.overflow_add-result
overflow_add-result c =
    let a = c.args in
    record { fits = omega (arith, ap length c.run-w.ensures, run_fits 97 122 a.line.now a.at) }

pub returns-then-value-lt12 : goal.returns-then-value-lt12
unfolding after_word
returns-then-value-lt12 c =
    let r = c.run-w.ensures in
    let p = c.place-value.ensures in
    (p ∙ rw r, rw (← r, ← p, lt-ltb _ _ c.if-value-lt12.true))

pub returns : goal.returns
unfolding after_word
returns c =
    let r = c.run-w.ensures in
    let p = c.place-value.ensures in
    (p ∙ rw r, rw (← r, ← p, le-ltb _ _ c.if-value-lt12.false))
