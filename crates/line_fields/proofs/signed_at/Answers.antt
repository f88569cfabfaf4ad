use mathlib.Core.Path.{sym, ◌∙◌}
use Prim.Native.Nat.{◌<◌}
use native.Mathlib.Omega.{arith}
use lib.ListN.{length}
use Rattle.line_forms.proofs.Positions.{minus-inside}
use Rattle.line_forms.specs.Parsing.{signed_at_lem, after_signed}
use Rattle.line_fields.proofs.signed_at.Goals as goal

-- `signed_at` meets its contract.

pub overflow_add-at : goal.overflow_add-at
overflow_add-at c =
    let a = c.args in
    let h : a.at < length a.line.now =
    minus-inside a.line.now a.at (sym c.minus_at.ensures ∙ c.if-minus_at.true) in
    record { fits = omega arith }

pub returns-then-minus_at : goal.returns-then-minus_at
unfolding signed_at_lem after_signed
returns-then-minus_at c =
    let e = sym c.minus_at.ensures ∙ c.if-minus_at.true in
    let f = c.negative_at.ensures in
    (rw e f.0, rw e f.1)

pub returns : goal.returns
unfolding signed_at_lem after_signed
returns c =
    let e = sym c.minus_at.ensures ∙ c.if-minus_at.false in
    let f = c.number_at-n.ensures in
    (rw (e, f.0), rw e f.1)
