use Prim.Native.Nat.{◌+◌}
use native.Mathlib.Omega.{arith}
use mathlib.Core.Path.{sym}
use borrow.Author.Tests.{lt-ltb}
use Rattle.line_forms.proofs.HeaderCounts.{both-counts}
use Rattle.line_reading.proofs.over_counted.Goals as goal

-- `over_counted` meets its contract.

pub returns-then-h : goal.returns-then-h
returns-then-h c =
    let h = c.args.h in
    sym (lt-ltb h.loans (h.unscored + h.fresh) (omega (arith, c.if-h.true)))

pub returns : goal.returns
returns c =
    let h = c.args.h in
    both-counts h.loans h.unscored h.fresh c.if-h.false
