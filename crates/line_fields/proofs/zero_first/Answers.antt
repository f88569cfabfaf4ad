use mathlib.Core.Path.{sym}
use lib.ListN.{length, get_or}
use lib.Dec.{eqb}
use borrow.Author.Tests.{le-ltb, lt-ltb}
use Rattle.line_forms.proofs.Bytes.{false-and, and-true}
use Rattle.line_fields.proofs.zero_first.Goals as goal

-- `zero_first` meets its contract.

pub returns-then-digits-le1 : goal.returns-then-digits-le1
returns-then-digits-le1 c =
    let d = c.args.digits.now in
    rw (le-ltb 1 (length d) c.if-digits-le1.true) (sym (false-and (eqb (get_or d 0 0) 48)))

pub returns : goal.returns
returns c =
    let d = c.args.digits.now in
    rw (lt-ltb 1 (length d) c.if-digits-le1.false) (sym (and-true (eqb (get_or d 0 0) 48)))
