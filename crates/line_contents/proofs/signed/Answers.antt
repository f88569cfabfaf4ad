use borrow.Author.Tests.{eq-eqb, ne_eqb}
use Rattle.line_forms.specs.Readings.{signed_held}
use Rattle.line_contents.proofs.signed.Goals as goal

-- `signed` meets its contract.

pub returns-then-skip-line : goal.returns-then-skip-line
unfolding signed_held
returns-then-skip-line c =
    let n1 = c.signed_after-n in
    rw
    (← n1.ensures.1, ← c.skip.ensures, eq-eqb _ _ c.if-skip-line.true, ← n1.ensures.0)

pub returns : goal.returns
unfolding signed_held
returns c =
    let n1 = c.signed_after-n in
    rw
    (← n1.ensures.1, ← c.skip.ensures, ne_eqb _ _ c.if-skip-line.false)
