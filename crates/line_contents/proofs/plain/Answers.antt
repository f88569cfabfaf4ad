use borrow.Author.Tests.{eq-eqb, ne_eqb}
use Rattle.line_forms.specs.Readings.{plain_held}
use Rattle.line_contents.proofs.plain.Goals as goal

-- `plain` meets its contract.

pub returns-then-skip-line : goal.returns-then-skip-line
unfolding plain_held
returns-then-skip-line c =
    let n1 = c.number_after-n in
    rw
    (← n1.ensures.1, ← c.skip.ensures, eq-eqb _ _ c.if-skip-line.true, ← n1.ensures.0)

pub returns : goal.returns
unfolding plain_held
returns c =
    let n1 = c.number_after-n in
    rw
    (← n1.ensures.1, ← c.skip.ensures, ne_eqb _ _ c.if-skip-line.false)
