use borrow.Author.Tests.{eq-eqb, ne_eqb}
use Rattle.line_forms.specs.Readings.{asset_held}
use Rattle.line_contents.proofs.asset.Goals as goal

-- `asset` meets its contract.

pub returns-then-skip-line : goal.returns-then-skip-line
unfolding asset_held
returns-then-skip-line c =
    let n1 = c.number_after-amount in
    let n2 = c.number_after-factor in
    rw
    (← n1.ensures.1, ← n2.ensures.1, ← c.skip.ensures, eq-eqb _ _ c.if-skip-line.true, ← n1.ensures.0, ← n2.ensures.0)

pub returns : goal.returns
unfolding asset_held
returns c =
    let n1 = c.number_after-amount in
    let n2 = c.number_after-factor in
    rw
    (← n1.ensures.1, ← n2.ensures.1, ← c.skip.ensures, ne_eqb _ _ c.if-skip-line.false)
