use borrow.Author.Tests.{eq-eqb, ne_eqb}
use Rattle.line_contents.proofs.class_at.Goals as goal

-- `class_at` meets its contract.

pub returns-then-place-eq0 : goal.returns-then-place-eq0
returns-then-place-eq0 c =
    rw (eq-eqb c.args.place 0 c.if-place-eq0.true)

pub returns : goal.returns
returns c =
    rw (ne_eqb c.args.place 0 c.if-place-eq0.false)
