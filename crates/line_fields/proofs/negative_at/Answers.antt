use borrow.Author.Tests.{eq-eqb, ne_eqb}
use Rattle.line_forms.specs.Parsing.{after_negative}
use Rattle.line_fields.proofs.negative_at.Goals as goal

-- `negative_at` meets its contract.

pub returns-then-n-eq0 : goal.returns-then-n-eq0
unfolding after_negative
returns-then-n-eq0 c =
    let e = c.number_at-n.ensures in
    (rw e.0, rw (← e.0, eq-eqb c.number_at-n.result.value 0 c.if-n-eq0.true))

pub returns : goal.returns
unfolding after_negative
returns c =
    let e = c.number_at-n.ensures in
    (rw e.0, rw (← e.0, ne_eqb c.number_at-n.result.value 0 c.if-n-eq0.false, ← e.1))
