use Rattle.book_model.specs.Calls.{state_marked}
use Rattle.marks.proofs.feed.Goals as goal

-- `feed` meets its contract.

pub returns-then-m-clause-state : goal.returns-then-m-clause-state
unfolding state_marked
returns-then-m-clause-state c =
    rw c.if-m.true c.back_to.ensures.state

pub returns-then-m-clause-parts : goal.returns-then-m-clause-parts
returns-then-m-clause-parts c =
    rw c.if-m.true c.back_to.ensures.state

pub returns-else-m-clause-state : goal.returns-else-m-clause-state
unfolding state_marked
returns-else-m-clause-state c =
    rw c.if-m.false c.set_mark.ensures.state

pub returns-else-m-clause-parts : goal.returns-else-m-clause-parts
returns-else-m-clause-parts c =
    rw c.if-m.false c.set_mark.ensures.state
