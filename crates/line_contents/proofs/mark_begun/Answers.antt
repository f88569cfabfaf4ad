use Rattle.line_contents.proofs.mark_begun.Goals as goal

-- `mark_begun` meets its contract.

pub returns-then-back : goal.returns-then-back
returns-then-back c =
    rw c.if-back.true c.skip.ensures

pub returns : goal.returns
returns c =
    rw c.if-back.false c.skip-2.ensures
