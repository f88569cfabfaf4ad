use borrow.Author.Tests.{lt-ltb, le-ltb}
use Rattle.sheet_file.specs.Reading.{after_separator_lem}
use Rattle.sheet_file.proofs.after_separator.Goals as goal

-- `after_separator` meets its contract. Assumes nothing.

pub returns-then-size-at : goal.returns-then-size-at
unfolding after_separator_lem
returns-then-size-at c =
    simp (le-ltb _ _ c.if-size-at.true)

pub returns-then-b : goal.returns-then-b
unfolding after_separator_lem
returns-then-b c =
    simp (lt-ltb _ _ c.if-size-at.false, c.if-b.true)

pub returns : goal.returns
unfolding after_separator_lem
returns c =
    simp (lt-ltb _ _ c.if-size-at.false, c.if-b.false)
