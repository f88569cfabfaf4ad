use Rattle.driver.specs.Reading.{reading_of}
use Rattle.driver.proofs.Runs.{prints}
use Rattle.driver.proofs.finish.Goals as goal

-- `finish` meets its contract.

pub returns-clause-whole : goal.returns-clause-whole
returns-clause-whole c =
    let a = c.args in
    (prints a.asked (reading_of a.run a.sheet.now a.open_book.now) (rw (← c.end_input-last.ensures.equation) c.put_answer.ensures)).1
