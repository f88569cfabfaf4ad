use Rattle.driver.specs.Reading.{stage_at}
use Rattle.driver.proofs.Runs.{held-ended}
use Rattle.driver.proofs.end_held.Goals as goal

-- `end_held` meets its contract.

pub returns-clause-equation : goal.returns-clause-equation
returns-clause-equation c =
    let a = c.args in
    let r = a.run.now in
    let p = c.requires.0 in
    let l = c.lines in
    (held-ended (stage_at r.progress a.sheet.now a.open_book.now) r.tail c.ended.result.now l.result (stage_at l.new.p a.sheet.now l.new.open_book)
    c.ended.ensures.line p.unended p.sound l.ensures.equation l.ensures.rest.0 l.ensures.rest.1).0

pub returns-clause-number : goal.returns-clause-number
returns-clause-number c =
    let a = c.args in
    let r = a.run.now in
    let p = c.requires.0 in
    let l = c.lines in
    (held-ended (stage_at r.progress a.sheet.now a.open_book.now) r.tail c.ended.result.now l.result (stage_at l.new.p a.sheet.now l.new.open_book)
    c.ended.ensures.line p.unended p.sound l.ensures.equation l.ensures.rest.0 l.ensures.rest.1).1.1
