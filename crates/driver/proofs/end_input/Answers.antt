use Rattle.std.proofs.Common.{rules, ◌∙◌, sym}
use Rattle.driver.specs.Reading.{stage_at}
use Rattle.driver.proofs.Runs.{ended-line, ended-none}
use Rattle.driver.proofs.end_input.Goals as goal

-- `end_input` meets its contract.

pub returns-then-is_empty-clause-equation : goal.returns-then-is_empty-clause-equation
returns-then-is_empty-clause-equation c =
    let a = c.args in
    let r = a.run in
    ended-none (stage_at r.progress a.sheet.now a.open_book.now) r.tail (search rules)

pub returns-clause-equation : goal.returns-clause-equation
returns-clause-equation c =
    let a = c.args in
    let r = a.run in
    c.end_held.ensures.equation ∙ sym (ended-line (stage_at r.progress a.sheet.now a.open_book.now) r.tail (search rules))
