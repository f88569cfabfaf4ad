use mathlib.Core.Path.{◌≡◌, sym, ◌∙◌}
use Prim.Native.Nat.{◌+◌}
use lib.Dec.{eqb}
use Rattle.exact.specs.Choice.{pick}
use Rattle.book_model.specs.Calls.{told}
use Rattle.driver.specs.Reading.{stage_at}
use Rattle.driver.proofs.LineLaws.{told-err, told-ok, number-after, ended-refused, ended-answered}
use Rattle.driver.proofs.end_line.Goals as goal

-- `end_line` meets its contract.

pub returns-then-is_err : goal.returns-then-is_err
returns-then-is_err c =
    let a = c.args in
    let answer = ended-refused (stage_at a.p.now a.sheet.now a.open_book.now) a.line.now c.requires.0
    (told-err a.p.now.answer (sym c.is_err.ensures.value ∙ c.if-is_err.true)) in
    record {
      equation = answer.0;
      sound = answer.1.0;
      number = answer.1.1;
    }

pub returns-then-is_ok : goal.returns-then-is_ok
returns-then-is_ok c =
    let a = c.args in
    let r = c.answer_to-p.result in
    let n = a.p.now.number in
    let number : n + 1 ≡ pick (eqb (told r) 0) (n + 1) n = rw (← c.is_ok.ensures.value, c.if-is_ok.true) at (number-after r n) in
    let answer = ended-answered (stage_at a.p.now a.sheet.now a.open_book.now) a.line.now c.requires.0
    (told-ok a.p.now.answer (sym c.is_err.ensures.value ∙ c.if-is_err.false)) c.answer_to-p.ensures number in
    record {
      equation = answer.0;
      sound = answer.1.0;
      number = answer.1.1;
    }

pub returns-else-is_ok : goal.returns-else-is_ok
returns-else-is_ok c =
    let a = c.args in
    let r = c.answer_to-p.result in
    let n = a.p.now.number in
    let number : n ≡ pick (eqb (told r) 0) (n + 1) n = rw (← c.is_ok.ensures.value, c.if-is_ok.false) at (number-after r n) in
    let answer = ended-answered (stage_at a.p.now a.sheet.now a.open_book.now) a.line.now c.requires.0
    (told-ok a.p.now.answer (sym c.is_err.ensures.value ∙ c.if-is_err.false)) c.answer_to-p.ensures number in
    record {
      equation = answer.0;
      sound = answer.1.0;
      number = answer.1.1;
    }
