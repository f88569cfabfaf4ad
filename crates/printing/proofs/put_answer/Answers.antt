use mathlib.Core.Path.{ap}
use native.Mathlib.Omega.{arith}
use lib.ListN.{length}
use Rattle.line_forms.specs.Refusals.{number_of}
use Rattle.line_forms.proofs.Refusals.{number-some}
use Rattle.book_model.specs.Calls.{told}
use Rattle.printing.proofs.Answers.{refusal-room, printed-refused, printed-empty, printed-end}
use Rattle.printing.proofs.put_answer.Goals as goal

-- `put_answer` meets its contract.

pub put_refusal-requires : goal.put_refusal-requires
put_refusal-requires c =
    let a = c.args in
    refusal-room c.number.result a.number (length a.out.now) (omega arith) (omega arith) (omega arith)

pub returns-in-Err : goal.returns-in-Err
returns-in-Err c =
    let a = c.args in
    let s = a.open_book.now in
    rw (ap told c.in-Err.is, printed-refused a.asked (number_of c.in-Err.refusal) a.number s.book s.cells (number-some c.in-Err.refusal), ← c.number.ensures)
    c.put_refusal.ensures

pub put_refusal-requires-then-number-eq1 : goal.put_refusal-requires-then-number-eq1
put_refusal-requires-then-number-eq1 c =
    refusal-room c.number-then-number-eq1.result 1 (length c.args.out.now) (omega arith) (omega arith) (omega arith)

pub returns-then-number-eq1 : goal.returns-then-number-eq1
returns-then-number-eq1 c =
    let a = c.args in
    let s = a.open_book.now in
    rw (printed-empty a.asked (told a.answer) a.number s.book s.cells (ap told c.in_default.is) c.if-number-eq1.true, ← c.number-then-number-eq1.ensures)
    c.put_refusal-then-number-eq1.ensures

pub returns : goal.returns
returns c =
    let a = c.args in
    let s = a.open_book.now in
    rw (printed-end a.asked (told a.answer) a.number s.book s.cells (ap told c.in_default.is) c.if-number-eq1.false) c.put_closing.ensures
