use Rattle.std.proofs.Common.{rules}
use Rattle.book_model.specs.Calls.{cells_text_of}
use Rattle.book.proofs.Answers.{not-closed, closed-into}
use Rattle.book.proofs.close_cells.Goals as goal

-- `close_cells` meets its contract.

pub returns-in_err-may_close : goal.returns-in_err-may_close
returns-in_err-may_close c =
    let a = c.args in
    let answer = not-closed 8192 a.b.now (cells_text_of a.cells.now) a.out.now c.in_err-may_close.field-0.0 c.in_err-may_close.ensures (search rules) in
    record {
      equation = answer.0;
      bytes = answer.1;
    }

pub returns : goal.returns
returns c =
    let a = c.args in
    let answer = closed-into 8192 a.b.now (cells_text_of a.cells.now) a.out.now c.in_ok-may_close.ensures c.put_cells.ensures in
    record {
      equation = answer.0;
      bytes = answer.1;
    }
