use native.Mathlib.Omega.{arith}
use mathlib.Core.Path.{◌∙◌, ap}
use lib.ListN.{length}
use Rattle.book_model.specs.Marks.{row_of}
use Rattle.marks.proofs.Rows.{no-row-length, laid}
use Rattle.marks.proofs.row_of.Goals as goal

-- `row_of` meets its contract: the numbers, the cells and the index, one after another.

pub returns : goal.returns
unfolding row_of
returns c =
    let none = c.no_row-row in
    let first = c.numbers-first in
    let a = c.args in
    laid first.result a.cells.now a.index.now none.result c.put.new.row c.put-2.new.row c.put-3.new.row
    (ap length first.ensures) (omega arith) (omega arith) (ap length none.ensures ∙ no-row-length)
    c.put.ensures c.put-2.ensures c.put-3.ensures
    ∙ rw first.ensures
