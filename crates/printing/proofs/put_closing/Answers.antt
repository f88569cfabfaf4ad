use mathlib.Core.Path.{refl}
use native.Mathlib.Omega.{arith}
use borrow.Author.Rules.{rules}
use Rattle.line_forms.proofs.Refusals.{number-some}
use Rattle.printing.proofs.Answers.{refusal-room, closing-refused, closing-enough, report-room, table-room, report-alone, report-and-table}
use Rattle.printing.proofs.put_closing.Goals as goal

-- `put_closing` meets its contract.

pub put_refusal-requires : goal.put_refusal-requires
put_refusal-requires c =
    refusal-room c.number.result c.args.number _ (omega arith) (omega arith) (search rules)

pub returns-in-Err : goal.returns-in-Err
returns-in-Err c =
    let a = c.args in
    let s = a.open_book.now in
    let d = c.in-Err.ensures in
    let k = closing-refused a.asked s.book s.cells a.out.now c.requires.2 d.equation d.bytes (number-some c.in-Err.refusal) in
    rw (k.1 a.number, ← c.number.ensures, ← k.0) c.put_refusal.ensures

-- the report leaves room for the table
pub slice_bounds-put_table-count : goal.slice_bounds-put_table-count
slice_bounds-put_table-count c =
    omega (arith, report-room c.args.open_book.now.book c.requires.0 c.args.out.now c.in-Ok.ensures.equation refl)

pub slice_bounds-put_table-start : goal.slice_bounds-put_table-start
slice_bounds-put_table-start c =
    omega (arith, report-room c.args.open_book.now.book c.requires.0 c.args.out.now c.in-Ok.ensures.equation refl)

pub put_table-requires : goal.put_table-requires
put_table-requires c =
    let a = c.args in
    let s = a.open_book.now in
    let d = c.in-Ok.ensures in (
      closing-enough a.asked s.book s.cells a.out.now c.requires.2 d.equation d.bytes refl,
      omega (arith, report-room s.book c.requires.0 a.out.now d.equation refl),
    )

pub overflow_add-result : goal.overflow_add-result
overflow_add-result c =
    let a = c.args in
    let s = a.open_book.now in
    omega (
      arith,
      report-room s.book c.requires.0 a.out.now c.in-Ok.ensures.equation refl,
      c.put_table.ensures.count,
      table-room s.book c.requires.0 s.cells c.requires.1,
    )

pub returns-then-asked : goal.returns-then-asked
returns-then-asked c =
    let a = c.args in
    let s = a.open_book.now in
    let d = c.in-Ok.ensures in
    report-and-table a.asked s.book s.cells a.out.now c.requires.2 d.equation d.bytes refl c.if-asked.true a.number c.put_table.ensures

pub returns-else-asked : goal.returns-else-asked
returns-else-asked c =
    let a = c.args in
    let s = a.open_book.now in
    let d = c.in-Ok.ensures in
    report-alone a.asked s.book s.cells a.out.now c.requires.2 d.equation d.bytes refl c.if-asked.false a.number
