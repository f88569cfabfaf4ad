use mathlib.Core.Path.{sym, ◌∙◌}
use Rattle.std.specs.Prelude.{Ok, Err}
use Rattle.printing.proofs.Answers.{table-written, length-told}
use Rattle.printing.proofs.put_table.Goals as goal

-- `put_table` meets its contract.

pub returns : goal.returns
returns c =
    let s = c.args.open_book.now in
    let d = c.close_cells.ensures in
    rw (c.unwrap_or.ensures, length-told c.close_cells.result)
    (table-written s.book s.cells c.args.out.now c.requires.0 c.requires.1 d.equation d.bytes)
