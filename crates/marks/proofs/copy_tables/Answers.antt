use Rattle.book_model.specs.Marks.{cells_in, index_in}
use Rattle.marks.proofs.copy_tables.Goals as goal

-- `copy_tables` meets its contract.

pub returns : goal.returns
unfolding cells_in index_in
returns c =
    record {
      cells = c.copy_from_slice.ensures.after;
      index = c.copy_from_slice-2.ensures.after;
    }
