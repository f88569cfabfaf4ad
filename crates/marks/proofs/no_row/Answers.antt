use mathlib.Core.Path.{refl}
use Rattle.book_model.specs.Marks.{empty_row}
use Rattle.marks.proofs.no_row.Goals as goal

-- `no_row` meets its contract.

pub returns : goal.returns
unfolding empty_row
returns c =
    refl
