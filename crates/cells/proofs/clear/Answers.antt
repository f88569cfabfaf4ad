use Rattle.book_model.specs.Cells.{empty_cells}
use mathlib.Core.Path.{refl}
use Rattle.cells.proofs.clear.Goals as goal

pub returns : goal.returns
unfolding empty_cells
returns c =
    refl
