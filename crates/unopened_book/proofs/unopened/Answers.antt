use mathlib.Core.Path.{refl}
use Rattle.book_model.specs.Cells.{empty_cells}
use Rattle.book_model.specs.HouseIndex.{empty_index}
use Rattle.unopened_book.proofs.unopened.Goals as goal

-- `unopened` meets its contract.

pub returns : goal.returns
unfolding empty_cells empty_index
returns c =
    rw (c.refused.ensures, c.built_in_rates.ensures, c.none.ensures) refl
