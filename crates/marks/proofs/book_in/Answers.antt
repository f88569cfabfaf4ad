use mathlib.Core.Path.{refl}
use Rattle.book_model.specs.Marks.{book_in_lem}
use Rattle.marks.proofs.book_in.Goals as goal

-- `book_in` meets its contract.

pub returns : goal.returns
unfolding book_in_lem
returns c =
    refl
