use mathlib.Core.Path.{refl}
use Rattle.book_model.proofs.empty.Goals as goal

-- `empty` meets its contract.

pub returns : goal.returns
returns c =
    rw c.none.ensures refl
