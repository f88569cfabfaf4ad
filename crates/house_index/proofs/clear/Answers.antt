use Rattle.book_model.specs.HouseIndex.{empty_index}
use mathlib.Core.Path.{refl}
use Rattle.house_index.proofs.clear.Goals as goal

-- `clear` meets its contract.

pub returns : goal.returns
unfolding empty_index
returns c =
    refl
