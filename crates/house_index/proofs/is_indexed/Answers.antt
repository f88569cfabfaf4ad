use Rattle.book_model.specs.HouseIndex.{is_indexed_lem}
use mathlib.Core.Path.{refl}
use Rattle.house_index.proofs.is_indexed.Goals as goal

-- `is_indexed` meets its contract.

pub returns : goal.returns
unfolding is_indexed_lem
returns c =
    refl
