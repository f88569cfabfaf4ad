use mathlib.Core.Path.{refl}
use Rattle.house_index.proofs.set.Goals as goal

-- `set` meets its contract.

pub returns : goal.returns
returns c =
    rw c.place_of.ensures.0 refl
