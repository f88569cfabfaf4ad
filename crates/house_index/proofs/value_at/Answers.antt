use mathlib.Core.Path.{refl}
use Rattle.house_index.proofs.value_at.Goals as goal

-- `value_at` meets its contract.

pub returns : goal.returns
returns c =
    rw c.place_of.ensures.0 refl
