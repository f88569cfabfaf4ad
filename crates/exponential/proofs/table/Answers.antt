use mathlib.Core.Path.{refl}
use Rattle.exponential.specs.Table.{exponentials}
use Rattle.exponential.proofs.table.Goals as goal

-- `exponential::table` meets its contract: the constant is the list. Assumes nothing.

pub returns : goal.returns
unfolding exponentials
returns c =
    refl
