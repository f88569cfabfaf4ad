use mathlib.Core.Path.{refl}
use Rattle.marks.proofs.numbers.Goals as goal

-- `numbers` meets its contract, number by number.

pub returns : goal.returns
returns c =
    refl
