use borrow.Author.Tests.{lt-ltb, le-ltb}
use mathlib.Core.Path.{refl}
use native.Mathlib.Omega.{arith}
use Rattle.sheet_file.specs.NumberList.{most}
use Rattle.sheet_file.proofs.put.Goals as goal

-- `put` meets its contract. Assumes nothing.

pub returns-then-count-lt-MOST : goal.returns-then-count-lt-MOST
returns-then-count-lt-MOST c =
    rw (lt-ltb c.args.count most (omega arith)) (refl, refl)

pub returns : goal.returns
returns c =
    rw (le-ltb c.args.count most (omega arith)) (refl, refl)
