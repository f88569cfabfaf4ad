use mathlib.Core.Path.{ap}
use mathlib.Core.List.{List}
use Prim.Native.Nat.{ℕ}
use lib.ListN.{replicate}
use Rattle.book_model.specs.Marks.{no_marks}
use Rattle.marks.proofs.none.Goals as goal

-- `none` meets its contract.

pub returns : goal.returns
unfolding no_marks
returns c =
    ap (λ (row : List ℕ). replicate 8 row) c.no_row-row.ensures
