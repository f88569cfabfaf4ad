use mathlib.Core.Path.{refl}
use Prim.Native.Nat.{◌+◌}
use native.Mathlib.Omega.{arith}
use lib.ListN.{length}
use borrow.Rule.Slice.PartMut.{Post-is}
use Rattle.marks.proofs.put.Goals as goal

-- `put` meets its contract.

pub returns : goal.returns
returns c =
    let a = c.args in
    rw (c.copy_from_slice.ensures.after, Post-is a.at (a.at + length a.part.now) a.row.now (omega arith)) refl
