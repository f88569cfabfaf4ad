use mathlib.Core.Path.{refl}
use Prim.Native.Nat.{◌+◌}
use native.Mathlib.Omega.{arith}
use lib.ListN.{get_or}
use Rattle.book_model.specs.Joining.{places, added_cells}
use Rattle.joining.proofs.Laws.{filled_next, filled-whole}
use Rattle.joining.proofs.added_cells.Goals as goal

pub loop-i-init : goal.loop-i-init
unfolding places
loop-i-init c =
    refl

pub loop-i-preserved : goal.loop-i-preserved
loop-i-preserved c =
    let a = c.args in
    filled_next c.loop-i.sum-items (λ k. get_or a.first.now k 0 + get_or a.second.now k 0) c.loop-i.i (omega arith) c.loop-i.invariant

pub returns : goal.returns
unfolding added_cells
returns c =
    let a = c.args in
    filled-whole c.loop-i.sum-items (λ k. get_or a.first.now k 0 + get_or a.second.now k 0) c.loop-i.i (omega arith) c.loop-i.invariant
