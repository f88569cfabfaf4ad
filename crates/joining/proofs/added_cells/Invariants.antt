use mathlib.Core.Path.{◌≡◌}
use Prim.Native.Nat.{◌+◌}
use lib.ListN.{get_or}
use Rattle.joining.proofs.Laws.{filled}
use Rattle.joining.proofs.added_cells.Given as goal

-- `added_cells` meets its contract: after i turns the first i places are added.

abbrev pub invariant-loop-i : goal.invariant-loop-i
invariant-loop-i l = l.sum-items ≡ filled l.i (λ k. get_or l.first k 0 + get_or l.second k 0)
