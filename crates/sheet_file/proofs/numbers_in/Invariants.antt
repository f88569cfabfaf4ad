use Prim.Native.Nat.{◌-◌}
use lib.ListN.{length}
use Rattle.sheet_file.proofs.Reading.{Reading}
use Rattle.sheet_file.proofs.numbers_in.Given as goal

-- `numbers_in` meets its contract. Assumes nothing.

abbrev pub invariant-loop-at : goal.invariant-loop-at
invariant-loop-at l = Reading l.bytes l.out l.at l.count

abbrev pub decreases-loop-at : goal.decreases-loop-at
decreases-loop-at l = length l.bytes - l.at
