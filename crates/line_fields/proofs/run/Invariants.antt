use mathlib.Core.Path.{◌≡◌}
use Prim.Native.Nat.{◌-◌, ◌≤◌}
use lib.ListN.{length, take, drop}
use mathlib.Core.List.{◌++◌}
use Rattle.line_forms.specs.Bytes.{run_of}
use Rattle.line_fields.proofs.run.Given as goal

-- `run` meets its contract.

abbrev pub invariant-loop-end : goal.invariant-loop-end
invariant-loop-end l = (l.at ≤ l.end) × (l.end ≤ length l.line) ×
    (run_of l.low l.high (drop l.at l.line) ≡ take (l.end - l.at) (drop l.at l.line) ++ run_of l.low l.high (drop l.end l.line))

abbrev pub decreases-loop-end : goal.decreases-loop-end
decreases-loop-end l = length l.line - l.end
