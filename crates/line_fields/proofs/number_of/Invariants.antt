use mathlib.Core.Path.{◌≡◌}
use Prim.Native.Nat.{◌+◌, ◌-◌, ◌^◌, ◌≤◌, ◌<◌}
use lib.ListN.{length, drop}
use Rattle.line_fields.specs.Numbers.{number_from}
use Rattle.line_fields.proofs.number_of.Given as goal

-- `number_of` meets its contract.

abbrev pub invariant-loop-i : goal.invariant-loop-i
invariant-loop-i l = (l.i ≤ length l.part) × (l.value < (l.base + 1) ^ l.i) × (number_from l.base l.before 0 l.part ≡ number_from l.base l.before l.value (drop l.i l.part))

abbrev pub decreases-loop-i : goal.decreases-loop-i
decreases-loop-i l = length l.part - l.i
