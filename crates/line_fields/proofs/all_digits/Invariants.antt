use mathlib.Core.Path.{◌≡◌}
use Prim.Native.Nat.{◌-◌, ◌≤◌}
use mathlib.Core.Bool.{◌&&◌}
use lib.ListN.{length, drop}
use Rattle.line_forms.specs.Bytes.{all_within}
use Rattle.line_fields.proofs.all_digits.Given as goal

-- `all_digits` meets its contract.

abbrev pub invariant-loop-i : goal.invariant-loop-i
invariant-loop-i l = (l.i ≤ length l.part) × (all_within 48 57 l.part ≡ (l.all && all_within 48 57 (drop l.i l.part)))

abbrev pub decreases-loop-i : goal.decreases-loop-i
decreases-loop-i l = length l.part - l.i
