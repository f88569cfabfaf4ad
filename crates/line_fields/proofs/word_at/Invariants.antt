use Prim.Native.Nat.{◌+◌, ◌-◌, ◌≤◌}
use lib.ListN.{length}
use Rattle.line_forms.proofs.Choices.{Sought}
use Rattle.line_fields.proofs.word_at.Given as goal

-- `word_at` meets its contract.

abbrev pub invariant-loop-i : goal.invariant-loop-i
invariant-loop-i l = (l.i ≤ length l.choices + 1) × (l.place ≤ l.i) × Sought l.w l.choices l.place l.i

abbrev pub decreases-loop-i : goal.decreases-loop-i
decreases-loop-i l = length l.choices + 1 - l.i
