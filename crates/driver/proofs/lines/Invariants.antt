use mathlib.Core.List.{[]}
use mathlib.Core.Path.{◌≡◌}
use Prim.Native.Nat.{◌+◌, ◌-◌, ◌≤◌}
use lib.ListN.{length, take}
use Rattle.book_model.specs.Calls.{Sound}
use Rattle.driver.specs.Reading.{with_bytes, stage_at}
use Rattle.driver.proofs.lines.Given as goal

-- `lines` meets its contract.

abbrev pub invariant-loop-i : goal.invariant-loop-i
invariant-loop-i l = (record { stage = stage_at l.p l.sheet l.open_book; tail = [] } ≡
    with_bytes (record { stage = stage_at l.initial.p l.sheet l.initial.open_book; tail = [] }) (take l.i l.bytes))
    × Sound l.open_book × (l.p.number ≤ l.initial.p.number + l.i) × (l.i ≤ length l.bytes)

abbrev pub decreases-loop-i : goal.decreases-loop-i
decreases-loop-i l = length l.bytes - l.i
