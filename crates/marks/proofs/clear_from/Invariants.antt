use mathlib.Core.Path.{◌≡◌}
use lib.ListN.{length, take, replicate}
use Rattle.book_model.specs.Marks.{empty_row}
use Rattle.marks.proofs.clear_from.Given as goal

-- `clear_from` meets its contract: after each turn one row more is cleared.

abbrev pub invariant-loop-row : goal.invariant-loop-row
invariant-loop-row l = (length l.rest ≡ length l.initial.rest) × (take l.row-index l.rest ≡ replicate l.row-index empty_row)
