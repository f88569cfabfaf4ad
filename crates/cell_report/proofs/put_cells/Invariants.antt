-- The lines of the bands so far are written, at most 585 bytes each.
use Rattle.std.proofs.Common.{◌≡◌, ◌-◌, ◌*◌, ◌≤◌, length}
use Rattle.report.specs.Line.{Written}
use Rattle.cell_report.specs.CellReport.{bands_text, cell_at}
use Rattle.cell_report.proofs.put_cells.Given as goal

abbrev pub invariant-loop-band : goal.invariant-loop-band
invariant-loop-band l =
    (l.at ≤ 585 * (l.band - 1)) × (length l.out ≡ length l.fn.out) × Written l.fn.out (bands_text (cell_at l.cells) (l.band - 1)) l.at l.out
