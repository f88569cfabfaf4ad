-- The lines of the columns so far are written, at most 117 bytes each.
use Rattle.std.proofs.Common.{◌≡◌, ◌-◌, ◌*◌, ◌≤◌, length}
use Rattle.report.specs.Line.{Written}
use Rattle.cell_report.specs.CellReport.{cell_at}
use Rattle.cell_report.proofs.Laws.{columns}
use Rattle.cell_report.proofs.put_band.Given as goal

abbrev pub invariant-loop-ltv : goal.invariant-loop-ltv
invariant-loop-ltv l =
    (l.at ≤ 117 * (l.ltv - 1)) × (length l.out ≡ length l.fn.out) × Written l.fn.out (columns (cell_at l.cells) l.band (l.ltv - 1)) l.at l.out
