-- The lines of each band are written to what remains after those before it.
use Rattle.std.proofs.Common.{refl, arith}
use Rattle.report.proofs.Onto.{nothing_written, written-more}
use Rattle.cell_report.specs.CellReport.{bands_text}
use Rattle.cell_report.proofs.Laws.{bands_more}
use Rattle.cell_report.proofs.put_cells.Goals as goal

pub loop-band-init : goal.loop-band-init
unfolding bands_text
loop-band-init c = (omega arith, refl, nothing_written _)

pub loop-band-preserved : goal.loop-band-preserved
loop-band-preserved c =
    (omega arith, omega arith, rw (bands_more _ c.loop-band.band (omega arith)) (written-more c.loop-band.invariant.2 c.put_band-at.ensures.lines))
