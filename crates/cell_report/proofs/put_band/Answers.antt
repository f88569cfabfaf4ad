-- The line of each column is written to what remains after those before it.
use Rattle.std.proofs.Common.{refl, arith}
use Rattle.report.proofs.Onto.{nothing_written, written-more}
use Rattle.cell_report.proofs.Laws.{columns_more}
use Rattle.cell_report.proofs.put_band.Goals as goal

pub loop-ltv-init : goal.loop-ltv-init
loop-ltv-init c = (omega arith, refl, nothing_written _)

pub loop-ltv-preserved : goal.loop-ltv-preserved
loop-ltv-preserved c =
    let cell = rw c.cell_at.ensures at c.put_cell-at.ensures.line in
    (omega arith, omega arith, rw (columns_more _ c.args.band c.loop-ltv.ltv (omega arith)) (written-more c.loop-ltv.invariant.2 cell))
