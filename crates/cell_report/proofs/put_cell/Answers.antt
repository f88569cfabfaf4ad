-- The longest line fits.
use Rattle.std.proofs.Common.{arith}
use Rattle.cell_report.proofs.Laws.{line-most}
use Rattle.cell_report.proofs.put_cell.Goals as goal

pub put_line-requires : goal.put_line-requires
put_line-requires c =
    omega (arith, line-most c.args.band c.args.ltv c.args.cell (omega arith) (omega arith) (omega arith) (omega arith) (omega arith) (omega arith))

pub returns-clause-short : goal.returns-clause-short
returns-clause-short c =
    omega (
      arith,
      c.put_line.ensures.count,
      line-most c.args.band c.args.ltv c.args.cell (omega arith) (omega arith) (omega arith) (omega arith) (omega arith) (omega arith),
    )
