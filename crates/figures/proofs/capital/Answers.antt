use Rattle.figures.proofs.FiguresLaws.{admitted-le}
use native.Mathlib.Omega.{arith}
use Rattle.figures.proofs.capital.Goals as goal

-- `figures::capital` meets its contract: no more is admitted than b and c, so the sums fit. Assumes nothing.

pub overflow_add-equity-2 : goal.overflow_add-equity-2
overflow_add-equity-2 c =
    omega (
      arith,
      admitted-le c.saturating_sub-e.result c.args.b
          c.args.c,
    )
