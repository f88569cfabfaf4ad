use Rattle.figures.proofs.FiguresLaws.{capital-within}
use Rattle.figures.specs.Figures.{Within}
use native.Mathlib.Omega.{arith}
use Rattle.figures.proofs.compute.Goals as goal

-- `figures::compute` meets its contract: the bounds of the sums keep every figure within 64 bits. Assumes nothing.

pub capital_ratio-ratio-requires : goal.capital_ratio-ratio-requires
capital_ratio-ratio-requires c =
    let s = c.args.s in
    let within : Within 40000000000000000 20000000000000000 c.capital-capital.result =
    rw c.capital-capital.ensures (capital-within s.equity s.aoci s.b s.c _ _ (omega arith) (omega arith))
    in omega arith
