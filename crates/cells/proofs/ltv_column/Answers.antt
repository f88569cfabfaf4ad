use Rattle.book_model.specs.Cells.{ltv_of}
use Rattle.loan_charge.specs.CreditFactor.{count}
use native.Mathlib.Omega.{arith}
use Rattle.cells.proofs.ltv_column.Goals as goal

pub returns : goal.returns
unfolding ltv_of count
returns c =
    (omega arith, omega arith)
