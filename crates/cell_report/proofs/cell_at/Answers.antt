use mathlib.Core.Path.{refl}
use Rattle.cell_report.proofs.cell_at.Goals as goal

-- `cell_at` meets its contract: the four places of a cell.
-- Assumes nothing.

pub returns : goal.returns
returns c =
    refl
