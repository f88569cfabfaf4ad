use Rattle.sheet_file.proofs.Reading.{cleared}
use Rattle.sheet_file.proofs.clear.Goals as goal

-- `clear` meets its contract. Assumes nothing.

pub returns : goal.returns
returns c =
    cleared
