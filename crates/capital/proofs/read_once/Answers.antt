-- Where a read failed nothing is read on.
use Rattle.capital.proofs.Turns.{read_none}
use Rattle.capital.proofs.read_once.Goals as goal

pub returns-in_default-clause-reading : goal.returns-in_default-clause-reading
returns-in_default-clause-reading g c = read_none _ _
