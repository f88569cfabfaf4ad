use Rattle.marks.proofs.Rows.{place-found}
use Rattle.marks.proofs.find.Goals as goal

-- `find` meets its contract.

pub returns-clause-place : goal.returns-clause-place
returns-clause-place c =
    let a = c.args in
    rw (c.row_named.ensures, ← c.told-marks) (place-found a.name a.marks.now)
