use mathlib.Core.Path.{refl}
use lib.ListN.{get_or-eq_default}
use Rattle.line_fields.proofs.minus_at.Goals as goal

-- `minus_at` meets its contract.

pub returns-then-at-line : goal.returns-then-at-line
returns-then-at-line c =
    refl

pub returns-else-at-line : goal.returns-else-at-line
returns-else-at-line c =
    rw (get_or-eq_default c.args.line.now 0 c.if-at-line.false)
