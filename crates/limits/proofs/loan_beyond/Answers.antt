use mathlib.Core.Path.{refl}
use Rattle.limits.proofs.loan_beyond.Goals as goal

pub returns : goal.returns
returns c =
    rw (c.unscored.ensures, c.fresh.ensures) refl
