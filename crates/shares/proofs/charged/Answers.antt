use mathlib.Core.Path.{refl}
use Rattle.shares.proofs.charged.Goals as goal

pub returns : goal.returns
returns c =
    rw (c.other.ensures, c.in_cents.ensures, c.in_cents-2.ensures) refl
