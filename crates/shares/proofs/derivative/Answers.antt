use mathlib.Core.Path.{refl}
use Rattle.book_model.specs.Share.{derivative_share}
use Rattle.shares.proofs.derivative.Goals as goal

pub returns : goal.returns
unfolding derivative_share
returns c =
    rw (c.charged.ensures, c.derivative_parts.ensures) refl
