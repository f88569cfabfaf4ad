use mathlib.Core.Path.{refl}
use Rattle.limits.proofs.is_full.Goals as goal

pub returns : goal.returns
returns c =
    refl
