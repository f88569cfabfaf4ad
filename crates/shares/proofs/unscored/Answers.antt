use mathlib.Core.Path.{refl}
use Rattle.book_model.specs.LineKinds.{unscored_count}
use Rattle.shares.proofs.unscored.Goals as goal

pub returns-in-Scored : goal.returns-in-Scored
unfolding unscored_count
returns-in-Scored c =
    rw c.in-Scored.is refl

pub returns-in-Unscored : goal.returns-in-Unscored
unfolding unscored_count
returns-in-Unscored c =
    rw c.in-Unscored.is refl
