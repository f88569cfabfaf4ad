use mathlib.Core.Path.{refl}
use Rattle.book_model.specs.LineKinds.{kind_counts}
use Rattle.shares.proofs.other.Goals as goal

pub returns : goal.returns
unfolding kind_counts
returns c =
    rw c.none-none.ensures refl
