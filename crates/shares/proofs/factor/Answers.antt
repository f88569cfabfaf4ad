use mathlib.Core.Path.{refl}
use Rattle.book_model.specs.Terms.{factor_for}
use Rattle.shares.proofs.factor.Goals as goal

pub returns : goal.returns
unfolding factor_for
returns c =
    rw (c.credit_factor.ensures, c.on_aged_table-aged.ensures) refl
