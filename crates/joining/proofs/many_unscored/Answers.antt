use Rattle.book_model.specs.Joining.{many_unscored_lem}
use Rattle.joining.proofs.Laws.{twentieth}
use Rattle.joining.proofs.many_unscored.Goals as goal

-- `many_unscored` meets its contract.

pub returns : goal.returns
unfolding many_unscored_lem
returns c =
    twentieth c.args.h.loans c.args.h.unscored
