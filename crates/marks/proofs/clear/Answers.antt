use native.Mathlib.Omega.{arith}
use lib.ListN.{length}
use mathlib.Core.Path.{◌≡◌, ◌∙◌}
use Rattle.book_model.specs.Marks.{no_marks}
use Rattle.marks.proofs.clear.Goals as goal

-- `clear` meets its contract.

pub returns : goal.returns
unfolding no_marks
returns c =
    let n : length c.args.marks.now ≡ 8 = omega arith in
    c.clear_from.ensures ∙ rw n
