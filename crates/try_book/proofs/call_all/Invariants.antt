-- Every book is one that opening, feeding or joining gave.
use Rattle.std.proofs.Common.{length, ◌-◌}
use Rattle.book_model.specs.Calls.{Sound}
use Rattle.book_model.specs.JoiningLaws.{without_marks}
use Rattle.try_book.proofs.call_all.Given as goal

abbrev pub invariant-loop-at : goal.invariant-loop-at
invariant-loop-at g l = Sound l.open_book × Sound (without_marks l.kept)

abbrev pub decreases-loop-at : goal.decreases-loop-at
decreases-loop-at g l = length l.input - l.at
