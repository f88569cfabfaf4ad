-- What joining asks of the book is asked without its marks, of a copy without them.
use mathlib.Core.Path.{sym, subst, ap}
use Rattle.book_model.specs.Calls.{Sound}
use Rattle.book_model.specs.JoiningLaws.{without_marks}
use Rattle.book_model.proofs.Joining.{without-marks-sound}
use Rattle.try_book.proofs.join.Goals as goal

pub join-requires : goal.join-requires
join-requires c = (c.requires.1, subst Sound (sym (ap without_marks c.copy_unmarked.ensures)) (without-marks-sound c.requires.0))
