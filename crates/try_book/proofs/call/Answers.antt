-- A copy of the book is sound without its marks.
use mathlib.Core.Path.{sym, subst}
use Rattle.book_model.specs.Calls.{Sound}
use Rattle.book_model.proofs.Joining.{without-marks-sound}
use Rattle.try_book.proofs.call.Goals as goal

pub returns-in-107 : goal.returns-in-107
returns-in-107 g c = (c.requires.0, subst Sound (sym c.keep.ensures) (without-marks-sound c.requires.0))

pub returns-in-120 : goal.returns-in-120
returns-in-120 g c = (
  subst Sound (sym c.exchange.ensures.book) c.requires.1,
  subst Sound (sym c.exchange.ensures.kept) (without-marks-sound c.requires.0),
)
