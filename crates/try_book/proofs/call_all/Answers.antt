use mathlib.Core.Path.{sym, subst}
use Rattle.book_model.specs.Calls.{Sound}
use Rattle.book_model.proofs.Feeding.{refused-sound}
use Rattle.book_model.proofs.Joining.{without-marks-sound}
use Rattle.try_book.proofs.call_all.Goals as goal

pub loop-at-init : goal.loop-at-init
loop-at-init g c =
    let sound = subst Sound (sym c.unopened-open_book.ensures) refused-sound in
    (sound, without-marks-sound sound)
