-- The file's book is joined without its marks, and the joined book copied without them.
use Rattle.std.proofs.Common.{ap}
use native.Mathlib.Omega.{arith}
use Rattle.book_model.specs.JoiningLaws.{without_marks}
use Rattle.book_model.proofs.Joining.{without-marks-sound}
use Rattle.capital.proofs.Files.{next-read, next-told, next-for}
use Rattle.capital.proofs.join_next.Goals as goal

pub join_file-printed-requires : goal.join_file-printed-requires
join_file-printed-requires c = (c.requires.0, without-marks-sound c.in_ok-p.ensures.sound, omega arith)

pub returns : goal.returns
returns c =
    let (input, e) = c.in_ok-p.ensures.read in
    next-for (ap without_marks c.copy_unmarked.ensures)
    (next-told c.join_file-printed.result
    (next-read _ _ _ _ c.in_ok-p.p c.read_file.new.open_book input e c.requires.0 c.in_ok-p.ensures.sound c.join_file-printed.ensures))
