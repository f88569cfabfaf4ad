-- What is printed is within the buffer.
use Rattle.std.proofs.Common.{◌≤◌, length, refl, rules}
use Rattle.capital.proofs.Files.{words-within}
use Rattle.capital.proofs.print.Goals as goal

pub slice_bounds-write_all-end : goal.slice_bounds-write_all-end
slice_bounds-write_all-end c =
    let h : c.in-Ok.n ≤ length c.answer_words.new.out = words-within c.in-Ok.ensures refl in
    search rules
