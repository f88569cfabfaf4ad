use native.Mathlib.Omega.{arith}
use lib.ListN.{length}
use mathlib.Core.Path.{◌≡◌, ◌∙◌, ap}
use Prim.Native.Nat.{ℕ}
use native.Mathlib.Numerals.{add-one}
use Rattle.book_model.specs.Calls.{state_at}
use Rattle.book_model.specs.Marks.{first_marks}
use Rattle.marks.proofs.restore.Goals as goal

-- `restore` meets its contract.

pub returns : goal.returns
unfolding first_marks
returns c =
    let s = c.args.open_book.now in
    let tables = c.copy_tables.ensures in
    let n : length s.marks ≡ 8 = omega arith in
    let marks = c.clear_from.ensures ∙ rw n (ap (λ (n : ℕ). first_marks n s.marks) (add-one c.args.at)) in
    λ i. state_at (c.book_in-open_book.ensures i) s.rates (tables.cells i) (tables.index i) (marks i)
