use Rattle.book_model.specs.Calls.{state_at}
use Rattle.book_model.specs.HouseIndex.{index_with}
use Rattle.book.proofs.Answers.{index-taken}
use Rattle.book.proofs.add_index.Goals as goal

pub returns-clause-state : goal.returns-clause-state
unfolding index_with
returns-clause-state c =
    let s = c.args.open_book.now in
    λ i. state_at (index-taken s.book i) s.rates s.cells (c.set.ensures i) s.marks
