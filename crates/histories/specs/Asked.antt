-- What the calls of book and joining ask of a caller (`requires`), by what their contracts make a caller show (`Asked`): every state that the
-- calls gave meets it, whatever line, sheet or buffer is lent, so each call may follow each.
use Rattle.std.specs.Prelude.{◌≡◌}
use contract.Lifetimes.{Lfts}
use borrow.Fn.Kinds.{Dens}
use Rattle.loan_charge.specs.Tables.{exponentials}
use Rattle.book_model.specs.Calls.{State, state_at}
use Rattle.book_model.specs.History.{History}
use Rattle.book.proofs.open.Reads as open-reads
use Rattle.book.proofs.open.Kinds as open-kinds
use Rattle.book.proofs.open_sheet.Reads as sheet-reads
use Rattle.book.proofs.open_sheet.Kinds as sheet-kinds
use Rattle.book.proofs.feed.Reads as feed-reads
use Rattle.book.proofs.feed.Kinds as feed-kinds
use Rattle.book.proofs.feed_with.Reads as with-reads
use Rattle.book.proofs.feed_with.Kinds as with-kinds
use Rattle.book.proofs.close.Reads as close-reads
use Rattle.book.proofs.close.Kinds as close-kinds
use Rattle.book.proofs.close_cells.Reads as cells-reads
use Rattle.book.proofs.close_cells.Kinds as cells-kinds
use Rattle.joining.proofs.join.Reads as join-reads
use Rattle.joining.proofs.join.Kinds as join-kinds
use Rattle.histories.specs.Given.{Given}

pub record CallsAsked : Type 0 where
  -- Openings and the second closing ask nothing.
  pub opening : (lifetimes : Lfts 2) (args : Dens lifetimes open-kinds.ps) → open-reads.Asked lifetimes args
  pub opening_sheet : (lifetimes : Lfts 3) (args : Dens lifetimes sheet-kinds.ps) → sheet-reads.Asked lifetimes args
  pub closing_cells_law : (lifetimes : Lfts 3) (args : Dens lifetimes cells-kinds.ps) → cells-reads.Asked lifetimes args
  -- A feeding is lent a book in such a state.
  pub feeding : {h : History} {s : State} → Given h s → (lifetimes : Lfts 2) (args : Dens lifetimes feed-kinds.ps) → args.0.now ≡ s →
      feed-reads.Asked lifetimes args
  pub feeding_with : {h : History} {s : State} → Given h s → (lifetimes : Lfts 3) (args : Dens lifetimes with-kinds.ps) → args.0.now ≡ s →
      args.1.0.now ≡ exponentials → with-reads.Asked lifetimes args
  -- A joining is lent books in two such states, whatever marks they have.
  pub joining : {h k : History} {s u : State} → Given h s → Given k u → (lifetimes : Lfts 3) (args : Dens lifetimes join-kinds.ps) →
      state_at args.1.0.now.book args.1.0.now.rates args.1.0.now.cells args.1.0.now.index s.marks ≡ s →
      state_at args.1.1.0.now.book args.1.1.0.now.rates args.1.1.0.now.cells args.1.1.0.now.index u.marks ≡ u →
      join-reads.Asked lifetimes args
  -- A closing is lent the book of such a state.
  pub closing : {h : History} {s : State} → Given h s → (lifetimes : Lfts 2) (args : Dens lifetimes close-kinds.ps) → args.0.now ≡ s.book →
      close-reads.Asked lifetimes args
