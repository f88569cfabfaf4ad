-- What the calls of book gave: each call is known by what its contract lets a caller learn (`Learnt`), and by nothing else.
use Rattle.std.specs.Prelude.{◌≡◌, List, ℕ, Result}
use contract.Lifetimes.{Lfts}
use borrow.Fn.Kinds.{Dens, ended_of}
use denote.Triple.Clauses.{AtExit}
use Rattle.loan_charge.specs.CreditFactor.{built_in_sheet}
use Rattle.book_model.specs.declared.Book.{Book}
use Rattle.line_forms.specs.declared.refusal.Refusal.{Refusal}
use Rattle.book_model.specs.Calls.{State, Answer, Closed, state_at, answered, closed_by}
use Rattle.book_model.specs.History.{History, opened, fed}
use Rattle.book_model.specs.Joining.{joined}
use Rattle.book.proofs.open.Reads as open-reads
use Rattle.book.proofs.open.Kinds as open-kinds
use Rattle.book.proofs.open_sheet.Reads as sheet-reads
use Rattle.book.proofs.open_sheet.Kinds as sheet-kinds
use Rattle.book.proofs.feed.Reads as feed-reads
use Rattle.book.proofs.feed.Kinds as feed-kinds
use Rattle.book.proofs.feed_with.Reads as with-reads
use Rattle.book.proofs.feed_with.Kinds as with-kinds
use Rattle.book.proofs.close.Reads as close-reads
use Rattle.book.proofs.close.Kinds as close-kinds
use Rattle.book.proofs.close_cells.Reads as cells-reads
use Rattle.book.proofs.close_cells.Kinds as cells-kinds
use Rattle.joining.proofs.join.Reads as join-reads
use Rattle.joining.proofs.join.Kinds as join-kinds

-- `open` was called with this line and gave this answer, with the open book as it left it
pub record OpenCall (line : List ℕ) (a : Answer) : Type 0 where
  pub lifetimes : Lfts 2
  pub args : Dens lifetimes open-kinds.ps
  pub result : Result Unit Refusal
  pub exit : AtExit (ended_of 2 open-kinds.ps open-kinds.r) lifetimes
  pub learnt : open-reads.Learnt lifetimes args result exit
  pub lent : args.1.0.now ≡ line
  pub gave : answered result exit.0.now ≡ a

-- `open_sheet` was called with this sheet and this line
pub record OpenSheetCall (sheet line : List ℕ) (a : Answer) : Type 0 where
  pub lifetimes : Lfts 3
  pub args : Dens lifetimes sheet-kinds.ps
  pub result : Result Unit Refusal
  pub exit : AtExit (ended_of 3 sheet-kinds.ps sheet-kinds.r) lifetimes
  pub learnt : sheet-reads.Learnt lifetimes args result exit
  pub lent : args.1.0.now ≡ line
  pub factors : args.1.1.0.now ≡ sheet
  pub gave : answered result exit.0.now ≡ a

-- either: without a sheet it is the regulator's table
pub data OpeningCall : (sheet line : List ℕ) → Answer → Type 0 where
  by_open : {line : List ℕ} {a : Answer} → OpenCall line a → OpeningCall built_in_sheet line a
  by_open_sheet : {sheet line : List ℕ} {a : Answer} → OpenSheetCall sheet line a → OpeningCall sheet line a

-- `feed` was lent a book in this state, and this line
pub record FeedCall (s : State) (line : List ℕ) (a : Answer) : Type 0 where
  pub lifetimes : Lfts 2
  pub args : Dens lifetimes feed-kinds.ps
  pub result : Result Unit Refusal
  pub exit : AtExit (ended_of 2 feed-kinds.ps feed-kinds.r) lifetimes
  pub learnt : feed-reads.Learnt lifetimes args result exit
  pub handed : args.0.now ≡ s
  pub lent : args.1.0.now ≡ line
  pub gave : answered result exit.0.now ≡ a

-- `feed_with` was lent a book in this state, and this line
pub record FeedWithCall (s : State) (line : List ℕ) (a : Answer) : Type 0 where
  pub lifetimes : Lfts 3
  pub args : Dens lifetimes with-kinds.ps
  pub result : Result Unit Refusal
  pub exit : AtExit (ended_of 3 with-kinds.ps with-kinds.r) lifetimes
  pub learnt : with-reads.Learnt lifetimes args result exit
  pub handed : args.0.now ≡ s
  pub lent : args.1.1.0.now ≡ line
  pub gave : answered result exit.0.now ≡ a

-- either
pub data FeedingCall (s : State) (line : List ℕ) (a : Answer) : Type 0 where
  by_feed : FeedCall s line a → FeedingCall s line a
  by_feed_with : FeedWithCall s line a → FeedingCall s line a

-- `close` was lent this book and this buffer, which it left as `after`
pub record CloseCall (b : Book) (buffer : List ℕ) (r : Closed) (after : List ℕ) : Type 0 where
  pub lifetimes : Lfts 2
  pub args : Dens lifetimes close-kinds.ps
  pub result : Result ℕ Refusal
  pub exit : AtExit (ended_of 2 close-kinds.ps close-kinds.r) lifetimes
  pub learnt : close-reads.Learnt lifetimes args result exit
  pub handed : args.0.now ≡ b
  pub lent : args.1.0.now ≡ buffer
  pub gave : closed_by result ≡ r
  pub left : exit.1.0.now ≡ after

-- `close_cells` was lent this book, its table of cells and this buffer, which it left as `after`
pub record CellsCall (b : Book) (cells buffer : List ℕ) (r : Closed) (after : List ℕ) : Type 0 where
  pub lifetimes : Lfts 3
  pub args : Dens lifetimes cells-kinds.ps
  pub result : Result ℕ Refusal
  pub exit : AtExit (ended_of 3 cells-kinds.ps cells-kinds.r) lifetimes
  pub learnt : cells-reads.Learnt lifetimes args result exit
  pub handed : args.0.now ≡ b
  pub table : args.1.0.now ≡ cells
  pub lent : args.1.1.0.now ≡ buffer
  pub gave : closed_by result ≡ r
  pub left : exit.1.1.0.now ≡ after

-- `join` was lent books in these two states, whatever marks they have, and gave this answer, with the third book as it left it (02, L8)
pub record JoinCall (s u : State) (a : Answer) : Type 0 where
  pub lifetimes : Lfts 3
  pub args : Dens lifetimes join-kinds.ps
  pub result : Result Unit Refusal
  pub exit : AtExit (ended_of 3 join-kinds.ps join-kinds.r) lifetimes
  pub learnt : join-reads.Learnt lifetimes args result exit
  pub first : state_at args.1.0.now.book args.1.0.now.rates args.1.0.now.cells args.1.0.now.index s.marks ≡ s
  pub second : state_at args.1.1.0.now.book args.1.1.0.now.rates args.1.1.0.now.cells args.1.1.0.now.index u.marks ≡ u
  pub gave : answered result exit.0.now ≡ a

-- The calls of a history gave this state: an opening that was not refused, and feedings, each lent the book as the call before left it; or a joining that was not refused of two states that calls gave. The latter counts as one book that opening
-- and feeding give, with the lines still standing in both taken (02, L8): that history, which no call went through, is `joined h k`.
pub data Given : History → State → Type 0 where
  by_opening : (sheet line : List ℕ) (a : Answer) → OpeningCall sheet line a → a.refusal ≡ 0 → Given (opened sheet line) a.state
  by_feeding : {h : History} {s : State} → Given h s → (line : List ℕ) (a : Answer) → FeedingCall s line a → Given (fed h line) a.state
  by_joining : {h k : History} {s u : State} → Given h s → Given k u → (a : Answer) → JoinCall s u a → a.refusal ≡ 0 → Given (joined h k) a.state
