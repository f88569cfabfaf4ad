-- Demands 1 to 3 of the calls `open`, `open_sheet`, `feed`, `feed_with`, `join`, `close` and `close_cells` themselves, and requests L1 and
-- L3 to L7; L8 is in Joinings.antt. Proved in proofs/Demands.antt.
use Rattle.std.specs.Prelude.{◌≡◌, ◌↔◌, ℕ, ◌-◌, ◌*◌, ◌≤◌, ◌<◌, length, take, replicate}
use mathlib.Core.List.{List, [], ◌∷◌, ◌++◌, Memᴰ, Permᴰ}
use Rattle.loan_charge.specs.declared.Score.TheVariants.{Scored}
use Rattle.loan_charge.specs.CreditFactor.{built_in_sheet, rates_of_lem, hundredths, band, column, entry_at}
use Rattle.sheet.specs.Sheet.{SheetRules}
use Rattle.line_forms.specs.declared.Loan.{Loan}
use Rattle.line_forms.specs.declared.Content.TheVariants.{Loan as loan, Index as index}
use Rattle.line_forms.specs.Claims.{ShowsInRange}
use Rattle.report.specs.Line.{onto}
use Rattle.cell_report.specs.CellReport.{cell_at}
use Rattle.book_model.specs.declared.Book.{Book}
use Rattle.book_model.specs.Accepted.{Note, counts_in, names_of, accept}
use Rattle.book_model.specs.Calls.{Closed, State, Answer, Sound}
use Rattle.book_model.specs.Demand1.{refused_state}
use Rattle.book_model.specs.Demand2.{OpeningAnswer, FeedingAnswer, ClosingAnswer, IsSet, IsReturn, Indexed}
use Rattle.book_model.specs.Demand3.{report_for, LedgerTakes, Measured}
use Rattle.book_model.specs.FreshScores.{CountsKept, CountsMet}
use Rattle.book_model.specs.History.{History, fed, header_line, sheet_of, terms_of, accepted_of, lines_taken}
use Rattle.book_model.specs.HouseIndex.{InTable, values_at}
use Rattle.book_model.specs.LoanTable.{cell_for, cells_for, CellSums}
use Rattle.book_model.specs.Marks.{names_in}
use Rattle.book_model.specs.Standing.{Marks, Returns, SameBook, standing_alone}
use Rattle.book_model.specs.Terms.{under_sheet, factor_for}
use Rattle.histories.specs.Given.{OpenCall, OpenSheetCall, OpeningCall, FeedingCall, CloseCall, CellsCall, JoinCall, Given}

-- Demand 1. That every call comes to an end is part of what it means that it is proved.
pub record CallsDemand1 : Type 0 where
  -- The answer is 0, or the number of a refusal that document 01, or a request of 02, names for the call.
  pub opening_numbers : {sheet line : List ℕ} {a : Answer} → OpeningCall sheet line a → Memᴰ a.refusal (0 ∷ 1 ∷ 2 ∷ 7 ∷ 3 ∷ 4 ∷ 10 ∷ [])
  pub feeding_numbers : {s : State} {line : List ℕ} {a : Answer} → FeedingCall s line a →
      Memᴰ a.refusal (0 ∷ 1 ∷ 2 ∷ 7 ∷ 3 ∷ 5 ∷ 12 ∷ 8 ∷ 11 ∷ 13 ∷ 14 ∷ 15 ∷ [])
  pub joining_numbers : {s u : State} {a : Answer} → JoinCall s u a → Memᴰ a.refusal (0 ∷ 16 ∷ [])
  pub closing_numbers : {b : Book} {buffer after : List ℕ} {r : Closed} → CloseCall b buffer r after → Memᴰ r.refusal (0 ∷ 6 ∷ 9 ∷ [])
  pub cells_numbers : {b : Book} {cells buffer after : List ℕ} {r : Closed} → CellsCall b cells buffer r after → Memᴰ r.refusal (0 ∷ 6 ∷ 9 ∷ [])
  -- Refused, an opening gives the value of an all-zero header under the regulator's table, a feeding the same state, every place of its
  -- tables included, and a closing leaves every byte. What a joining gives then is in CallsJoining.
  pub refused_opening : {sheet line : List ℕ} {a : Answer} → OpeningCall sheet line a → (a.refusal ≡ 0 → ⊥) → a.state ≡ refused_state
  pub refused_feeding : {s : State} {line : List ℕ} {a : Answer} → FeedingCall s line a → (a.refusal ≡ 0 → ⊥) → a.state ≡ s
  pub refused_closing : {b : Book} {buffer after : List ℕ} {r : Closed} → CloseCall b buffer r after → (r.refusal ≡ 0 → ⊥) → after ≡ buffer
  pub refused_cells : {b : Book} {cells buffer after : List ℕ} {r : Closed} → CellsCall b cells buffer r after → (r.refusal ≡ 0 → ⊥) → after ≡ buffer
  -- Every state that the calls gave may be handed to the next call.
  pub sound : {h : History} {s : State} → Given h s → Sound s

-- Demand 2: each number when and only when its condition holds, by the lines taken.
pub record CallsDemand2 : Type 0 where
  pub openings : {sheet line : List ℕ} {a : Answer} → OpeningCall sheet line a → OpeningAnswer sheet line a
  pub feedings : {h : History} {s : State} → Given h s → {line : List ℕ} {a : Answer} → FeedingCall s line a →
      FeedingAnswer (terms_of h) (accepted_of h) line a.refusal
  pub closings : {h : History} {s : State} → Given h s → {buffer after : List ℕ} {r : Closed} → CloseCall s.book buffer r after →
      ClosingAnswer 512 (terms_of h) (accepted_of h) (length buffer) r.refusal
  pub cells_closings : {h : History} {s : State} → Given h s → {buffer after : List ℕ} {r : Closed} →
      CellsCall s.book s.cells buffer r after → ClosingAnswer 8192 (terms_of h) (accepted_of h) (length buffer) r.refusal

-- Demand 3, of every state that the calls gave.
pub record CallsDemand3 : Type 0 where
  -- Feeding takes a line exactly when the ledger adds it, or notes its list under it, or returns by it (02, L6); any other leaves the ledger
  -- as it is.
  pub takes : {h : History} {s : State} → Given h s → {line : List ℕ} {a : Answer} → FeedingCall s line a →
      (a.refusal ≡ 0) ↔ LedgerTakes (terms_of h) (accepted_of h) line
  pub leaves : {h : History} {s : State} → Given h s → {line : List ℕ} {a : Answer} → FeedingCall s line a → (a.refusal ≡ 0 → ⊥) →
      accept (terms_of h) (accepted_of h) line ≡ accepted_of h
  -- A closing that is not refused writes the report of the lines taken from the buffer's start, and tells its length.
  pub writes : {h : History} {s : State} → Given h s → {buffer after : List ℕ} {r : Closed} → CloseCall s.book buffer r after → r.refusal ≡ 0 →
      (after ≡ onto buffer (report_for (terms_of h) (lines_taken h))) × (r.length ≡ length (report_for (terms_of h) (lines_taken h)))
  -- Its required amount is never below the exact requirement, and less than the allowance above it; total, supplement and each loan's two
  -- numbers are on their sides of the exact ones and as near as 02, L7 asks.
  pub measured : {h : History} {s : State} → Given h s → Measured (terms_of h) (lines_taken h)
  -- Two states under equal terms with the same lines taken, each as often, in whatever order: the bytes written are the same.
  pub alike : {h k : History} {s u : State} → Given h s → Given k u → terms_of h ≡ terms_of k → Permᴰ (lines_taken h) (lines_taken k) →
      {x y after-x after-y : List ℕ} {r q : Closed} → CloseCall s.book x r after-x → CloseCall u.book y q after-y → r.refusal ≡ 0 → q.refusal ≡ 0 →
      (r.length ≡ q.length) × (take r.length after-x ≡ take q.length after-y)

-- 02, L1, of every state that the calls gave.
pub record CallsLoanTable : Type 0 where
  -- Each cell of the table counts and sums exactly the loans taken of its band and column.
  pub cells : {h : History} {s : State} → Given h s → (band ltv : ℕ) → 1 ≤ band → band ≤ 12 → 1 ≤ ltv → ltv ≤ 5 →
      cell_at s.cells band ltv ≡ cell_for (terms_of h) (lines_taken h) band ltv
  -- Over all cells the counts and charges sum to the report's loans and total.
  pub sums : {h : History} {s : State} → Given h s → CellSums (terms_of h) (lines_taken h)
  -- The second closing, where it is not refused, writes the 60 lines of the lines taken from the buffer's start, and tells their length.
  pub writes : {h : History} {s : State} → Given h s → {buffer after : List ℕ} {r : Closed} → CellsCall s.book s.cells buffer r after → r.refusal ≡ 0 →
      (after ≡ onto buffer (cells_for (terms_of h) (lines_taken h))) × (r.length ≡ length (cells_for (terms_of h) (lines_taken h)))
  -- Two states under equal terms with the same lines taken, each as often, in whatever order: the bytes written are the same.
  pub alike : {h k : History} {s u : State} → Given h s → Given k u → terms_of h ≡ terms_of k → Permᴰ (lines_taken h) (lines_taken k) →
      {x y after-x after-y : List ℕ} {r q : Closed} → CellsCall s.book s.cells x r after-x → CellsCall u.book u.cells y q after-y →
      r.refusal ≡ 0 → q.refusal ≡ 0 → (r.length ≡ q.length) × (take r.length after-x ≡ take q.length after-y)

-- 02, L3, of every state that the calls gave.
pub record CallsOwnFactors : Type 0 where
  -- Opening without a sheet is opening under the regulator's table lent as one.
  pub without : {line : List ℕ} {a b : Answer} → OpenCall line a → OpenSheetCall built_in_sheet line b → a ≡ b
  -- A book is under a sheet that keeps the rules, and has its rates, after whatever lines were fed;
  pub rules : {h : History} {s : State} → Given h s → SheetRules (sheet_of h)
  pub keeps : {h : History} {s : State} → Given h s → s.rates ≡ rates_of_lem (sheet_of h)
  -- with that sheet demands 2 and 3 speak of it.
  pub terms : {h : History} {s : State} → Given h s → terms_of h ≡ under_sheet s.book.header (sheet_of h)

-- 02, L4, of every state that the calls gave.
pub record CallsAdjustedValues : Type 0 where
  -- The table lent holds the value of the line taken that sets it, and 0 where none does;
  pub set : {h : History} {s : State} → Given h s → (area month value : ℕ) → InTable area month → 1 ≤ value →
      (values_at s.index area month ≡ value) ↔
      ((line : List ℕ) × Memᴰ line (lines_taken h) × ShowsInRange line (index (record { area = area; month = month; value = value })))
  pub unset : {h : History} {s : State} → Given h s → (area month : ℕ) → InTable area month →
      (values_at s.index area month ≡ 0) ↔ (IsSet (lines_taken h) area month → ⊥)
  -- a value once set stays, whatever is fed but a return to a mark (02, L6).
  pub stays : {h : History} {s : State} → Given h s → {line : List ℕ} {a : Answer} → FeedingCall s line a → (IsReturn line → ⊥) → (area month : ℕ) →
      InTable area month →
      1 ≤ values_at s.index area month → values_at a.state.index area month ≡ values_at s.index area month
  -- Every loan taken from 200501 to 201511 has both its values.
  pub settled : {h : History} {s : State} → Given h s → (line : List ℕ) (l : Loan) → Memᴰ line (lines_taken h) → ShowsInRange line (loan l) → Indexed l →
      IsSet (lines_taken h) l.area l.from × IsSet (lines_taken h) l.area 201512

-- 02, L5, of every state that the calls gave.
pub record CallsFreshScores : Type 0 where
  -- The lines taken keep to the header's counts of loans, of loans without a score and of loans with a fresh one;
  pub kept : {h : History} {s : State} → Given h s → CountsKept s.book.header (counts_in (lines_taken h))
  -- where either closing writes, they are as many of each,
  pub met : {h : History} {s : State} → Given h s → {buffer after : List ℕ} {r : Closed} → CloseCall s.book buffer r after → r.refusal ≡ 0 →
      CountsMet s.book.header (counts_in (lines_taken h))
  pub cells_met : {h : History} {s : State} → Given h s → {buffer after : List ℕ} {r : Closed} → CellsCall s.book s.cells buffer r after →
      r.refusal ≡ 0 → CountsMet s.book.header (counts_in (lines_taken h))
  -- and so decide the table: the first column when 10 times the fresh loans taken are at least 9 times the loans taken, else that of the age.
  pub first_column : {h : History} {s : State} → Given h s → {buffer after : List ℕ} {r : Closed} → CloseCall s.book buffer r after → r.refusal ≡ 0 →
      9 * (counts_in (lines_taken h)).loans ≤ 10 * (counts_in (lines_taken h)).fresh → (number age : ℕ) →
      factor_for (terms_of h) (Scored number age) ≡ hundredths (entry_at (sheet_of h) (band number) 0)
  pub aged_table : {h : History} {s : State} → Given h s → {buffer after : List ℕ} {r : Closed} → CloseCall s.book buffer r after → r.refusal ≡ 0 →
      10 * (counts_in (lines_taken h)).fresh < 9 * (counts_in (lines_taken h)).loans → (number age : ℕ) →
      factor_for (terms_of h) (Scored number age) ≡ hundredths (entry_at (sheet_of h) (band number) (column age))
  -- The writer of a book cannot choose: two books with the same held and the same lines taken, in whatever order, that are both closed with a
  -- report were opened by the same line.
  pub one_header : {h k : History} {s u : State} → Given h s → Given k u → s.book.header.held ≡ u.book.header.held →
      Permᴰ (lines_taken h) (lines_taken k) → {x y after-x after-y : List ℕ} {r q : Closed} → CloseCall s.book x r after-x →
      CloseCall u.book y q after-y → r.refusal ≡ 0 → q.refusal ≡ 0 → header_line h ≡ header_line k

-- 02, L6, of every state that the calls gave.
pub record CallsStanding : Type 0 where
  -- The table lent keeps the names noted, in the order set, at most eight, and 0 in the rows without a mark.
  pub names : {h : History} {s : State} → Given h s → names_in s.marks ≡ names_of (accepted_of h).notes ++ replicate (8 - length (accepted_of h).notes) 0
  pub most : {h : History} {s : State} → Given h s → length (accepted_of h).notes ≤ 8
  -- The lines still standing, fed alone to a book opened alike, are all taken again, and give the same book.
  pub alone : {h k : History} {s u : State} → Given h s → Given k u → k ≡ standing_alone h → (lines_taken k ≡ lines_taken h) × SameBook u s
  -- A mark leaves the book as it is.
  pub marks : {s : State} {line : List ℕ} {a : Answer} → FeedingCall s line a → (name : ℕ) → Marks line name → SameBook a.state s
  -- A return to it is taken and makes book and marks as they were, by whatever calls a book under the same terms came to be, as long as the
  -- mark is kept with those before it.
  pub again : {h k : History} {s u : State} → Given h s → {line : List ℕ} {a : Answer} → FeedingCall s line a → a.refusal ≡ 0 → (name : ℕ) → Marks line name →
      Given k u → terms_of k ≡ terms_of h → (more : List Note) → (accepted_of k).notes ≡ (accepted_of (fed h line)).notes ++ more →
      {back : List ℕ} {b : Answer} → Returns back name → FeedingCall u back b → (b.refusal ≡ 0) × (b.state ≡ a.state)
