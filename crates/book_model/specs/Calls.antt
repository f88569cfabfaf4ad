-- Opening, feeding and closing a book as functions: the contracts of the calls equate their answers with these.
use Rattle.std.specs.Prelude.{ℕ, Result, Ok, Err, suc, ◌+◌, ◌*◌, ◌≤◌, Bool, ◌||◌, ◌≡◌, List, [], ltb, eqb, length, get_or, set}
use Rattle.exact.specs.Choice.{pick}
use Rattle.line_forms.specs.declared.Header.{Header}
use Rattle.line_forms.specs.declared.MarkLine.{MarkLine}
use Rattle.line_forms.specs.declared.refusal.Refusal.{Refusal}
use Rattle.line_forms.specs.declared.Content.{Content}
use Rattle.line_forms.specs.declared.Line.{Line}
use Rattle.line_forms.specs.Refusals.{number_of}
use Rattle.line_forms.specs.Claims.{line_content}
use Rattle.line_forms.specs.Readings.{line_of, header_of}
use Rattle.loan_charge.specs.CreditFactor.{rate_places, RatesInRange}
use Rattle.sheet.specs.Sheet.{sheet_passes}
use Rattle.figures.specs.declared.Counts.{Counts}
use Rattle.figures.specs.declared.Sums.{Sums}
use Rattle.figures.specs.Figures.{figures_of}
use Rattle.figures.specs.Sums.{no_sums, plus, Bounded}
use Rattle.report.specs.Line.{onto}
use Rattle.book_report.specs.Report.{report_text}
use Rattle.cell_report.specs.CellReport.{cell_at, cells_text}
use Rattle.book_model.specs.declared.Book.{Book}
use Rattle.book_model.specs.declared.OpenBook.{OpenBook}
use Rattle.book_model.specs.Accepted.{most_other, refusal_for}
use Rattle.book_model.specs.Cells.{empty_cells, cells_with, CellsBounded}
use Rattle.book_model.specs.HouseIndex.{values_at, empty_index, index_with, index_line, IndexSound}
use Rattle.book_model.specs.LineKinds.{of_mark, kind_of, with_indexed}
use Rattle.book_model.specs.Marks.{most_marks, place_among, row_of, name_in, book_in_lem, cells_in, index_in, no_marks, names_in, free_row, kept_in, first_marks}
use Rattle.book_model.specs.Share.{share}
use Rattle.book_model.specs.Terms.{Terms, Basis, under, terms_for}

-- A book as the calls have it: its numbers, and the tables with it.
abbrev pub State : Type 0
State = OpenBook

abbrev pub state_at : Book → (rates cells index : List ℕ) → (marks : List (List ℕ)) → State
state_at b rates cells index marks = record { book = b; rates = rates; cells = cells; index = index; marks = marks }

-- what it was opened under
abbrev pub terms_in : State → Terms
terms_in s = under s.book.header s.rates

-- and what its loans are charged by
abbrev pub basis_at : Header → (rates index : List ℕ) → Basis
basis_at h rates index = record { terms = under h rates; index = values_at index }

abbrev pub basis_in : State → Basis
basis_in s = basis_at s.book.header s.rates s.index

-- its counts, the index lines among the lines that are not loans
abbrev pub counts_of : Book → Counts
counts_of b = with_indexed b.sums.counts b.indexed

-- An answer: the refusal, 0 for none, and the state after the call.
pub record Answer : Type 0 where
  pub refusal : ℕ
  pub state : State

-- What the code's answers say: the number of a refusal, 0 for none, ..
abbrev pub told : {A : Type 0} → Result A Refusal → ℕ
told (Ok x) = 0
told (Err r) = number_of r

-- .. of a call after which an open book is in this state, ..
abbrev pub answered : {A : Type 0} → Result A Refusal → State → Answer
answered r s = record { refusal = told r; state = s }

-- Opening

-- just opened, with no line taken
abbrev pub empty_book : Header → Book
empty_book h = record { header = h; sums = no_sums; indexed = 0 }

abbrev pub empty_state : Terms → State
empty_state t = state_at (empty_book t.header) t.rates empty_cells empty_index no_marks

-- Its refusal, 0 for none: the header's first; then 10, where the sheet of factors lent breaks a rule (02, L3).
unfoldable pub opening_refusal : (sheet : List ℕ) → Result Header Refusal → ℕ
opening_refusal sheet (Ok h) = pick (sheet_passes sheet) 0 10
opening_refusal sheet (Err r) = number_of r

abbrev pub opening_for : (sheet : List ℕ) → Result Header Refusal → Answer
opening_for sheet l = record { refusal = opening_refusal sheet l; state = empty_state (terms_for sheet l) }

-- Without a sheet the one lent is the regulator's table, built_in_sheet.
abbrev pub opening : (sheet line : List ℕ) → Answer
opening sheet line = opening_for sheet (header_of line)

-- Feeding

-- the refusal that a line meets in a book
abbrev pub refusal_in : State → Line → ℕ
refusal_in s l = refusal_for (basis_in s) (counts_of s.book) (kept_in s.marks) (kind_of l)

-- The book after a line that met the refusal n, 0 for none, with what the line adds: a refused line changes nothing.
abbrev pub book_with : ℕ → Book → (added : Sums) (indexed : ℕ) → Book
book_with n b added indexed = pick (eqb n 0) (record { header = b.header; sums = plus b.sums added; indexed = b.indexed + indexed }) b

unfoldable pub book_after : State → Line → Book
book_after s l = book_with (refusal_in s l) s.book (share (basis_in s) (line_content l)) (index_line (line_content l))

-- and its table of cells after data of a line that met the refusal n
abbrev pub table_with : ℕ → Basis → Content → List ℕ → List ℕ
table_with n g c cells = pick (eqb n 0) (cells_with g c cells) cells

unfoldable pub cells_after : State → Line → List ℕ
cells_after s l = table_with (refusal_in s l) (basis_in s) (line_content l) s.cells

-- and its table of index values
unfoldable pub index_after : State → Line → List ℕ
index_after s l = pick (eqb (refusal_in s l) 0) (index_with (line_content l) s.index) s.index

-- the state after a line that is neither a mark nor a return
abbrev pub state_after : State → Line → State
state_after s l = state_at (book_after s l) s.rates (cells_after s l) (index_after s l) s.marks

-- 02, L6: a mark keeps the book as it is, all its tables included, in the first free row;
abbrev pub marked : State → (name : ℕ) → State
marked s name = state_at s.book s.rates s.cells s.index (set s.marks (free_row s.marks) (row_of name s.book s.cells s.index))

-- a return makes it so again, and drops the marks set after that one.
abbrev pub place_named : State → (name : ℕ) → ℕ
place_named s name = place_among name (names_in s.marks)

abbrev pub back_at : State → (row : ℕ) → State
back_at s row =
    state_at (book_in_lem s.book.header (get_or s.marks row [])) s.rates (cells_in (get_or s.marks row [])) (index_in (get_or s.marks row []))
    (first_marks (suc row) s.marks)

-- the state after either that met the refusal n
unfoldable pub state_marked : ℕ → State → MarkLine → State
state_marked n s m = pick (eqb n 0) (pick m.back (back_at s (place_named s m.name)) (marked s m.name)) s

unfoldable pub feeding_line : State → Line → Answer
feeding_line s l = record {
  refusal = refusal_in s l;
  state = of_mark (state_marked (refusal_in s l) s) (state_after s l) (line_content l);
}

abbrev pub feeding : State → List ℕ → Answer
feeding s line = feeding_line s (line_of line)

-- What opening and feeding assure of every book they give, refused or not: all that feeding and closing ask of it.
pub record SoundBook (b : Book) : Type 0 where
  pub bounded : Bounded b.sums
  pub loans : b.sums.counts.loans ≤ b.header.loans
  pub unscored : b.sums.counts.unscored ≤ b.header.unscored
  pub fresh : b.sums.counts.fresh ≤ b.header.fresh
  pub other : b.sums.counts.other + b.indexed ≤ most_other
  pub header_loans : b.header.loans ≤ 1000000
  pub header_scores : b.header.unscored + b.header.fresh ≤ b.header.loans
  pub held : b.header.held ≤ 10000000000000

-- and of a row in which a mark is kept: what a return to it gives
pub record RowSound (h : Header) (row : List ℕ) : Type 0 where
  pub size : length row ≡ 1844
  pub book : SoundBook (book_in_lem h row)
  pub cells : CellsBounded (cells_in row) (4 * (book_in_lem h row).sums.counts.loans)
  pub index : IndexSound (index_in row) (book_in_lem h row).indexed

pub record MarksSound (h : Header) (marks : List (List ℕ)) : Type 0 where
  pub rows : length marks ≡ most_marks
  pub each : (i : ℕ) → 1 ≤ name_in (get_or marks i []) → RowSound h (get_or marks i [])

-- and of the tables lent with it
pub record Sound (s : State) : Type 0 where
  pub book : SoundBook s.book
  pub rates : RatesInRange s.rates
  pub rates_size : length s.rates ≡ rate_places
  pub cells : CellsBounded s.cells (4 * s.book.sums.counts.loans)
  pub cells_size_law : length s.cells ≡ 240
  pub index : IndexSound s.index s.book.indexed
  pub marks : MarksSound s.book.header s.marks

-- Closing, which writes a text into a buffer of at least so many bytes

-- 6 at closing: fewer loans taken than the header counts, fewer without a score, or fewer with a fresh one (02, L5)
abbrev pub lacks_lines : Header → Counts → Bool
lacks_lines h c = ltb c.loans h.loans || ltb c.unscored h.unscored || ltb c.fresh h.fresh

-- Closing tests 6, then 9: a buffer of too few bytes.
abbrev pub closing_refusal_lem : (least : ℕ) → Header → Counts → (size : ℕ) → ℕ
closing_refusal_lem least h c size = pick (lacks_lines h c) 6 (pick (ltb size least) 9 0)

-- It answers its refusal, 0 for none, and the length of the text it wrote;
pub record Closed : Type 0 where
  pub refusal : ℕ
  pub length : ℕ

-- (the code's answer tells a length where it is not refused)
abbrev pub closed_by : Result ℕ Refusal → Closed
closed_by (Ok n) = record { refusal = 0; length = n }
closed_by (Err r) = record { refusal = number_of r; length = 0 }

unfoldable pub closing_with : (least : ℕ) → Book → (text : List ℕ) → (size : ℕ) → Closed
closing_with least b text size = record {
  refusal = closing_refusal_lem least b.header b.sums.counts size;
  length = pick (eqb (closing_refusal_lem least b.header b.sums.counts size) 0) (length text) 0;
}

-- it writes the text from the buffer's start, and the bytes after it stay; refused, it writes nothing.
unfoldable pub closed_with : (least : ℕ) → Book → (text buffer : List ℕ) → List ℕ
closed_with least b text buffer =
    pick (eqb (closing_refusal_lem least b.header b.sums.counts (length buffer)) 0) (onto buffer text) buffer

-- the report, for which 512 bytes are asked
abbrev pub report_size : ℕ
report_size = 512

abbrev pub report_of : Book → List ℕ
report_of b = report_text (figures_of b.header.held b.sums)

abbrev pub closing : Book → (size : ℕ) → Closed
closing b size = closing_with report_size b (report_of b) size

abbrev pub closed : Book → List ℕ → List ℕ
closed b buffer = closed_with report_size b (report_of b) buffer

-- 02, L1: the table of cells, for which 8,192 bytes are asked
abbrev pub cells_size : ℕ
cells_size = 8192

abbrev pub cells_text_of : List ℕ → List ℕ
cells_text_of cells = cells_text (cell_at cells)

abbrev pub closing_cells : Book → (cells : List ℕ) → (size : ℕ) → Closed
closing_cells b cells size = closing_with cells_size b (cells_text_of cells) size

abbrev pub closed_cells : Book → (cells buffer : List ℕ) → List ℕ
closed_cells b cells buffer = closed_with cells_size b (cells_text_of cells) buffer
