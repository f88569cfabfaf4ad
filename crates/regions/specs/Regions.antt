-- 02, L8 and L9, in the words of the program: files that are whole books, joined from the first on, and what is printed of them. Proved in
-- proofs/Regions.antt and proofs/FileOrder.antt.
use Rattle.std.specs.Prelude.{ℕ, ◌+◌, Bool, true, false, ◌&&◌, ◌≡◌, eqb}
use mathlib.Core.List.{List, [], ◌∷◌, ◌++◌, map, Permᴰ}
use Rattle.exact.specs.Choice.{pick}
use Rattle.exact.specs.Text.{text}
use Rattle.report.specs.Line.{refusal_line}
use Rattle.book_model.specs.Accepted.{counts_in}
use Rattle.book_model.specs.Calls.{State, lacks_lines, report_of, cells_text_of}
use Rattle.book_model.specs.Demand2.{CountsReached}
use Rattle.book_model.specs.History.{History, opened as history_opened, all_fed, sheet_of, terms_of, lines_taken}
use Rattle.book_model.specs.GivenState.{state_given, IsOpened}
use Rattle.book_model.specs.Joining.{MayJoin, joining, added_header_line, joined, JoinedBooks, LinesOfBoth}
use Rattle.book_model.specs.JoiningLaws.{ChangesNothing, OnlyIndexLines, UnscoredFirst}
use Rattle.printing.specs.AtEnd.{with_table}
use Rattle.driver.specs.Printed.{lines_of, printed, printed_for, ended}
use Rattle.driver.specs.Reading.{Stage, from_start, with_bytes}

-- what a file gives
abbrev pub region_of : (sheet input : List ℕ) → Stage
region_of sheet input = ended (with_bytes (from_start sheet) input)

-- whether a report is printed of it
unfoldable pub reports : Stage → Bool
reports p =
    pick (eqb p.refusal 0) (pick (eqb p.number 1) false (pick (lacks_lines p.state.book.header p.state.book.sums.counts) false true)) false

-- the report of a book, with the table of cells where it is asked for
abbrev pub printed_state : Bool → State → List ℕ
printed_state asked s = with_table asked (report_of s.book) (cells_text_of s.cells)

-- One more file, the k-th, which gave p, is joined to the book of those before it,
unfoldable pub joins_on : State → Stage → Bool
joins_on s p = reports p && eqb (joining s p.state).refusal 0

-- or it ends there: one of which no report is printed prints what it prints alone, one that may not be joined (refused 16 k).
unfoldable pub stops_with : Bool → (k : ℕ) → Stage → List ℕ
stops_with asked k p = pick (reports p) (refusal_line 16 k) (printed_for asked p)

-- files joined in turn to a book, the next of them the k-th
unfoldable pub joined_from : Bool → (sheet : List ℕ) → State → (k : ℕ) → List (List ℕ) → List ℕ
joined_from asked sheet s k [] = printed_state asked s
joined_from asked sheet s k (input ∷ inputs) =
    pick (joins_on s (region_of sheet input)) (joined_from asked sheet (joining s (region_of sheet input).state).state (k + 1) inputs)
    (stops_with asked k (region_of sheet input))

-- What is printed of files, joined from the first on.
unfoldable pub printed_regions : Bool → (sheet input : List ℕ) → (inputs : List (List ℕ)) → List ℕ
printed_regions asked sheet input inputs =
    pick (reports (region_of sheet input)) (joined_from asked sheet (region_of sheet input).state 2 inputs) (printed_for asked (region_of sheet input))

-- one line `(refused N L)` is printed
abbrev pub IsRefusal : List ℕ → Type 0
IsRefusal out = (n : ℕ) × (l : ℕ) × (out ≡ refusal_line n l)

-- the books of files
abbrev pub books_of : (sheet : List ℕ) → List (List ℕ) → List State
books_of sheet inputs = map (λ input. (region_of sheet input).state) inputs

-- no count of the header is short
abbrev pub ReachesCounts : History → Type 0
ReachesCounts h = CountsReached (terms_of h).header (counts_in (lines_taken h))

-- A file of which a report is printed: its history, every line of it fed.
pub record RegionHistory (sheet input : List ℕ) (h : History) : Type 0 where
  pub header : List ℕ
  pub lines : List (List ℕ)
  pub read : lines_of input ≡ header ∷ lines
  pub history : h ≡ all_fed (history_opened sheet header) lines
  pub opened : IsOpened h
  pub reached : ReachesCounts h
  pub state : (region_of sheet input).state ≡ state_given h

-- What is printed where the files before were joined to the book of the history h.
pub data FilesOutcome (asked : Bool) (sheet : List ℕ) : (h : History) (k : ℕ) (inputs : List (List ℕ)) (out : List ℕ) → Type 0 where
  -- No file is left: the report of the joined book, whose counts are reached.
  all_joined : (h : History) (k : ℕ) → ReachesCounts h → FilesOutcome asked sheet h k [] (printed_state asked (state_given h))
  -- The next file prints no report alone: what it prints alone.
  no_report : (h : History) (k : ℕ) (input : List ℕ) (inputs : List (List ℕ)) → reports (region_of sheet input) ≡ false →
      FilesOutcome asked sheet h k (input ∷ inputs) (printed asked sheet input)
  -- A condition of joining it is wanting: (refused 16 k).
  not_joined : (h : History) (k : ℕ) (input : List ℕ) (inputs : List (List ℕ)) (g : History) → RegionHistory sheet input g →
      (MayJoin (state_given h) (state_given g) → ⊥) → FilesOutcome asked sheet h k (input ∷ inputs) (refusal_line 16 k)
  -- It is joined, and the others after it.
  joins : (h : History) (k : ℕ) (input : List ℕ) (inputs : List (List ℕ)) (g : History) (out : List ℕ) → RegionHistory sheet input g →
      MayJoin (state_given h) (state_given g) → FilesOutcome asked sheet (joined h g) (k + 1) inputs out →
      FilesOutcome asked sheet h k (input ∷ inputs) out

pub record Regions : Type 0 where
  -- One file prints what the plain program prints, and so does a first file that prints no report alone.
  pub one : (asked : Bool) (sheet input : List ℕ) → printed_regions asked sheet input [] ≡ printed asked sheet input
  pub first_refused : (asked : Bool) (sheet input : List ℕ) (inputs : List (List ℕ)) → reports (region_of sheet input) ≡ false →
      printed_regions asked sheet input inputs ≡ printed asked sheet input
  -- Such a file prints a refusal alone, of every other a report is printed,
  pub refusal : (asked : Bool) (sheet input : List ℕ) → reports (region_of sheet input) ≡ false → IsRefusal (printed asked sheet input)
  -- and no report is a refusal.
  pub report : (asked : Bool) (s : State) → IsRefusal (printed_state asked s) → ⊥
  -- Else the first file's book is joined with the others in turn.
  pub files : (asked : Bool) (sheet input : List ℕ) (inputs : List (List ℕ)) → reports (region_of sheet input) ≡ true →
      (h : History) × RegionHistory sheet input h × FilesOutcome asked sheet h 2 inputs (printed_regions asked sheet input inputs)
  -- A file that may not be joined is named by its place: by text, the second and the third.
  pub second : (asked : Bool) (sheet one two : List ℕ) (inputs : List (List ℕ)) → reports (region_of sheet one) ≡ true → reports (region_of sheet two) ≡ true →
      (joining (region_of sheet one).state (region_of sheet two).state).refusal ≡ 16 → printed_regions asked sheet one (two ∷ inputs) ≡ text "(refused 16 2)\n"
  pub third : (asked : Bool) (sheet one two three : List ℕ) (inputs : List (List ℕ)) → reports (region_of sheet one) ≡ true →
      joins_on (region_of sheet one).state (region_of sheet two) ≡ true → reports (region_of sheet three) ≡ true →
      (joining (joining (region_of sheet one).state (region_of sheet two).state).state (region_of sheet three).state).refusal ≡ 16 →
      printed_regions asked sheet one (two ∷ three ∷ inputs) ≡ text "(refused 16 3)\n"
  -- The report of a joined book is, byte for byte, what the plain program prints of one file with the added header line and the lines still
  -- standing in both, index lines once and first, in whatever order else.
  pub as_one_file : (asked : Bool) {h k : History} → JoinedBooks h k → ReachesCounts (joined h k) → {first rest : List (List ℕ)} → LinesOfBoth h k first rest →
      (input : List ℕ) → lines_of input ≡ added_header_line h k ∷ (first ++ rest) → printed asked (sheet_of h) input ≡ printed_state asked (state_given (joined h k))
  -- L9: a file whose book changes nothing may stand anywhere among files that print no refusal,
  pub neutral : (asked : Bool) (sheet one z : List ℕ) (before after : List (List ℕ)) → reports (region_of sheet z) ≡ true →
      ChangesNothing (region_of sheet one).state (region_of sheet z).state → (IsRefusal (printed_regions asked sheet one (before ++ after)) → ⊥) →
      printed_regions asked sheet one (before ++ (z ∷ after)) ≡ printed_regions asked sheet one (before ++ after)
  pub neutral_first : (asked : Bool) (sheet one z : List ℕ) (ones : List (List ℕ)) → reports (region_of sheet z) ≡ true →
      ChangesNothing (region_of sheet one).state (region_of sheet z).state → (IsRefusal (printed_regions asked sheet one ones) → ⊥) →
      printed_regions asked sheet z (one ∷ ones) ≡ printed_regions asked sheet one ones
  -- as one with a zero header and the same index values in which every line still standing is an index line.
  pub neutral_lines : (sheet one z : List ℕ) {h k : History} → RegionHistory sheet one h → RegionHistory sheet z k → OnlyIndexLines h k →
      ChangesNothing (region_of sheet one).state (region_of sheet z).state
  -- Two orders of the same files that both print no refusal print the same bytes.
  pub any_order : (asked : Bool) (sheet one other : List ℕ) (ones others : List (List ℕ)) → Permᴰ (one ∷ ones) (other ∷ others) →
      (IsRefusal (printed_regions asked sheet one ones) → ⊥) → (IsRefusal (printed_regions asked sheet other others) → ⊥) →
      printed_regions asked sheet one ones ≡ printed_regions asked sheet other others
  -- Where any order prints no refusal, so does each in which files whose headers count unscored loans come before those whose headers count none,
  -- and the same bytes.
  pub unscored_first : (asked : Bool) (sheet one other : List ℕ) (ones others : List (List ℕ)) → Permᴰ (one ∷ ones) (other ∷ others) →
      (IsRefusal (printed_regions asked sheet one ones) → ⊥) → UnscoredFirst (books_of sheet (other ∷ others)) →
      printed_regions asked sheet one ones ≡ printed_regions asked sheet other others
