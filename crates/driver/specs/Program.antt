-- What the program prints of every input, in the words of demands 2 and 3. `printed` is what its reading and finishing write
-- (contract of `finish`); proved in proofs/Program.antt.
use Rattle.std.specs.Prelude.{ℕ, ◌+◌, ◌<◌, ◌≡◌, Bool, false, ◌⊎◌, length, take, get_or}
use mathlib.Core.List.{List, [], ◌∷◌, ◌++◌, Memᴰ, Permᴰ}
use Rattle.exact.specs.Text.{text}
use Rattle.report.specs.Line.{refusal_line}
use Rattle.loan_charge.specs.CreditFactor.{built_in_sheet}
use Rattle.line_forms.specs.declared.MarkLine.{MarkLine}
use Rattle.line_forms.specs.declared.Content.{Content}
use Rattle.line_forms.specs.declared.Content.TheVariants.{Mark as mark}
use Rattle.line_forms.specs.Claims.{ShowsInRange}
use Rattle.book_model.specs.Accepted.{Accepted, counts_in}
use Rattle.book_model.specs.Calls.{opening}
use Rattle.book_model.specs.Demand2.{OpeningAnswer, Fits, FeedingAnswer, CountsShort, CountsReached}
use Rattle.book_model.specs.Demand3.{report_for, Measured}
use Rattle.book_model.specs.Examples.{worked_report}
use Rattle.book_model.specs.History.{opened, all_fed, terms_of, accepted_of, lines_taken}
use Rattle.book_model.specs.LoanTable.{cells_for, CellSums}
use Rattle.printing.specs.AtEnd.{with_table}
use Rattle.driver.specs.Printed.{lines_of, printed}
use Rattle.driver.specs.Reading.{Reading, from_start, with_bytes}

-- The ledger after these lines, and the lines that it keeps: those still standing (02, L6).
abbrev pub ledger_after : (sheet header : List ℕ) → (lines : List (List ℕ)) → Accepted
ledger_after sheet header lines = accepted_of (all_fed (opened sheet header) lines)

abbrev pub standing : (sheet header : List ℕ) → (lines : List (List ℕ)) → List (List ℕ)
standing sheet header lines = lines_taken (all_fed (opened sheet header) lines)

-- The header line opens a book under the sheet, and every line after it, marks and returns among them, has a form and range and fits where
-- the ledger is that of the lines before it.
pub record AllTaken (sheet header : List ℕ) (lines : List (List ℕ)) : Type 0 where
  pub opens : (opening sheet header).refusal ≡ 0
  pub taken : (n : ℕ) → n < length lines →
      (c : Content) × ShowsInRange (get_or lines n []) c × Fits (terms_of (opened sheet header)).header (ledger_after sheet header (take n lines)) c

-- What is printed of lines, the first of them the header, under a sheet of factors, where the table of cells is asked for or not.
pub data Outcome (asked : Bool) (sheet : List ℕ) : (lines : List (List ℕ)) (out : List ℕ) → Type 0 where
  -- Empty input prints (refused 2 1).
  no_line : Outcome asked sheet [] (refusal_line 2 1)
  -- The header line is refused with n, or n is 10 for the sheet: (refused n 1).
  not_opened : (header : List ℕ) (lines : List (List ℕ)) (n : ℕ) → (n ≡ 0 → ⊥) → (opening sheet header).refusal ≡ n →
      OpeningAnswer sheet header (opening sheet header) → Outcome asked sheet (header ∷ lines) (refusal_line n 1)
  -- All lines before it are taken and this one is refused with n: (refused n L), L its number.
  not_taken : (header : List ℕ) (before : List (List ℕ)) (line : List ℕ) (others : List (List ℕ)) (n : ℕ) → (n ≡ 0 → ⊥) → AllTaken sheet header before →
      FeedingAnswer (terms_of (opened sheet header)) (ledger_after sheet header before) line n →
      Outcome asked sheet (header ∷ (before ++ (line ∷ others))) (refusal_line n (2 + length before))
  -- All lines are taken and too few of those still standing are loans, loans without a score or loans with a fresh one: (refused 6 L), L the
  -- number after the last line.
  too_few : (header : List ℕ) (lines : List (List ℕ)) → AllTaken sheet header lines →
      CountsShort (terms_of (opened sheet header)).header (counts_in (standing sheet header lines)) →
      Outcome asked sheet (header ∷ lines) (refusal_line 6 (2 + length lines))
  -- All lines are taken and as many loans of each sort stand as the header counts: the report of the lines still standing, whose required amount is
  -- never below their exact requirement and less than the allowance above it, and whose total and supplement add each loan's two numbers, as
  -- near the exact ones as 02, L7 asks; and after it, where that is asked for, the 60 lines of the table, whose counts and charges sum to the
  -- report's loans and total.
  report : (header : List ℕ) (lines : List (List ℕ)) → AllTaken sheet header lines →
      CountsReached (terms_of (opened sheet header)).header (counts_in (standing sheet header lines)) →
      Measured (terms_of (opened sheet header)) (standing sheet header lines) → CellSums (terms_of (opened sheet header)) (standing sheet header lines) →
      Outcome asked sheet (header ∷ lines)
      (with_table asked (report_for (terms_of (opened sheet header)) (standing sheet header lines))
      (cells_for (terms_of (opened sheet header)) (standing sheet header lines)))

-- An input that prints a report.
pub record Reports (sheet header : List ℕ) (lines : List (List ℕ)) : Type 0 where
  pub all : AllTaken sheet header lines
  pub reached : CountsReached (terms_of (opened sheet header)).header (counts_in (standing sheet header lines))

-- From here on more input changes nothing: a line was refused, or the line being read has over 240 bytes.
abbrev pub Settled : Reading → Type 0
Settled s = (s.stage.refusal ≡ 0 → ⊥) ⊎ (240 < length s.tail)

-- the worked input, in which every line ends in a newline
abbrev pub worked_input : List ℕ
worked_input =
    text "(book (loans 0) (unscored 0) (fresh 0) (held 0))\n(asset (amount 100000) (factor 25))\n(claims 1001)\n(equity 1000)\n(c 100)\n"

pub record Program : Type 0 where
  pub prints : (asked : Bool) (sheet input : List ℕ) → Outcome asked sheet (lines_of input) (printed asked sheet input)
  -- Under the same sheet two inputs with the same held and the same lines still standing in whatever order, whatever marks and returns led
  -- there, that both print a report have the same header line, since the lines decide its counts (02, L5), and print the same bytes.
  pub alike : (asked : Bool) (sheet header other : List ℕ) (lines others : List (List ℕ)) (x y : List ℕ) →
      lines_of x ≡ header ∷ lines → lines_of y ≡ other ∷ others →
      (terms_of (opened sheet header)).header.held ≡ (terms_of (opened sheet other)).header.held →
      Reports sheet header lines → Reports sheet other others → Permᴰ (standing sheet header lines) (standing sheet other others) →
      (header ≡ other) × (printed asked sheet x ≡ printed asked sheet y)
  -- Lines that are all taken and of which none is a mark or a return are all standing, in their order.
  pub unmarked : (sheet header : List ℕ) (lines : List (List ℕ)) → AllTaken sheet header lines →
      ((s : List ℕ) → Memᴰ s lines → (m : MarkLine) → ShowsInRange s (mark m) → ⊥) → standing sheet header lines ≡ lines
  -- The program may stop reading there.
  pub stops : (asked : Bool) (sheet input more : List ℕ) → Settled (with_bytes (from_start sheet) input) →
      printed asked sheet (input ++ more) ≡ printed asked sheet input
  -- 01: "Empty input prints `(refused 2 1)`", as text.
  pub empty : (asked : Bool) (sheet : List ℕ) → printed asked sheet [] ≡ text "(refused 2 1)\n"
  -- Document 01's worked input prints its report, and nothing else where no table is asked for.
  pub worked : printed false built_in_sheet worked_input ≡ worked_report
