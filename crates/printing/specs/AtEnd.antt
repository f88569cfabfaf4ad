-- What is printed where the lines end (document 01, "The rest, and closing").
use Rattle.std.specs.Prelude.{ℕ, Bool, List, ◌++◌, eqb}
use Rattle.exact.specs.Choice.{pick}
use Rattle.report.specs.Line.{refusal_line}
use Rattle.book_model.specs.declared.Book.{Book}
use Rattle.book_model.specs.Calls.{lacks_lines, report_of, cells_text_of}

-- a report, with the table of cells after it where that is asked for
abbrev pub with_table : (asked : Bool) → (report table : List ℕ) → List ℕ
with_table asked report table = pick asked (report ++ table) report

-- at the end of the lines, of which the next would have this number
unfoldable pub printed_at_end : Bool → Book → (cells : List ℕ) → ℕ → List ℕ
printed_at_end asked b cells number =
    pick (lacks_lines b.header b.sums.counts) (refusal_line 6 number) (with_table asked (report_of b) (cells_text_of cells))

-- of the refusal, 0 for none, the number of the line to be read or of the refused one, and the book
unfoldable pub printed_with : Bool → (refusal number : ℕ) → Book → (cells : List ℕ) → List ℕ
printed_with asked refusal number b cells =
    pick (eqb refusal 0) (pick (eqb number 1) (refusal_line 2 1) (printed_at_end asked b cells number)) (refusal_line refusal number)
