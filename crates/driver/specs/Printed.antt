-- What is printed of an input (document 01, "The rest, and closing").
use Rattle.std.specs.Prelude.{ℕ, ◌+◌, Bool, List, [], ◌∷◌, ◌++◌, ◌≡◌, eqb}
use Rattle.exact.specs.Choice.{pick}
use Rattle.report.specs.Line.{refusal_line, Written}
use Rattle.book_model.specs.Calls.{State, opening, feeding}
use Rattle.line_bytes.specs.LineBytes.{newline}
use Rattle.printing.specs.AtEnd.{printed_at_end, printed_with}
use Rattle.driver.specs.Reading.{Stage, Reading, from_start, with_line, with_bytes}

-- the end of the input ends a line that has bytes
unfoldable pub last_of : List ℕ → List (List ℕ)
last_of [] = []
last_of (byte ∷ line) = (byte ∷ line) ∷ []

-- the lines of an input of which `line` was read before: a newline ends a line, and at the very end begins no further one
unfoldable pub lines_from : List ℕ → List ℕ → List (List ℕ)
lines_from line [] = last_of line
lines_from line (byte ∷ bytes) =
    pick (eqb byte newline) (line ∷ lines_from [] bytes) (lines_from (line ++ (byte ∷ [])) bytes)

abbrev pub lines_of : List ℕ → List (List ℕ)
lines_of input = lines_from [] input

-- lines fed in turn to a book, the first of this number
unfoldable pub printed_feeding : Bool → State → ℕ → List (List ℕ) → List ℕ
printed_feeding asked s number [] = printed_at_end asked s.book s.cells number
printed_feeding asked s number (line ∷ lines) =
    pick (eqb (feeding s line).refusal 0) (printed_feeding asked (feeding s line).state (number + 1) lines)
    (refusal_line (feeding s line).refusal number)

-- the lines of an input, the first of them the header, under a sheet of factors
unfoldable pub printed_lines : Bool → (sheet : List ℕ) → List (List ℕ) → List ℕ
printed_lines asked sheet [] = refusal_line 2 1
printed_lines asked sheet (header ∷ lines) =
    pick (eqb (opening sheet header).refusal 0) (printed_feeding asked (opening sheet header).state 2 lines)
    (refusal_line (opening sheet header).refusal 1)

abbrev pub printed : (asked : Bool) → (sheet input : List ℕ) → List ℕ
printed asked sheet input = printed_lines asked sheet (lines_of input)

-- what is printed where the lines end
abbrev pub printed_for : Bool → Stage → List ℕ
printed_for asked p = printed_with asked p.refusal p.number p.state.book p.state.cells

-- a line not ended by a newline is ended by the end of the input
unfoldable pub ended_with : Stage → List ℕ → Stage
ended_with p [] = p
ended_with p (byte ∷ line) = with_line p (byte ∷ line)

abbrev pub ended : Reading → Stage
ended s = ended_with s.stage s.tail

-- Of whatever input this is the reading, what is printed of it is written to the buffer, and its length told.
abbrev pub PrintsWhole : (asked : Bool) → Reading → (before : List ℕ) → (told : ℕ) → (after : List ℕ) → Type 0
PrintsWhole asked s before told after =
    (sheet input : List ℕ) → s ≡ with_bytes (from_start sheet) input → Written before (printed asked sheet input) told after
