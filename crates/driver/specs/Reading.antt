-- Reading a book from an input of bytes, as one function of a byte after the other: so it does not matter where reads cut the input.
use Rattle.std.specs.Prelude.{ℕ, ◌+◌, ◌≤◌, ◌≡◌, true, List, [], ◌∷◌, eqb}
use Rattle.exact.specs.Choice.{pick}
use Rattle.book_model.specs.Calls.{State, Answer, told, empty_state, opening, feeding, Sound}
use Rattle.book_model.specs.Terms.{refused_terms}
use Rattle.line_bytes.specs.LineBytes.{newline, unbroken, with_tail}
use Rattle.driver.specs.declared.Progress.{Progress}
use Rattle.driver.specs.declared.Run.{Run}

-- What the lines read so far gave: the refusal, 0 for none, the number of the line to be read or of the refused one, and the book;
-- and the sheet of factors under which the first line opens it.
pub record Stage : Type 0 where
  pub refusal : ℕ
  pub number : ℕ
  pub sheet : List ℕ
  pub state : State

-- before any byte: line 1 is to be read
abbrev pub at_start : (sheet : List ℕ) → Stage
at_start sheet = record { refusal = 0; number = 1; sheet = sheet; state = empty_state refused_terms }

-- after a line of this number that got this answer: the next line is read, or the refused one stays
abbrev pub after : Answer → (number : ℕ) → (sheet : List ℕ) → Stage
after a number sheet =
    record { refusal = a.refusal; number = pick (eqb a.refusal 0) (number + 1) number; sheet = sheet; state = a.state }

-- A line is read: the first opens the book, any other is fed. After a refusal nothing more is.
unfoldable pub with_line : Stage → List ℕ → Stage
with_line p line =
    pick (eqb p.refusal 0) (after (pick (eqb p.number 1) (opening p.sheet line) (feeding p.state line)) p.number p.sheet) p

-- what is read, and the bytes of a line not yet ended
pub record Reading : Type 0 where
  pub stage : Stage
  pub tail : List ℕ

abbrev pub from_start : (sheet : List ℕ) → Reading
from_start sheet = record { stage = at_start sheet; tail = [] }

-- A newline ends the line; any other byte is added to it.
unfoldable pub with_byte : Reading → ℕ → Reading
with_byte s byte =
    pick (eqb byte newline) (record { stage = with_line s.stage s.tail; tail = [] })
    (record { stage = s.stage; tail = with_tail s.tail (byte ∷ []) })

-- the bytes of an input in turn
unfoldable pub with_bytes : Reading → List ℕ → Reading
with_bytes s [] = s
with_bytes s (byte ∷ bytes) = with_bytes (with_byte s byte) bytes

-- The code's structs: what they stand for, with the open book lent beside them.

abbrev pub stage_at : Progress → (sheet : List ℕ) → State → Stage
stage_at p sheet s = record { refusal = told p.answer; number = p.number; sheet = sheet; state = s }

abbrev pub reading_of : Run → (sheet : List ℕ) → State → Reading
reading_of r sheet s = record { stage = stage_at r.progress sheet s; tail = r.tail }

-- It is at the start, whatever sheet the first line will open a book under.
abbrev pub AtStart : Run → State → Type 0
AtStart r s = (sheet : List ℕ) → reading_of r sheet s ≡ from_start sheet

-- What every run assures: its book is sound, each line read had a byte that ended it, and no byte that is held ends a line.
pub record Running (r : Run) (s : State) : Type 0 where
  pub sound : Sound s
  pub number : r.progress.number ≤ 1 + r.read
  pub unended : unbroken r.tail ≡ true
