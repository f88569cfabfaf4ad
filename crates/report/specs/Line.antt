-- A printed line, and text written into a buffer.
use Rattle.std.specs.Prelude.{ℕ, suc, ◌+◌, ◌≡◌, List, [], ◌∷◌, ◌++◌, eqb, length, take, drop}
use Rattle.exact.specs.Choice.{pick}
use Rattle.exact.specs.Text.{text}
use Rattle.report.specs.Decimal.{digits}

-- fields, each after a space
abbrev pub spaced : List (List ℕ) → List ℕ
spaced [] = []
spaced (w ∷ ws) = text " " ++ w ++ spaced ws

-- a line: its name and its fields in parentheses, and a newline
abbrev pub line : List ℕ → List (List ℕ) → List ℕ
line name fields = text "(" ++ name ++ spaced fields ++ text ")\n"

-- 01: `(refused N L)`
abbrev pub refusal_line : ℕ → ℕ → List ℕ
refusal_line refusal number = line (text "refused") (digits refusal ∷ digits number ∷ [])

-- how many lines a text has that end in it
unfoldable pub line_count : List ℕ → ℕ
line_count [] = 0
line_count (byte ∷ bytes) = pick (eqb byte 10) (suc (line_count bytes)) (line_count bytes)

-- the buffer `old` with t written from its start; the bytes after t stay
unfoldable pub onto : List ℕ → List ℕ → List ℕ
onto old t = t ++ drop (length t) old

-- what a writer promises: it wrote t from the start of the buffer `old`, which is now `new`, and told how many bytes
pub record Written (old t : List ℕ) (told : ℕ) (new : List ℕ) : Type 0 where
  pub count : told ≡ length t
  pub bytes : new ≡ onto old t

-- the same of a writer that goes on after the first `at` bytes, which stay, and tells how many bytes there are then
pub record Added (old : List ℕ) (at : ℕ) (t : List ℕ) (told : ℕ) (new : List ℕ) : Type 0 where
  pub count : told ≡ at + length t
  pub bytes : new ≡ take at old ++ onto (drop at old) t
