-- Need not be believed: NumberList.antt says what reading comes to. The steps of reading, from a position of the bytes on.
use Rattle.std.specs.Prelude.{ℕ, ◌+◌, Bool, ◌||◌, List, ltb, eqb, length, get_or, set}
use Rattle.exact.specs.Choice.{pick}
use Rattle.line_forms.specs.Bytes.{past}
use Rattle.sheet_file.specs.NumberList.{most}

-- a space or a newline
abbrev pub separates : ℕ → Bool
separates b = eqb b 32 || eqb b 10

-- the position after a separator; where the bytes have ended none is needed, and past the end is where another byte stands
unfoldable pub after_separator_lem : List ℕ → ℕ → ℕ
after_separator_lem s at = pick (ltb at (length s)) (pick (separates (get_or s at 0)) (at + 1) (past s)) at

-- a number put after the first `count` of a list where there is room, and how many then are there
abbrev pub put_after : List ℕ → (count n : ℕ) → List ℕ
put_after out count n = pick (ltb count most) (set out count n) out

abbrev pub count_after : ℕ → ℕ
count_after count = pick (ltb count most) (count + 1) count
