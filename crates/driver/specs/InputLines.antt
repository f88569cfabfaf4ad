-- 01: "A line ends at a newline or at the end of the input; a newline at the very end begins no further line", said of the lines of an input without
-- a reader: no line has a newline, and with one after each they are the input, but for a last line of one byte or more that the end of the input ends.
use Rattle.std.specs.Prelude.{ℕ, true, ◌⊎◌, ◌≡◌}
use mathlib.Core.List.{List, [], ◌∷◌, ◌++◌, Memᴰ}
use Rattle.line_bytes.specs.LineBytes.{newline, unbroken}
use Rattle.driver.specs.Printed.{lines_of}

-- lines with a newline after each
unfoldable pub with_newlines : List (List ℕ) → List ℕ
with_newlines [] = []
with_newlines (s ∷ lines) = s ++ (newline ∷ with_newlines lines)

-- the last line has no newline
pub record EndsOpen (lines : List (List ℕ)) (input : List ℕ) : Type 0 where
  pub before : List (List ℕ)
  pub byte : ℕ
  pub rest : List ℕ
  pub lines_are : lines ≡ before ++ ((byte ∷ rest) ∷ [])
  pub input_is : with_newlines before ++ (byte ∷ rest) ≡ input

pub record InputLines : Type 0 where
  pub unended : (input s : List ℕ) → Memᴰ s (lines_of input) → unbroken s ≡ true
  pub whole : (input : List ℕ) → (with_newlines (lines_of input) ≡ input) ⊎ EndsOpen (lines_of input) input
