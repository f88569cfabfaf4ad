-- The words after the program's name: `cells`, `sheet` with a word after it, which names a file, each at most once, in either order; and last
-- `join`, after which all words name files.
use Rattle.std.specs.Prelude.{ℕ, Some, None, IfSome, is_none, ◌+◌, ◌≤◌, ◌<◌, Bool, true, false, not, ◌&&◌, List, ◌≡◌}
use Rattle.exact.specs.Choice.{pick}
use Rattle.exact.specs.Text.{text}
use Rattle.line_forms.specs.Bytes.{same}
use Rattle.capital.specs.declared.Words.{Words}

-- the table of cells is asked for by one word,
abbrev pub with_cells : Words → Words
with_cells w = record { cells = true; sheet = w.sheet; files = w.files; next = w.next + 1 }

-- a sheet by two, of which the second names its file,
abbrev pub with_sheet : Words → Words
with_sheet w = record { cells = w.cells; sheet = Some (w.next + 1); files = w.files; next = w.next + 2 }

-- and books to be joined by one, after which the first file stands.
abbrev pub with_files : Words → Words
with_files w = record { cells = w.cells; sheet = w.sheet; files = Some (w.next + 1); next = w.next + 1 }

-- one word more, `more` where another follows it
unfoldable pub with_word : Words → (word : List ℕ) → (more : Bool) → Words
with_word w word more =
    pick (is_none w.files)
    (pick (same word (text "cells") && not w.cells) (with_cells w)
    (pick ((same word (text "sheet") && is_none w.sheet) && more) (with_sheet w) (pick (same word (text "join") && more) (with_files w) w)))
    w

-- the first file to be joined, where one is asked for, is among so many arguments
abbrev pub FilesNamed : Words → (arguments : ℕ) → Type 0
FilesNamed w arguments = IfSome w.files (λ from. (1 ≤ from) × (from < arguments))

-- The words by their cases: a word that asks for nothing is not understood, and `next` stays at it.
pub record CommandWords : Type 0 where
  pub cells : (w : Words) (more : Bool) → w.files ≡ None → w.cells ≡ false → with_word w (text "cells") more ≡ with_cells w
  pub cells_again : (w : Words) (more : Bool) → w.cells ≡ true → with_word w (text "cells") more ≡ w
  pub sheet : (w : Words) → w.files ≡ None → w.sheet ≡ None → with_word w (text "sheet") true ≡ with_sheet w
  pub sheet_again : (w : Words) (more : Bool) → (w.sheet ≡ None → ⊥) → with_word w (text "sheet") more ≡ w
  pub sheet_last : (w : Words) → with_word w (text "sheet") false ≡ w
  pub join : (w : Words) → w.files ≡ None → with_word w (text "join") true ≡ with_files w
  pub join_last : (w : Words) → with_word w (text "join") false ≡ w
  -- What follows `join` is no word.
  pub after_join : (w : Words) (word : List ℕ) (more : Bool) → (w.files ≡ None → ⊥) → with_word w word more ≡ w
  pub other : (w : Words) (word : List ℕ) (more : Bool) → (word ≡ text "cells" → ⊥) → (word ≡ text "sheet" → ⊥) → (word ≡ text "join" → ⊥) →
      with_word w word more ≡ w
