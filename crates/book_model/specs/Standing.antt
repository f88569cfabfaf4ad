-- 02, L6: marks, returns and the lines still standing. Proved in proofs/Standing.antt, and through the calls themselves in the crate histories.
use Rattle.std.specs.Prelude.{ℕ, ◌≤◌, ◌<◌, ◌≡◌, true, false, List, [], ◌++◌, length, get_or}
use Rattle.line_forms.specs.declared.Content.TheVariants.{Mark as mark}
use Rattle.line_forms.specs.Claims.{ShowsInRange}
use Rattle.book_model.specs.Accepted.{Note, no_note}
use Rattle.book_model.specs.Calls.{State, opening, feeding}
use Rattle.book_model.specs.Demand3.{after_lines}
use Rattle.book_model.specs.History.{History, opened, fed, all_fed, header_line, sheet_of, accepted_of, lines_taken}

-- s is the line `(mark NAME)`, or the line `(back NAME)`, of the name with this number
abbrev pub Marks : (s : List ℕ) → (name : ℕ) → Type 0
Marks s name = ShowsInRange s (mark (record { back = false; name = name }))

abbrev pub Returns : (s : List ℕ) → (name : ℕ) → Type 0
Returns s name = ShowsInRange s (mark (record { back = true; name = name }))

-- the same book, but for the marks kept beside it: sums, counts, cells and index values
pub record SameBook (s u : State) : Type 0 where
  pub book : s.book ≡ u.book
  pub rates : s.rates ≡ u.rates
  pub cells : s.cells ≡ u.cells
  pub index : s.index ≡ u.index

-- a book opened alike, and fed only the lines still standing
abbrev pub standing_alone : History → History
standing_alone past = all_fed (opened (sheet_of past) (header_line past)) (lines_taken past)

pub record Standing : Type 0 where
  -- The lines still standing, fed alone, are all taken again, in their order, and no mark is kept;
  pub alone : (past : History) → accepted_of (standing_alone past) ≡ record { kept = lines_taken past; notes = [] }
  -- they give the same book as the lines that led there: so the report of the lines still standing is the one that they give by themselves.
  pub alone_book : (sheet header : List ℕ) (lines : List (List ℕ)) →
      SameBook (after_lines (opening sheet header).state (lines_taken (all_fed (opened sheet header) lines))) (after_lines (opening sheet header).state lines)
  -- At most eight marks are kept, no two of them under one name.
  pub most : (past : History) → length (accepted_of past).notes ≤ 8
  pub distinct : (past : History) (i j : ℕ) → i < j → j < length (accepted_of past).notes →
      (get_or (accepted_of past).notes i no_note).name ≡ (get_or (accepted_of past).notes j no_note).name → ⊥
  -- A mark that is taken leaves the book as it is.
  pub marks : (s : State) (line : List ℕ) (name : ℕ) → Marks line name → SameBook (feeding s line).state s
  -- Whatever is fed after it, refused or not, a return to it is taken and makes book and marks as they were, as long as the mark is kept:
  -- no line in between returned to one set before it.
  pub again : (sheet header : List ℕ) (before between : List (List ℕ)) (line back : List ℕ) (name : ℕ) (more : List Note) → Marks line name →
      Returns back name →
      (feeding (after_lines (opening sheet header).state before) line).refusal ≡ 0 →
      (accepted_of (all_fed (fed (all_fed (opened sheet header) before) line) between)).notes ≡
      (accepted_of (fed (all_fed (opened sheet header) before) line)).notes ++ more →
      feeding (after_lines (feeding (after_lines (opening sheet header).state before) line).state between) back ≡
      record { refusal = 0; state = (feeding (after_lines (opening sheet header).state before) line).state }
