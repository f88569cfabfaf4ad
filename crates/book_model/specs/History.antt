-- What was handed to the calls: no answers and nothing of a book.
use Rattle.std.specs.Prelude.{ℕ, List, [], ◌∷◌, map}
use Rattle.line_forms.specs.Claims.{line_content}
use Rattle.line_forms.specs.Readings.{line_of, header_of}
use Rattle.figures.specs.declared.Sums.{Sums}
use Rattle.figures.specs.Sums.{sum_of}
use Rattle.book_model.specs.Accepted.{Accepted, none_accepted, accept}
use Rattle.book_model.specs.Share.{share}
use Rattle.book_model.specs.Terms.{Terms, Basis, basis_of, terms_for}

pub data History : Type 0 where
  opened : (sheet header : List ℕ) → History
  fed : History → (line : List ℕ) → History

-- the line that its opening was handed
unfoldable pub header_line : History → List ℕ
header_line (opened sheet header) = header
header_line (fed h line) = header_line h

-- the sheet of factors lent at its opening, built_in_sheet for an opening without one (02, L3)
unfoldable pub sheet_of : History → List ℕ
sheet_of (opened sheet header) = sheet
sheet_of (fed h line) = sheet_of h

-- what the book was opened under
unfoldable pub terms_of : History → Terms
terms_of (opened sheet header) = terms_for sheet (header_of header)
terms_of (fed h line) = terms_of h

-- document 01's ledger
unfoldable pub accepted_of : History → Accepted
accepted_of (opened sheet header) = none_accepted
accepted_of (fed h line) = accept (terms_of h) (accepted_of h) line

-- 01: the lines taken
abbrev pub lines_taken : History → List (List ℕ)
lines_taken h = (accepted_of h).kept

-- a list of lines fed in turn
unfoldable pub all_fed : History → List (List ℕ) → History
all_fed h [] = h
all_fed h (line ∷ lines) = all_fed (fed h line) lines

-- the sums of lines that are charged by g
unfoldable pub sums_by : Basis → List (List ℕ) → Sums
sums_by g kept = sum_of (map (λ s. share g (line_content (line_of s))) kept)

-- under terms, by the index values that are among the lines
abbrev pub sums_of : Terms → List (List ℕ) → Sums
sums_of t kept = sums_by (basis_of t kept) kept
