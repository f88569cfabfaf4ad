-- What opening answers, case by case: all that other proofs use of its definition. Assumes nothing.
use mathlib.Core.Path.{◌≡◌, refl, ap}
use mathlib.Core.Bool.{Bool, true, false}
use mathlib.Core.List.{List}
use Prim.Native.Nat.{ℕ}
use Rattle.sheet.specs.Sheet.{sheet_passes}
use Rattle.line_forms.specs.declared.Header.{Header}
use Rattle.line_forms.specs.declared.refusal.Refusal.{Refusal as Reason}
use Rattle.std.specs.Prelude.{Result, Ok, Err}
use Rattle.book_model.specs.Calls.{Answer, empty_state, opening_refusal, opening_for}
use Rattle.book_model.specs.Terms.{under_sheet, refused_terms, terms_for}
use Rattle.line_forms.specs.Refusals.{number_of}

-- the number of an answer
pub number : {a b : Answer} → a ≡ b → a.refusal ≡ b.refusal
number e = ap (λ (x : Answer). x.refusal) e

-- a book under the sheet
abbrev pub opened_under : (sheet : List ℕ) → Header → Answer
opened_under sheet h = record { refusal = 0; state = empty_state (under_sheet h sheet) }

-- a refusal, with the value that stands
abbrev pub refused_with : ℕ → Answer
refused_with n = record { refusal = n; state = empty_state refused_terms }

pub sheet-passes : (sheet : List ℕ) (h : Header) → sheet_passes sheet ≡ true → opening_for sheet (Ok h) ≡ opened_under sheet h
unfolding opening_refusal terms_for
sheet-passes sheet h e = rw e refl

pub sheet-fails : (sheet : List ℕ) (h : Header) → sheet_passes sheet ≡ false → opening_for sheet (Ok h) ≡ refused_with 10
unfolding opening_refusal terms_for
sheet-fails sheet h e = rw e refl

pub header-fails : (sheet : List ℕ) (q : Reason) → opening_for sheet (Err q) ≡ refused_with (number_of q)
unfolding opening_refusal terms_for
header-fails sheet q = refl

-- one of the three
pub data Case (sheet : List ℕ) : Result Header Reason → Type 0 where
  book_opens : (h : Header) → sheet_passes sheet ≡ true → Case sheet (Ok h)
  sheet_refused : (h : Header) → sheet_passes sheet ≡ false → Case sheet (Ok h)
  header_refused : (q : Reason) → Case sheet (Err q)

pub case_of : (sheet : List ℕ) (l : Result Header Reason) → Case sheet l
case_of sheet (Ok h) = go (sheet_passes sheet) refl
  where
    go : (t : Bool) → sheet_passes sheet ≡ t → Case sheet (Ok h)
    go true e = book_opens h e
    go false e = sheet_refused h e
case_of sheet (Err q) = header_refused q
