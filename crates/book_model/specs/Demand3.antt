-- Demand 3: one claim about the whole list of lines. Over the definitions that the contracts equate with the calls (Calls.antt);
-- proved with no hypothesis in proofs/Demand3.antt, and through the calls themselves in the crate histories.
use Rattle.std.specs.Prelude.{ℕ, ◌+◌, ◌*◌, ◌≡◌, true, false, ◌↔◌, length, take}
use mathlib.Core.List.{List, [], ◌∷◌, ◌++◌, Memᴰ, Permᴰ}
use Rattle.exact.specs.Fraction.{Fraction, quotient, whole, ceiling, ◌⊕◌, ◌⊗◌, ◌≼◌, ◌≺◌}
use Rattle.exact.specs.Quantity.{Determined, AtMost, ExceedsByLess, AtEveryOrder, SomeAllowed}
use Rattle.exact.specs.Text.{text}
use Rattle.loan_charge.specs.declared.charge.LoanCharge.{LoanCharge}
use Rattle.loan_charge.specs.Promise.{signed_cents, tolerance, Promised}
use Rattle.line_forms.specs.declared.Loan.{Loan}
use Rattle.line_forms.specs.declared.Content.TheVariants.{Loan as loan, Mark as mark}
use Rattle.line_forms.specs.Claims.{ShowsInRange, line_content}
use Rattle.line_forms.specs.Readings.{line_of}
use Rattle.figures.specs.declared.Figures.{Figures}
use Rattle.figures.specs.Figures.{figures_from}
use Rattle.figures.specs.Sums.{zero_signed}
use Rattle.report.specs.Decimal.{digits, value_of, signed}
use Rattle.report.specs.Line.{line, line_count, onto}
use Rattle.book_report.specs.Report.{report_text}
use Rattle.book_model.specs.declared.Book.{Book}
use Rattle.book_model.specs.Accepted.{Note, Accepted, counts_in, refusal_of, accept}
use Rattle.book_model.specs.Calls.{Closed, State, opening, feeding, closing, closed, closing_refusal_lem, report_size}
use Rattle.book_model.specs.Exact.{loan_total, loan_supplement, exact_rest, exact_moved, total_by, supplement_by, requirement}
use Rattle.book_model.specs.History.{opened, all_fed, terms_of, accepted_of, lines_taken, sums_of}
use Rattle.book_model.specs.Share.{share}
use Rattle.book_model.specs.Terms.{Terms, Basis, basis_of}

-- The report computed from the header and the lines taken: the exact rest and moved are rounded up once.
unfoldable pub figures_for : Terms → List (List ℕ) → Figures
figures_for t kept =
    figures_from t.header.held (ceiling (exact_rest (basis_of t kept) kept)) (ceiling (exact_moved (basis_of t kept) kept)) (sums_of t kept)

unfoldable pub report_for : Terms → List (List ℕ) → List ℕ
report_for t kept = report_text (figures_for t kept)

-- the state that a list of lines gives, each fed to the state that the call before gave back
unfoldable pub after_lines : State → List (List ℕ) → State
after_lines s [] = s
after_lines s (line ∷ lines) = after_lines (feeding s line).state lines

-- In hundredths of a cent: one and a half cents for each loan (02, L7; 00 asked for 3), and 3 cents once.
abbrev pub hundredths_per_loan : ℕ
hundredths_per_loan = 150

abbrev pub hundredths_once : ℕ
hundredths_once = 300

abbrev pub allowance : ℕ → Fraction
allowance loans = quotient (hundredths_per_loan * loans + hundredths_once) 100

-- What a closing does that writes a text where `least` bytes are asked and the lines `a` are taken under terms t: `answer` is what it
-- answers by the buffer's size, `left` the buffer as it leaves it.
pub record Writes (least : ℕ) (t : Terms) (a : Accepted) (text : List ℕ) (answer : ℕ → Closed) (left : List ℕ → List ℕ) : Type 0 where
  -- It is refused exactly by 6 or 9, where 6 counts the lines taken;
  pub refusal : (size : ℕ) → (answer size).refusal ≡ closing_refusal_lem least t.header (counts_in a.kept) size
  -- refused, it leaves every byte as it was; any other writes the text and tells its length.
  pub untouched : (buffer : List ℕ) → ((answer (length buffer)).refusal ≡ 0 → ⊥) → left buffer ≡ buffer
  pub written : (buffer : List ℕ) → (answer (length buffer)).refusal ≡ 0 → left buffer ≡ onto buffer text
  pub told : (size : ℕ) → (answer size).refusal ≡ 0 → (answer size).length ≡ length text

-- What the ledger does with a line that feeding takes: it adds the line; or at a mark notes its list under the name; or at a return takes
-- up again the list noted under that name, and drops the marks set after that one (02, L6).
pub data LedgerTakes (t : Terms) (a : Accepted) (line : List ℕ) : Type 0 where
  adds : accept t a line ≡ record { kept = a.kept ++ (line ∷ []); notes = a.notes } → LedgerTakes t a line
  notes : (name : ℕ) → ShowsInRange line (mark (record { back = false; name = name })) →
      accept t a line ≡ record { kept = a.kept; notes = a.notes ++ (record { name = name; list = a.kept } ∷ []) } → LedgerTakes t a line
  returns : (before : List Note) (note : Note) (after : List Note) → ShowsInRange line (mark (record { back = true; name = note.name })) →
      a.notes ≡ before ++ (note ∷ after) → accept t a line ≡ record { kept = note.list; notes = before ++ (note ∷ []) } → LedgerTakes t a line

-- What holds of a state under terms t with the lines `a` taken.
pub record Closes (t : Terms) (a : Accepted) (s : State) : Type 0 where
  -- The next feeding answers what the accepted lines say.
  pub answers : (line : List ℕ) → (feeding s line).refusal ≡ refusal_of t a line
  -- It takes a line exactly when the ledger adds it, notes its list under it or returns by it; any other leaves the ledger as it is.
  pub taken : (line : List ℕ) → ((feeding s line).refusal ≡ 0) ↔ LedgerTakes t a line
  pub left : (line : List ℕ) → ((feeding s line).refusal ≡ 0 → ⊥) → accept t a line ≡ a
  -- Closing writes the report of the lines taken.
  pub report : Writes report_size t a (report_for t a.kept) (closing s.book) (closed s.book)

-- the two numbers that a line charged by g adds to total and supplement
abbrev pub two_numbers : Basis → List ℕ → LoanCharge
two_numbers g s = record { total = (share g (line_content (line_of s))).total; supplement = (share g (line_content (line_of s))).supplement }

-- What holds of the report's total and supplement, sums over the lines taken (sums_of), which are charged by g.
pub record LoanNumbers (g : Basis) (kept : List (List ℕ)) (f : Figures) : Type 0 where
  -- Each loan adds two numbers, the one never below its exact base plus supplement, the other never above its exact supplement, and less than
  -- one and a twentieth cents from them (02, L7);
  pub each : (s : List ℕ) (l : Loan) → Memᴰ s kept → ShowsInRange s (loan l) → Promised (two_numbers g s) (loan_total g l) (loan_supplement g l)
  -- any other line adds nothing.
  pub others : (s : List ℕ) → Memᴰ s kept → ((l : Loan) → ShowsInRange s (loan l) → ⊥) →
      two_numbers g s ≡ record { total = zero_signed; supplement = zero_signed }
  -- So total is never below the exact one and supplement never above it, and each at most one and a twentieth cents a loan from it.
  pub total : AtEveryOrder (total_by g kept)
      (λ v. (v ≼ signed_cents f.total) × (signed_cents f.total ≼ v ⊕ whole (counts_in kept).loans ⊗ tolerance))
  pub supplement : AtEveryOrder (supplement_by g kept)
      (λ v. (signed_cents f.supplement ≼ v) × (v ≼ signed_cents f.supplement ⊕ whole (counts_in kept).loans ⊗ tolerance))
  pub total_determined : Determined (total_by g kept)
  pub supplement_determined : Determined (supplement_by g kept)

-- What holds of the loans' numbers and of the required amount of the lines taken.
pub record Measured (t : Terms) (kept : List (List ℕ)) : Type 0 where
  -- the report's figure of that name, and its line `(required R)`, the eighth
  pub required : ℕ
  pub required_is : required ≡ (figures_for t kept).required
  pub before : List ℕ
  pub after : List ℕ
  pub line_eight : report_for t kept ≡ before ++ line (text "required") (digits required ∷ []) ++ after
  pub seven_before : line_count before ≡ 7
  pub read_back : value_of (digits required) ≡ required
  -- the first three lines: how many loans are taken, and the report's total and supplement
  pub between : List ℕ
  pub first_three : before ≡
      line (text "loans") (digits (counts_in kept).loans ∷ [])
      ++ line (text "total") (signed (figures_for t kept).total ∷ [])
      ++ line (text "supplement") (signed (figures_for t kept).supplement ∷ [])
      ++ between
  -- never below the exact requirement, and above it by less than one and a half cents for each loan taken plus 3 cents (02, L7)
  pub not_below : AtMost (requirement t kept) (whole required)
  pub close : ExceedsByLess (requirement t kept) (allowance (counts_in kept).loans) (whole required)
  -- both sides by one value in each bracket
  pub both : AtEveryOrder (requirement t kept) (λ v. (v ≼ whole required) × (whole required ≺ v ⊕ allowance (counts_in kept).loans))
  -- some order is allowed, and no exponent of the requirement is left out of its list
  pub orders : SomeAllowed (requirement t kept).exponents
  pub determined : Determined (requirement t kept)
  -- and so total and supplement by the loans' numbers
  pub loans : LoanNumbers (basis_of t kept) kept (figures_for t kept)

-- Two closings that write: lengths and bytes are the same, whatever the buffers' sizes and contents.
abbrev pub SameTexts : (answer : ℕ → Closed) (left : List ℕ → List ℕ) (other : ℕ → Closed) (left_other : List ℕ → List ℕ) → Type 0
SameTexts answer left other left_other =
    (x y : List ℕ) → (answer (length x)).refusal ≡ 0 → (other (length y)).refusal ≡ 0 →
    ((answer (length x)).length ≡ (other (length y)).length)
    × (take (answer (length x)).length (left x) ≡ take (other (length y)).length (left_other y))

abbrev pub SameReports : Book → Book → Type 0
SameReports b c = SameTexts (closing b) (closed b) (closing c) (closed c)

-- The claim, for a sheet of factors, a header line and a list of lines: the exact requirement is the one with that sheet. (An opening that
-- is refused gives the value of an all-zero header under the regulator's table, of which it holds too.)
pub record Demand3 (sheet header : List ℕ) (lines : List (List ℕ)) : Type 0 where
  pub closes : Closes (terms_of (opened sheet header)) (accepted_of (all_fed (opened sheet header) lines)) (after_lines (opening sheet header).state lines)
  pub measured : Measured (terms_of (opened sheet header)) (lines_taken (all_fed (opened sheet header) lines))
  -- the same lines taken under the same sheet, each as often, in whatever order: reports alike byte for byte
  pub alike : (others : List (List ℕ)) → Permᴰ (lines_taken (all_fed (opened sheet header) lines)) (lines_taken (all_fed (opened sheet header) others)) →
      SameReports (after_lines (opening sheet header).state lines).book (after_lines (opening sheet header).state others).book
