-- 02, L1: the table of the loans taken by score band and loan-to-value, from the lines alone, and what is claimed of it.
-- Over the definitions that the contracts equate with the calls (Calls.antt); proved in proofs/LoanTable.antt, and through the calls
-- themselves in the crate histories.
use Rattle.std.specs.Prelude.{ℕ, zero, suc, ◌+◌, ◌*◌, ◌≤◌, ◌<◌, ◌≡◌, ◌&&◌, ◌↔◌, eqb}
use mathlib.Core.List.{List, Permᴰ}
use Rattle.exact.specs.Choice.{pick}
use Rattle.loan_charge.specs.declared.Score.TheVariants.{Scored, Unscored}
use Rattle.line_forms.specs.declared.Loan.{Loan}
use Rattle.line_forms.specs.declared.Content.{Content}
use Rattle.line_forms.specs.declared.Content.TheVariants.{Loan as loan}
use Rattle.line_forms.specs.Claims.{ShowsInRange, line_content}
use Rattle.line_forms.specs.Readings.{line_of}
use Rattle.cell_report.specs.declared.Cell.{Cell}
use Rattle.cell_report.specs.CellReport.{cells_text, cell_at}
use Rattle.book_model.specs.Accepted.{Accepted}
use Rattle.book_model.specs.Calls.{State, opening, cells_size, closing_cells, closed_cells}
use Rattle.book_model.specs.Cells.{band_of, ltv_of, loan_band, loan_ltv, loan_or, loan_cell}
use Rattle.book_model.specs.HouseIndex.{Index}
use Rattle.book_model.specs.LineKinds.{sum_by}
use Rattle.book_model.specs.Demand3.{figures_for, after_lines, Writes, SameTexts}
use Rattle.book_model.specs.History.{opened, all_fed, terms_of, accepted_of, lines_taken}
use Rattle.book_model.specs.Terms.{Terms, Basis, basis_of}

-- The bands of scores in inequalities: by the number alone, whatever its age.
pub record Bands : Type 0 where
  pub lowest : (number age : ℕ) → (band_of (Scored number age) ≡ 1) ↔ (number < 600)
  pub between : (k number age : ℕ) → k < 9 → (band_of (Scored number age) ≡ k + 2) ↔ ((600 + 20 * k ≤ number) × (number < 620 + 20 * k))
  pub highest : (number age : ℕ) → (band_of (Scored number age) ≡ 11) ↔ (780 ≤ number)
  pub none : band_of Unscored ≡ 12

-- The columns in inequalities, for value over balance p / q: a limit itself belongs to the lower column, and a balance above the value to the last.
pub record Columns : Type 0 where
  pub to_65 : (p q : ℕ) → (ltv_of p q ≡ 1) ↔ (100 * q ≤ 65 * p)
  pub to_80 : (p q : ℕ) → (ltv_of p q ≡ 2) ↔ ((65 * p < 100 * q) × (100 * q ≤ 80 * p))
  pub to_90 : (p q : ℕ) → (ltv_of p q ≡ 3) ↔ ((80 * p < 100 * q) × (100 * q ≤ 90 * p))
  pub to_95 : (p q : ℕ) → (ltv_of p q ≡ 4) ↔ ((90 * p < 100 * q) × (100 * q ≤ 95 * p))
  pub above : (p q : ℕ) → (ltv_of p q ≡ 5) ↔ (95 * p < 100 * q)

-- something of the loans of one band and column
abbrev pub in_cell : Index → (band ltv : ℕ) → (Loan → ℕ) → Content → ℕ
in_cell values band ltv f c = loan_or (λ l. pick (eqb (loan_band l) band && eqb (loan_ltv values l) ltv) (f l) 0) 0 c

-- By the bytes of a line: where it shows a loan of that band and column, that loan's, and else nothing.
pub record CellAdds (values : Index) (s : List ℕ) (band ltv : ℕ) (f : Loan → ℕ) : Type 0 where
  pub member : (l : Loan) → ShowsInRange s (loan l) → loan_band l ≡ band → loan_ltv values l ≡ ltv →
      in_cell values band ltv f (line_content (line_of s)) ≡ f l
  pub other : ((l : Loan) → ShowsInRange s (loan l) → loan_band l ≡ band → loan_ltv values l ≡ ltv → ⊥) →
      in_cell values band ltv f (line_content (line_of s)) ≡ 0

-- Each cell counts and sums exactly the loans taken of its band and column.
unfoldable pub cell_by : Basis → List (List ℕ) → (band ltv : ℕ) → Cell
cell_by g kept band ltv = record {
  count = sum_by (in_cell g.index band ltv (λ l. (loan_cell g l).count)) kept;
  balance = sum_by (in_cell g.index band ltv (λ l. (loan_cell g l).balance)) kept;
  charge = record {
    plus = sum_by (in_cell g.index band ltv (λ l. (loan_cell g l).charge.plus)) kept;
    minus = sum_by (in_cell g.index band ltv (λ l. (loan_cell g l).charge.minus)) kept;
  };
}

-- under terms, by the index values that are among the lines
abbrev pub cell_for : Terms → List (List ℕ) → (band ltv : ℕ) → Cell
cell_for t kept band ltv = cell_by (basis_of t kept) kept band ltv

-- the 60 lines of the lines taken
unfoldable pub cells_for : Terms → List (List ℕ) → List ℕ
cells_for t kept = cells_text (cell_for t kept)

-- f 1 + .. + f n
unfoldable pub sum_to : ℕ → (ℕ → ℕ) → ℕ
sum_to zero f = 0
sum_to (suc n) f = sum_to n f + f (suc n)

-- a sum over all cells: bands 1 to 12, columns 1 to 5
abbrev pub over_cells : (ℕ → ℕ → ℕ) → ℕ
over_cells f = sum_to 12 (λ band. sum_to 5 (λ ltv. f band ltv))

-- Over all cells the counts and charges sum to the report's loans and total. A charge and the total are their parts above 0 less those below.
pub record CellSums (t : Terms) (kept : List (List ℕ)) : Type 0 where
  pub counts : over_cells (λ band ltv. (cell_for t kept band ltv).count) ≡ (figures_for t kept).loans
  pub charges : over_cells (λ band ltv. (cell_for t kept band ltv).charge.plus) + (figures_for t kept).total.minus ≡
      over_cells (λ band ltv. (cell_for t kept band ltv).charge.minus) + (figures_for t kept).total.plus
  -- and the balances to those of all loans taken
  pub balances : over_cells (λ band ltv. (cell_for t kept band ltv).balance) ≡ sum_by (λ c. loan_or (λ l. l.balance) 0 c) kept

-- The second closing of a state under terms t with the lines `a` taken writes their 60 lines.
abbrev pub WritesCells : Terms → Accepted → State → Type 0
WritesCells t a s =
    Writes cells_size t a (cells_for t a.kept) (closing_cells s.book s.cells) (closed_cells s.book s.cells)

abbrev pub SameTables : State → State → Type 0
SameTables s u =
    SameTexts (closing_cells s.book s.cells) (closed_cells s.book s.cells) (closing_cells u.book u.cells)
    (closed_cells u.book u.cells)

-- The claim, for every sheet of factors, every header line and every list of lines fed after it. (An opening that is refused gives the value
-- of an all-zero header under the regulator's table, of which it holds too.)
pub record LoanTable : Type 0 where
  pub bands : Bands
  pub columns : Columns
  pub adds : (values : Index) (s : List ℕ) (band ltv : ℕ) (f : Loan → ℕ) → CellAdds values s band ltv f
  -- Each cell of the table that feeding keeps counts and sums exactly the loans taken of its band and column,
  pub cells : (sheet header : List ℕ) (lines : List (List ℕ)) (band ltv : ℕ) → 1 ≤ band → band ≤ 12 → 1 ≤ ltv → ltv ≤ 5 →
      cell_at (after_lines (opening sheet header).state lines).cells band ltv ≡
      cell_for (terms_of (opened sheet header)) (lines_taken (all_fed (opened sheet header) lines)) band ltv
  -- and the second closing writes the 60 cells.
  pub closes : (sheet header : List ℕ) (lines : List (List ℕ)) →
      WritesCells (terms_of (opened sheet header)) (accepted_of (all_fed (opened sheet header) lines)) (after_lines (opening sheet header).state lines)
  pub sums : (sheet header : List ℕ) (lines : List (List ℕ)) → CellSums (terms_of (opened sheet header)) (lines_taken (all_fed (opened sheet header) lines))
  -- the same lines taken, each as often, in whatever order: the same 60 lines, byte for byte
  pub alike : (sheet header : List ℕ) (lines others : List (List ℕ)) →
      Permᴰ (lines_taken (all_fed (opened sheet header) lines)) (lines_taken (all_fed (opened sheet header) others)) →
      SameTables (after_lines (opening sheet header).state lines) (after_lines (opening sheet header).state others)
