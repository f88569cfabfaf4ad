-- 02, L1: loans by score band and loan-to-value. Which cell a loan is of, and the table of all cells that a book keeps beside its sums.
use Rattle.std.specs.Prelude.{ℕ, ◌+◌, ◌*◌, ◌≤◌, Bool, List, [], ◌∷◌, ltb, get_or, set, replicate}
use Rattle.loan_charge.specs.CreditFactor.{count, band}
use Rattle.loan_charge.specs.declared.Score.{Score}
use Rattle.loan_charge.specs.declared.Score.TheVariants.{Scored, Unscored}
use Rattle.line_forms.specs.declared.Loan.{Loan}
use Rattle.line_forms.specs.declared.Content.{Content}
use Rattle.line_forms.specs.declared.Content.TheVariants.{Header as header, Loan as loan, Policy as policy, Derivative as derivative, Asset as asset}
use Rattle.line_forms.specs.declared.Content.TheVariants.{Amount as amount, Index as index, Mark as mark, NoForm}
use Rattle.cell_report.specs.declared.Cell.{Cell}
use Rattle.cell_report.specs.CellReport.{place_of}
use Rattle.book_model.specs.declared.Adjustment.{Adjustment}
use Rattle.book_model.specs.HouseIndex.{Index, adjustment_of}
use Rattle.book_model.specs.Share.{numbers_with}
use Rattle.book_model.specs.Terms.{Terms, Basis}

-- BAND: the eleven bands of the credit factors, 1 to 11 upward, and 12 for no score
unfoldable pub band_of : Score → ℕ
band_of (Scored number age) = band number + 1
band_of Unscored = 12

-- Whether balance over property value, of which value over balance is p / q, lies beyond so many per cent: a limit itself does not.
abbrev pub beyond : (limit p q : ℕ) → Bool
beyond limit p q = ltb (limit * p) (100 * q)

-- LTV: up to 65%, 80%, 90%, 95%, and above
unfoldable pub ltv_of : (p q : ℕ) → ℕ
ltv_of p q = count (λ limit. beyond limit p q) (65 ∷ 80 ∷ 90 ∷ 95 ∷ []) + 1

abbrev pub loan_band : Loan → ℕ
loan_band l = band_of l.score

-- by the property value that the house price index leaves (02, L4)
abbrev pub ltv_with : Adjustment → Loan → ℕ
ltv_with a l = ltv_of (l.value * a.last) (l.balance * a.own)

abbrev pub loan_ltv : Index → Loan → ℕ
loan_ltv values l = ltv_with (adjustment_of values l) l

-- something of the loan that a line holds, and x where it holds none
abbrev pub loan_or : {A : Type 0} → (Loan → A) → A → Content → A
loan_or f x (header h) = x
loan_or f x (loan l) = f l
loan_or f x (policy p) = x
loan_or f x (derivative d) = x
loan_or f x (asset a) = x
loan_or f x (amount a) = x
loan_or f x (index i) = x
loan_or f x (mark m) = x
loan_or f x NoForm = x

-- no loan in any cell
unfoldable pub empty_cells : List ℕ
empty_cells = replicate 240 0

-- x more at a place
abbrev pub add_at_lem : List ℕ → (at x : ℕ) → List ℕ
add_at_lem cells at x = set cells at (get_or cells at 0 + x)

-- what a loan adds to its cell: itself, its balance, and its charge, which is base plus supplement
abbrev pub cell_with : Terms → Adjustment → Loan → Cell
cell_with t a l = record { count = 1; balance = l.balance; charge = (numbers_with t a l).total }

abbrev pub loan_cell : Basis → Loan → Cell
loan_cell g l = cell_with g.terms (adjustment_of g.index l) l

-- so much more in the cell whose four places begin there
unfoldable pub with_cell : List ℕ → (place : ℕ) → Cell → List ℕ
with_cell cells place x =
    add_at_lem (add_at_lem (add_at_lem (add_at_lem cells place x.count) (place + 1) x.balance) (place + 2) x.charge.plus) (place + 3) x.charge.minus

-- the table with what the data of a line adds: only a loan does
unfoldable pub cells_with : Basis → Content → List ℕ → List ℕ
cells_with g c cells = loan_or (λ l. with_cell cells (place_of (loan_band l) (loan_ltv g.index l)) (loan_cell g l)) cells c

-- Every place is bounded by a multiple of the additions made to the table, so that no two places need be told apart.
pub record CellsBounded (cells : List ℕ) (additions : ℕ) : Type 0 where
  pub each : (i : ℕ) → get_or cells i 0 ≤ 300000000 * additions
