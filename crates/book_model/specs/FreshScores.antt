-- 02, L5: when scores count as fresh. Proved in proofs/FreshScores.antt, and through the calls themselves in the crate histories.
use Rattle.std.specs.Prelude.{ℕ, ◌*◌, ◌≤◌, ◌<◌, ◌≡◌}
use mathlib.Core.List.{List, Permᴰ}
use Rattle.loan_charge.specs.declared.Score.TheVariants.{Scored}
use Rattle.loan_charge.specs.CreditFactor.{hundredths, band, column, entry_at}
use Rattle.sheet.specs.Sheet.{SheetRules}
use Rattle.line_forms.specs.declared.Header.{Header}
use Rattle.figures.specs.declared.Counts.{Counts}
use Rattle.book_model.specs.Accepted.{counts_in}
use Rattle.book_model.specs.Calls.{opening}
use Rattle.book_model.specs.Demand2.{CountsReached}
use Rattle.book_model.specs.History.{History, header_line, sheet_of, terms_of, lines_taken}
use Rattle.book_model.specs.Terms.{under_sheet, factor_for}

-- lines with the counts c are no more loans than the header counts, no more without a score and no more with a fresh one
abbrev pub CountsKept : Header → Counts → Type 0
CountsKept h c = (c.loans ≤ h.loans) × (c.unscored ≤ h.unscored) × (c.fresh ≤ h.fresh)

-- they are as many of each
abbrev pub CountsMet : Header → Counts → Type 0
CountsMet h c = (c.loans ≡ h.loans) × (c.unscored ≡ h.unscored) × (c.fresh ≡ h.fresh)

pub record FreshScores : Type 0 where
  -- Under a sheet of factors, the regulator's table among them, the first column serves at every age when 10 times the header's fresh is at
  -- least 9 times its loans; otherwise the column of the score's age does.
  pub first_column : (sheet : List ℕ) → SheetRules sheet → (h : Header) → 9 * h.loans ≤ 10 * h.fresh → (number age : ℕ) →
      factor_for (under_sheet h sheet) (Scored number age) ≡ hundredths (entry_at sheet (band number) 0)
  pub aged_table : (sheet : List ℕ) → SheetRules sheet → (h : Header) → 10 * h.fresh < 9 * h.loans → (number age : ℕ) →
      factor_for (under_sheet h sheet) (Scored number age) ≡ hundredths (entry_at sheet (band number) (column age))
  -- The lines taken keep to the header's counts; where they reach them too, as every closing that writes asks, they are as many of each.
  pub kept : (past : History) → CountsKept (terms_of past).header (counts_in (lines_taken past))
  pub met : (past : History) → CountsReached (terms_of past).header (counts_in (lines_taken past)) → CountsMet (terms_of past).header (counts_in (lines_taken past))
  -- So the writer of a book can no longer choose: for the same lines, in whatever order, and the same held there is no second header line.
  pub one_header : (past other : History) → (opening (sheet_of past) (header_line past)).refusal ≡ 0 → (opening (sheet_of other) (header_line other)).refusal ≡ 0 →
      (terms_of past).header.held ≡ (terms_of other).header.held → Permᴰ (lines_taken past) (lines_taken other) →
      CountsReached (terms_of past).header (counts_in (lines_taken past)) → CountsReached (terms_of other).header (counts_in (lines_taken other)) →
      header_line past ≡ header_line other
