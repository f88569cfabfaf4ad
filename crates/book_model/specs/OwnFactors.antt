-- 02, L3: a book under a sheet of credit factors of one's own. Proved in proofs/OwnFactors.antt.
use Rattle.std.specs.Prelude.{ℕ, ◌≡◌, List}
use Rattle.loan_charge.specs.declared.Score.TheVariants.{Scored, Unscored}
use Rattle.loan_charge.specs.CreditFactor.{hundredths, band, column_serving_lem, entry_at, rates_of_lem}
use Rattle.sheet.specs.Loading.{Loading}
use Rattle.sheet.specs.Sheet.{SheetRules}
use Rattle.line_forms.specs.declared.Header.{Header}
use Rattle.line_forms.specs.Contents.{on_aged_table_lem}
use Rattle.book_model.specs.Calls.{State, opening}
use Rattle.book_model.specs.Demand3.{after_lines}
use Rattle.book_model.specs.Terms.{under_sheet, terms_with, factor_for}

pub record OwnFactors : Type 0 where
  -- Loading checks exactly the rules, and the regulator's table keeps them.
  pub loading : Loading
  -- A book that is opened has the rates of its sheet, which keeps the rules; and whatever lines are fed to it, it keeps them to the end.
  pub opened : (sheet line : List ℕ) → (opening sheet line).refusal ≡ 0 → SheetRules sheet × ((opening sheet line).state.rates ≡ rates_of_lem sheet)
  pub kept : (s : State) (lines : List (List ℕ)) → (after_lines s lines).rates ≡ s.rates
  -- m of a loan with a score is the sheet's factor for its band, in the first column or in that of its age as in document 01;
  pub scored : (sheet : List ℕ) → SheetRules sheet → (h : Header) (number age : ℕ) →
      factor_for (under_sheet h sheet) (Scored number age) ≡ hundredths (entry_at sheet (band number) (column_serving_lem (on_aged_table_lem h) age))
  -- m of one without is what it is under the regulator's table.
  pub unscored : (sheet : List ℕ) (h : Header) → factor_for (under_sheet h sheet) Unscored ≡ factor_for (terms_with h) Unscored
