-- Request L3 over the definitions. Assumes nothing.
use mathlib.Core.Path.{◌≡◌, refl, sym, ◌∙◌, ap}
use mathlib.Core.List.{List, [], ◌∷◌}
use Prim.Native.Nat.{ℕ}
use native.Mathlib.Omega.{arith}
use Rattle.loan_charge.specs.CreditFactor.{band, column_serving_lem, rates_of_lem, scored_factor_lem, credit_factor_lem}
use Rattle.loan_charge.proofs.CreditLaws.{band-most, column-most}
use Rattle.sheet.specs.Sheet.{SheetRules}
use Rattle.sheet.proofs.Loading.{loading}
use Rattle.sheet.proofs.Rules.{rules}
use Rattle.line_forms.specs.declared.Header.{Header}
use Rattle.line_forms.specs.declared.refusal.Refusal.{Refusal as Reason}
use Rattle.std.specs.Prelude.{Result, Err}
use Rattle.line_forms.specs.Refusals.{number_of}
use Rattle.line_forms.specs.Contents.{on_aged_table_lem}
use Rattle.line_forms.specs.Readings.{line_of, header_of}
use Rattle.line_forms.proofs.HeaderLaws.{header-numbers}
use Rattle.book_model.specs.Calls.{State, Answer, opening_for, feeding}
use Rattle.book_model.specs.Demand3.{after_lines}
use Rattle.book_model.specs.OwnFactors.{OwnFactors}
use Rattle.book_model.specs.Terms.{factor_for}
use Rattle.book_model.proofs.Demand2.{header-number}
use Rattle.book_model.proofs.Feeding.{rates-kept}
use Rattle.book_model.proofs.Openings.{number, sheet-passes, sheet-fails, header-fails, Case, book_opens, sheet_refused, header_refused, case_of}

opened : (sheet : List ℕ) (l : Result Header Reason) → ((q : Reason) → l ≡ Err q → number_of q ≡ 0 → ⊥) → (opening_for sheet l).refusal ≡ 0 →
    SheetRules sheet × ((opening_for sheet l).state.rates ≡ rates_of_lem sheet)
opened sheet l b e = go (case_of sheet l) b e
  where
    go : {l : Result Header Reason} → Case sheet l → ((q : Reason) → l ≡ Err q → number_of q ≡ 0 → ⊥) → (opening_for sheet l).refusal ≡ 0 →
        SheetRules sheet × ((opening_for sheet l).state.rates ≡ rates_of_lem sheet)
    go (book_opens h p) b e = (rules sheet p, ap (λ (a : Answer). a.state.rates) (sheet-passes sheet h p))
    go (sheet_refused h p) b e = absurd (omega (arith, sym (number (sheet-fails sheet h p)) ∙ e))
    go (header_refused n) b e = absurd (b n refl (sym (number (header-fails sheet n)) ∙ e))

kept : (s : State) (lines : List (List ℕ)) → (after_lines s lines).rates ≡ s.rates
unfolding after_lines
kept s [] = refl
kept s (line ∷ lines) = kept (feeding s line).state lines ∙ rates-kept s (line_of line)

pub own_factors : OwnFactors
unfolding factor_for credit_factor_lem scored_factor_lem
own_factors = record {
  loading = loading;
  opened = λ sheet line e. opened sheet (header_of line) (λ q f. (header-number (number_of q) (header-numbers line q f)).0) e;
  kept = kept;
  scored = λ sheet r h number age.
      loading.factors sheet r (band number) (column_serving_lem (on_aged_table_lem h) age)
      (omega (arith, band-most number)) (omega (arith, column-most (on_aged_table_lem h) age));
  unscored = λ sheet h. refl;
}
