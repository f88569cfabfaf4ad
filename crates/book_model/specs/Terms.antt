-- What a book is opened under, and what its loans are charged by.
use Rattle.std.specs.Prelude.{ℕ, ◌*◌, List, eqb, Result, Ok, Err}
use Rattle.exact.specs.Choice.{pick}
use Rattle.loan_charge.specs.declared.LoanInputs.{LoanInputs}
use Rattle.loan_charge.specs.declared.Score.{Score}
use Rattle.loan_charge.specs.CreditFactor.{credit_factor_lem, rates_of_lem, built_in_rates_lem}
use Rattle.sheet.specs.Sheet.{sheet_passes}
use Rattle.line_forms.specs.Contents.{on_aged_table_lem}
use Rattle.line_forms.specs.declared.Header.{Header}
use Rattle.line_forms.specs.declared.refusal.Refusal.{Refusal as Reason}
use Rattle.line_forms.specs.declared.Loan.{Loan}
use Rattle.book_model.specs.declared.Adjustment.{Adjustment}
use Rattle.book_model.specs.HouseIndex.{Index, adjustment_of, values_in}

-- its header and its table of credit factors
pub record Terms : Type 0 where
  pub header : Header
  pub rates : List ℕ

abbrev pub under : Header → List ℕ → Terms
under h rates = record { header = h; rates = rates }

-- under a sheet of factors (02, L3)
abbrev pub under_sheet : Header → (sheet : List ℕ) → Terms
under_sheet h sheet = under h (rates_of_lem sheet)

-- the terms of a book that is opened with the regulator's table
abbrev pub terms_with : Header → Terms
terms_with h = under h built_in_rates_lem

-- the all-zero header, under which the value of a refused opening stands, with the regulator's table
abbrev pub zero_header : Header
zero_header = record { loans = 0; unscored = 0; fresh = 0; held = 0 }

abbrev pub refused_terms : Terms
refused_terms = terms_with zero_header

-- What opening with a sheet and a line opens a book under, or leaves standing where either is refused.
unfoldable pub terms_for : (sheet : List ℕ) → Result Header Reason → Terms
terms_for sheet (Ok h) = pick (sheet_passes sheet) (under_sheet h sheet) refused_terms
terms_for sheet (Err r) = refused_terms

-- m of a loan with this score, in 10^-17
unfoldable pub factor_for : Terms → Score → ℕ
factor_for t score =
    credit_factor_lem t.rates (on_aged_table_lem t.header) t.header.loans t.header.unscored score

-- What loans are charged by: the terms, and the house price index (02, L4).
pub record Basis : Type 0 where
  pub terms : Terms
  pub index : Index

-- by the values that lines set
abbrev pub basis_of : Terms → List (List ℕ) → Basis
basis_of t kept = record { terms = t; index = values_in kept }

-- what the charge of a loan depends on
abbrev pub inputs_with : Terms → Adjustment → Loan → LoanInputs
inputs_with t a l = record {
  value = l.value * a.last;
  over = l.balance * a.own;
  balance = l.balance;
  months = l.amortization;
  term = l.term;
  supplement = eqb l.supplement 1;
  factor = factor_for t l.score;
}

abbrev pub loan_inputs : Basis → Loan → LoanInputs
loan_inputs g l = inputs_with g.terms (adjustment_of g.index l) l
