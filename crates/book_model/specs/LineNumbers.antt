-- What of a line's numbers goes where, in document 01's words: the sums of capital, and what a loan is charged by. Proved in proofs/LineNumbers.antt.
use Rattle.std.specs.Prelude.{ℕ, true, List, ◌↔◌, ◌≡◌, eqb}
use Rattle.exact.specs.Choice.{pick}
use Rattle.fixed_point.specs.declared.Signed.{Signed}
use Rattle.line_forms.specs.declared.Item.{Item}
use Rattle.line_forms.specs.declared.Item.TheVariants.{Claims, Lossc, Stated, Equity, Aoci, B, C}
use Rattle.line_forms.specs.declared.Loan.{Loan}
use Rattle.line_forms.specs.declared.Content.{Content}
use Rattle.line_forms.specs.declared.Content.TheVariants.{Header as header, Loan as loan, Policy as policy, Derivative as derivative, Asset as asset}
use Rattle.line_forms.specs.declared.Content.TheVariants.{Amount as amount, Index as index, Mark as mark, NoForm}
use Rattle.book_model.specs.History.{sums_of}
use Rattle.book_model.specs.LineKinds.{sum_by}
use Rattle.book_model.specs.Terms.{Terms, Basis, factor_for, loan_inputs}

-- a number for each, by which items are told apart
abbrev pub item_number : Item → ℕ
item_number Claims = 0
item_number Lossc = 1
item_number Stated = 2
item_number Equity = 3
item_number Aoci = 4
item_number B = 5
item_number C = 6

-- something of the amount of a line of this item, 0 for any other line
abbrev pub of_item : Item → (Signed → ℕ) → Content → ℕ
of_item i f (header h) = 0
of_item i f (loan l) = 0
of_item i f (policy p) = 0
of_item i f (derivative d) = 0
of_item i f (asset a) = 0
of_item i f (amount a) = pick (eqb (item_number a.item) (item_number i)) (f a.amount) 0
of_item i f (index x) = 0
of_item i f (mark m) = 0
of_item i f NoForm = 0

-- 01: "equity, aoci, b and c are the sums of their lines", parts above and below 0 apart
pub record CapitalSums (t : Terms) (kept : List (List ℕ)) : Type 0 where
  pub equity_plus : (sums_of t kept).equity.plus ≡ sum_by (λ c. of_item Equity (λ x. x.plus) c) kept
  pub equity_minus : (sums_of t kept).equity.minus ≡ sum_by (λ c. of_item Equity (λ x. x.minus) c) kept
  pub aoci_plus : (sums_of t kept).aoci.plus ≡ sum_by (λ c. of_item Aoci (λ x. x.plus) c) kept
  pub aoci_minus : (sums_of t kept).aoci.minus ≡ sum_by (λ c. of_item Aoci (λ x. x.minus) c) kept
  pub b : (sums_of t kept).b ≡ sum_by (λ c. of_item B (λ x. x.plus) c) kept
  pub c : (sums_of t kept).c ≡ sum_by (λ c. of_item C (λ x. x.plus) c) kept

-- a loan is charged by its own numbers: balance, remaining amortization and insurance term; the supplement "where sup is 1"; and m
pub record ChargedBy (g : Basis) (l : Loan) : Type 0 where
  pub balance : (loan_inputs g l).balance ≡ l.balance
  pub months : (loan_inputs g l).months ≡ l.amortization
  pub term : (loan_inputs g l).term ≡ l.term
  pub supplement : ((loan_inputs g l).supplement ≡ true) ↔ (l.supplement ≡ 1)
  pub factor : (loan_inputs g l).factor ≡ factor_for g.terms l.score

pub record LineNumbers : Type 0 where
  pub capital : (t : Terms) (kept : List (List ℕ)) → CapitalSums t kept
  pub loans : (g : Basis) (l : Loan) → ChargedBy g l
