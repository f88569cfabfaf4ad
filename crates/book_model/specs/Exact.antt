-- The exact amounts of lines, as fractions of a cent (document 01, "The rest, and closing"): nothing is rounded.
use Rattle.std.specs.Prelude.{ℕ, List, [], ◌∷◌, ◌++◌}
use Rattle.exact.specs.Fraction.{Fraction, whole, ◌⊕◌}
use Rattle.exact.specs.Quantity.{Quantity}
use Rattle.loan_charge.specs.Charge.{total_quantity, supplement_quantity}
use Rattle.loan_charge.specs.Promise.{signed_cents}
use Rattle.line_forms.specs.declared.Loan.{Loan}
use Rattle.line_forms.specs.declared.Class.{Class}
use Rattle.line_forms.specs.declared.Class.TheVariants.{Home, Multi}
use Rattle.line_forms.specs.declared.Item.{Item}
use Rattle.line_forms.specs.declared.Item.TheVariants.{Claims, Lossc, Stated, Equity, Aoci, B, C}
use Rattle.line_forms.specs.declared.Content.{Content}
use Rattle.line_forms.specs.declared.Content.TheVariants.{Header as header, Loan as loan, Policy as policy, Derivative as derivative, Asset as asset}
use Rattle.line_forms.specs.declared.Content.TheVariants.{Amount as amount, Index as index, Mark as mark, NoForm}
use Rattle.line_forms.specs.Claims.{line_content}
use Rattle.line_forms.specs.Readings.{line_of}
use Rattle.other_charges.specs.Charges.{asset_charge, share_charge, claims_percent, loss_components_percent, stated_percent, derivative_charge, provision}
use Rattle.other_charges.specs.Charges.{multi_provision}
use Rattle.book_model.specs.Terms.{Terms, Basis, basis_of, loan_inputs}
use Rattle.book_model.specs.Requirement.{exact_required}

-- a loan's exact base plus supplement, and its exact supplement
abbrev pub loan_total : Basis → Loan → Quantity
loan_total g l = total_quantity (loan_inputs g l)

abbrev pub loan_supplement : Basis → Loan → Quantity
loan_supplement g l = supplement_quantity (loan_inputs g l)

-- What a line adds exactly: to rest and moved in cents, and to total and supplement.
pub record ExactShare : Type 0 where
  pub rest : Fraction
  pub moved : Fraction
  pub total : Quantity
  pub supplement : Quantity

abbrev pub no_quantity : Quantity
no_quantity = record { exponents = []; value = λ x. whole 0 }

-- what is no loan adds nothing to total and supplement
abbrev pub exact_other : (rest moved : Fraction) → ExactShare
exact_other rest moved = record { rest = rest; moved = moved; total = no_quantity; supplement = no_quantity }

-- adds to rest alone, to moved alone, to none of the four
abbrev pub charged : Fraction → ExactShare
charged x = exact_other x (whole 0)

abbrev pub moved_only : Fraction → ExactShare
moved_only x = exact_other (whole 0) x

abbrev pub nothing : ExactShare
nothing = exact_other (whole 0) (whole 0)

-- Home provisions only move between headings.
unfoldable pub exact_policy : Class → (premium term completed : ℕ) → ExactShare
exact_policy Home premium term completed = moved_only (provision premium term completed)
exact_policy Multi premium term completed = charged (multi_provision premium term completed)

unfoldable pub exact_amount : Item → ℕ → ExactShare
exact_amount Claims n = charged (share_charge n claims_percent)
exact_amount Lossc n = charged (share_charge n loss_components_percent)
exact_amount Stated n = charged (share_charge n stated_percent)
exact_amount Equity n = nothing
exact_amount Aoci n = nothing
exact_amount B n = nothing
exact_amount C n = nothing

unfoldable pub exact_share : Basis → Content → ExactShare
exact_share g (header h) = nothing
exact_share g (loan l) = record { rest = whole 0; moved = whole 0; total = loan_total g l; supplement = loan_supplement g l }
exact_share g (policy p) = exact_policy p.class p.premium p.term p.completed
exact_share g (derivative d) =
    charged (derivative_charge d.kind (signed_cents d.cost) d.notional d.months d.payments d.factor)
exact_share g (asset a) = charged (asset_charge a.amount a.factor)
exact_share g (amount a) = exact_amount a.item a.amount.plus
exact_share g (index i) = nothing
exact_share g (mark m) = nothing
exact_share g NoForm = nothing

-- of a line
abbrev pub exact_of : Basis → List ℕ → ExactShare
exact_of g s = exact_share g (line_content (line_of s))

-- the sum over a list of lines
unfoldable pub sum_over : (List ℕ → Fraction) → List (List ℕ) → Fraction
sum_over f [] = whole 0
sum_over f (s ∷ kept) = f s ⊕ sum_over f kept

abbrev pub exact_rest : Basis → List (List ℕ) → Fraction
exact_rest g kept = sum_over (λ s. (exact_of g s).rest) kept

abbrev pub exact_moved : Basis → List (List ℕ) → Fraction
exact_moved g kept = sum_over (λ s. (exact_of g s).moved) kept

-- every exponent of every loan (those of its supplement are among those of its total)
unfoldable pub exponents_over : Basis → List (List ℕ) → List Fraction
exponents_over g [] = []
exponents_over g (s ∷ kept) = (exact_of g s).total.exponents ++ exponents_over g kept

-- the exact total and supplement of lines that are charged by g
abbrev pub total_by : Basis → List (List ℕ) → Quantity
total_by g kept = record { exponents = exponents_over g kept; value = λ x. sum_over (λ s. (exact_of g s).total.value x) kept }

abbrev pub supplement_by : Basis → List (List ℕ) → Quantity
supplement_by g kept = record { exponents = exponents_over g kept; value = λ x. sum_over (λ s. (exact_of g s).supplement.value x) kept }

-- and their exact requirement
unfoldable pub requirement_by : Basis → List (List ℕ) → Quantity
requirement_by g kept = record {
  exponents = exponents_over g kept;
  value = λ x. exact_required ((total_by g kept).value x) ((supplement_by g kept).value x) (exact_rest g kept) g.terms.header.held;
}

-- the exact requirement of a book's terms and its lines: each property value by the index values that are among them
abbrev pub requirement : Terms → List (List ℕ) → Quantity
requirement t kept = requirement_by (basis_of t kept) kept
