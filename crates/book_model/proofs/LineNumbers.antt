-- The sums of capital by the lines, and what a loan is charged by. Assumes nothing.
use Prim.Native.Nat.{ℕ}
use mathlib.Core.List.{List, [], ◌∷◌}
use mathlib.Core.Path.{◌≡◌, refl, ap}
use lib.ListN.{get_or, replicate}
use borrow.Author.Tests.{eqb-true, eq-eqb}
use Rattle.fixed_point.specs.declared.Signed.{Signed}
use Rattle.line_forms.specs.declared.Item.{Item}
use Rattle.line_forms.specs.declared.Item.TheVariants.{Claims, Lossc, Stated, Equity, Aoci, B, C}
use Rattle.line_forms.specs.declared.Class.{Class}
use Rattle.line_forms.specs.declared.Class.TheVariants.{Home, Multi}
use Rattle.line_forms.specs.declared.Content.{Content}
use Rattle.line_forms.specs.declared.Content.TheVariants.{Header as header, Loan as loan, Policy as policy, Derivative as derivative, Asset as asset}
use Rattle.line_forms.specs.declared.Content.TheVariants.{Amount as amount, Index as index, Mark as mark, NoForm}
use Rattle.figures.specs.declared.Sums.{Sums}
use Rattle.book_model.specs.LineNumbers.{of_item, CapitalSums, LineNumbers}
use Rattle.book_model.specs.Share.{share, share_with, policy_share, derivative_share, asset_share, amount_share}
use Rattle.book_model.specs.Terms.{Terms, Basis, basis_of}
use Rattle.book_model.proofs.LineSums.{sums-number}

-- the six numbers of capital in the sums, and those of a line
abbrev capital_in : Sums → List ℕ
capital_in s = s.equity.plus ∷ s.equity.minus ∷ s.aoci.plus ∷ s.aoci.minus ∷ s.b ∷ s.c ∷ []

abbrev capital_by : Content → List ℕ
capital_by d =
    of_item Equity (λ x. x.plus) d ∷ of_item Equity (λ x. x.minus) d ∷ of_item Aoci (λ x. x.plus) d ∷ of_item Aoci (λ x. x.minus) d ∷
    of_item B (λ x. x.plus) d ∷ of_item C (λ x. x.plus) d ∷ []

of-policy : (class : Class) (premium term completed : ℕ) → capital_in (policy_share class premium term completed) ≡ replicate 6 0
unfolding policy_share
of-policy Home premium term completed = refl
of-policy Multi premium term completed = refl

of-amount : (i : Item) (x : Signed) → capital_in (amount_share i x) ≡ capital_by (amount (record { item = i; amount = x }))
unfolding amount_share
of-amount Claims x = refl
of-amount Lossc x = refl
of-amount Stated x = refl
of-amount Equity x = refl
of-amount Aoci x = refl
of-amount B x = refl
of-amount C x = refl

of-content : (g : Basis) (d : Content) → capital_in (share g d) ≡ capital_by d
unfolding share share_with derivative_share asset_share
of-content g (header h) = refl
of-content g (loan l) = refl
of-content g (policy p) = of-policy p.class p.premium p.term p.completed
of-content g (derivative d) = refl
of-content g (asset a) = refl
of-content g (amount a) = of-amount a.item a.amount
of-content g (index i) = refl
of-content g (mark m) = refl
of-content g NoForm = refl

capital-sums : (t : Terms) (kept : List (List ℕ)) → CapitalSums t kept
capital-sums t kept =
    let g : Basis = basis_of t kept in
    let place : (k : ℕ) (d : Content) → get_or (capital_in (share g d)) k 0 ≡ get_or (capital_by d) k 0 = λ k d. ap (λ (l : List ℕ). get_or l k 0) (of-content g d) in
    record {
      equity_plus = sums-number (λ s. s.equity.plus) (λ x y. refl) refl (λ c. of_item Equity (λ x. x.plus) c) g (place 0) kept;
      equity_minus = sums-number (λ s. s.equity.minus) (λ x y. refl) refl (λ c. of_item Equity (λ x. x.minus) c) g (place 1) kept;
      aoci_plus = sums-number (λ s. s.aoci.plus) (λ x y. refl) refl (λ c. of_item Aoci (λ x. x.plus) c) g (place 2) kept;
      aoci_minus = sums-number (λ s. s.aoci.minus) (λ x y. refl) refl (λ c. of_item Aoci (λ x. x.minus) c) g (place 3) kept;
      b = sums-number (λ s. s.b) (λ x y. refl) refl (λ c. of_item B (λ x. x.plus) c) g (place 4) kept;
      c = sums-number (λ s. s.c) (λ x y. refl) refl (λ c. of_item C (λ x. x.plus) c) g (place 5) kept;
    }

pub line_numbers : LineNumbers
line_numbers = record {
  capital = capital-sums;
  loans = λ g l. record {
    balance = refl;
    months = refl;
    term = refl;
    supplement = (λ e. eqb-true l.supplement 1 e, λ e. eq-eqb l.supplement 1 e);
    factor = refl;
  };
}
