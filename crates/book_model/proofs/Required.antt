-- The required amount of the accepted lines near their exact requirement. Assumes nothing.
use mathlib.Core.List.{List, [], ◌∷◌}
use Prim.Native.Nat.{ℕ, ◌*◌, ◌≤◌}
use Rattle.exact.specs.Quantity.{Eventually}
use Rattle.exact.proofs.Quantities.{Exponents, mapped, no-exponents, appended-exponents}
use Rattle.loan_charge.proofs.ChargeLaws.{total-exponents}
use Rattle.line_forms.specs.declared.Content.{Content}
use Rattle.line_forms.specs.Claims.{line_content}
use Rattle.line_forms.specs.Readings.{line_of}
use Rattle.figures.specs.Figures.{required_of, figures_of}
use Rattle.book_model.specs.Accepted.{counts_in}
use Rattle.book_model.specs.Exact.{exact_share, exact_of, exact_rest, exponents_over, requirement_by, requirement}
use Rattle.book_model.specs.History.{sums_by, sums_of}
use Rattle.book_model.specs.HouseIndex.{values_in}
use Rattle.book_model.specs.Ranges.{Ranged}
use Rattle.book_model.specs.Terms.{Terms, Basis, basis_of, loan_inputs}
use Rattle.book_model.proofs.Adjustments.{Has, Settled}
use Rattle.book_model.proofs.Bounds.{Near, required-near}
use Rattle.book_model.proofs.ExactSums.{rest_sum, rounded-is, parts-nonnegative}
use Rattle.book_model.proofs.Near.{ChargeableBasis, list_close, chargeable}
use Rattle.book_model.proofs.Ranged.{ranged}
use Rattle.book_model.proofs.Shapes.{Shape, of_loan, of_other, of_none, shape}

-- the required amount of the report
abbrev pub required_for : Terms → List (List ℕ) → ℕ
required_for t kept = (figures_of t.header.held (sums_of t kept)).required

pub near : (k : ℕ) → 140 * 105 ≤ 100 * k → {t : Terms} (kept : List (List ℕ)) → ChargeableBasis (basis_of t kept) → Settled (values_in kept) kept →
    Eventually (λ x. Near ((requirement t kept).value x) (required_for t kept) k (counts_in kept).loans)
unfolding requirement_by figures_of required_of
near k h {t} kept u z =
    let g : Basis = basis_of t kept in
    mapped
    (λ m c.
    rw (rounded-is (sums_by g kept).rest (rest_sum g kept))
    (required-near 105 k (counts_in kept).loans h _ _ (exact_rest g kept) t.header.held
    (sums_by g kept).total.plus (sums_by g kept).total.minus (sums_by g kept).supplement.plus (sums_by g kept).supplement.minus
    c.near_total c.near_supplement (rest_sum g kept).proper (parts-nonnegative (rest_sum g kept))))
    (list_close u kept z)

-- the exponents of the accepted lines are exponents
line-exponents : {g : Basis} → ChargeableBasis g → (c : Content) → Ranged c → Has g.index c → Exponents (exact_share g c).total.exponents
unfolding exact_share
line-exponents {g} u c r h = go (shape g c) r h
  where
    go : {c : Content} → Shape g c → Ranged c → Has g.index c → Exponents (exact_share g c).total.exponents
    go (of_loan l) r h =
        total-exponents (loan_inputs g l) (chargeable u l r h)
    go (of_other k z a) r h = rw a.exactly no-exponents
    go (of_none k a b) r h = rw b no-exponents

pub list-exponents : {g : Basis} → ChargeableBasis g → (kept : List (List ℕ)) → Settled g.index kept → Exponents (exponents_over g kept)
unfolding exponents_over Settled
list-exponents u [] h = no-exponents
list-exponents {g} u (s ∷ kept) h =
    appended-exponents (exact_of g s).total.exponents (line-exponents u (line_content (line_of s)) (ranged s) h.0) (list-exponents u kept h.1)
