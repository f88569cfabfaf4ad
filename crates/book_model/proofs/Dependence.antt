-- The exact requirement depends on the exponentials of its exponents alone. Assumes nothing.
use mathlib.Core.Bool.{Bool, true, false}
use mathlib.Core.List.Memᴰ
use mathlib.Core.List.{List, [], ◌∷◌, Memᴰ}
use Prim.Native.Nat.{ℕ}
use native.Mathlib.Omega.{arith}
use Rattle.exact.specs.Choice.{pick}
use Rattle.exact.specs.Fraction.{Fraction, whole}
use Rattle.exact.specs.Quantity.{DependsOn, Determined}
use Rattle.exact.proofs.Dependence.{depends-constant, depends-sum, depends-product, depends-larger, depends-negated, depends-more, depends-left, depends-right}
use Rattle.loan_charge.specs.declared.LoanInputs.{LoanInputs}
use Rattle.loan_charge.specs.Charge.{base_exponents, all_exponents, total_exponents, supplement_exponents}
use Rattle.loan_charge.proofs.Promise.{promise}
use Rattle.line_forms.specs.declared.Content.{Content}
use Rattle.line_forms.specs.Claims.{line_content}
use Rattle.line_forms.specs.Readings.{line_of}
use Rattle.book_model.specs.Exact.{exact_share, exact_of, exact_rest, sum_over, exponents_over, total_by, supplement_by, requirement_by}
use Rattle.book_model.specs.Ranges.{Ranged}
use Rattle.book_model.specs.Requirement.{exact_home, exact_oper, exact_required}
use Rattle.book_model.specs.Terms.{Basis, loan_inputs}
use Rattle.book_model.proofs.Adjustments.{Has, Settled}
use Rattle.book_model.proofs.ExactSums.{rest_sum}
use Rattle.book_model.proofs.Near.{ChargeableBasis, chargeable}
use Rattle.book_model.proofs.Ranged.{ranged}
use Rattle.book_model.proofs.Shapes.{Shape, of_loan, of_other, of_none, shape}

-- the exponents of a loan's supplement are among those of its total
among : (l : LoanInputs) (y : Fraction) → Memᴰ y (supplement_exponents l) → Memᴰ y (total_exponents l)
unfolding supplement_exponents total_exponents
among l y m = go l.supplement m
  where
    go : (b : Bool) → Memᴰ y (pick b (all_exponents l) []) → Memᴰ y (pick b (all_exponents l) (base_exponents l))
    go true m = m
    go false m = absurd (Memᴰ.not-nil m)

nothing-depends : {ys : List Fraction} → DependsOn ys (λ x. whole 0)
nothing-depends = depends-constant (record { positive = omega arith })

-- what a line adds to total and supplement
module _ {g : Basis} (u : ChargeableBasis g) where
  total-depends : (c : Content) → Ranged c → Has g.index c → DependsOn (exact_share g c).total.exponents (exact_share g c).total.value
  unfolding exact_share
  total-depends c r h = go (shape g c) r h
    where
      go : {c : Content} → Shape g c → Ranged c → Has g.index c → DependsOn (exact_share g c).total.exponents (exact_share g c).total.value
      go (of_loan l) r h = (promise.close (loan_inputs g l) (chargeable u l r h)).total_determined
      go (of_other k z a) r h = rw a.exactly nothing-depends
      go (of_none k a b) r h = rw b nothing-depends

  supplement-depends : (c : Content) → Ranged c → Has g.index c → DependsOn (exact_share g c).total.exponents (exact_share g c).supplement.value
  unfolding exact_share
  supplement-depends c r h = go (shape g c) r h
    where
      go : {c : Content} → Shape g c → Ranged c → Has g.index c → DependsOn (exact_share g c).total.exponents (exact_share g c).supplement.value
      go (of_loan l) r h = depends-more (among (loan_inputs g l)) (promise.close (loan_inputs g l) (chargeable u l r h)).supplement_determined
      go (of_other k z a) r h = rw a.exactly nothing-depends
      go (of_none k a b) r h = rw b nothing-depends

  -- sums over lines
  pub totals-depend : (kept : List (List ℕ)) → Settled g.index kept → Determined (total_by g kept)
  unfolding sum_over exponents_over Settled
  totals-depend [] h = nothing-depends
  totals-depend (s ∷ kept) h =
      depends-sum (depends-left (exponents_over g kept) (total-depends (line_content (line_of s)) (ranged s) h.0))
      (depends-right (exact_of g s).total.exponents (totals-depend kept h.1))

  pub supplements-depend : (kept : List (List ℕ)) → Settled g.index kept → Determined (supplement_by g kept)
  unfolding sum_over exponents_over Settled
  supplements-depend [] h = nothing-depends
  supplements-depend (s ∷ kept) h =
      depends-sum (depends-left (exponents_over g kept) (supplement-depends (line_content (line_of s)) (ranged s) h.0))
      (depends-right (exact_of g s).total.exponents (supplements-depend kept h.1))

  pub requirement-determined : (kept : List (List ℕ)) → Settled g.index kept → Determined (requirement_by g kept)
  unfolding requirement_by exact_required exact_oper exact_home
  requirement-determined kept h =
      let rest : DependsOn (exponents_over g kept) (λ x. exact_rest g kept) = depends-constant (rest_sum g kept).proper in
      let home : DependsOn (exponents_over g kept) (λ x. exact_home (sum_over (λ s. (exact_of g s).total.value x) kept) g.terms.header.held) =
      depends-larger (depends-sum (totals-depend kept h) (depends-constant (record { positive = omega arith }))) nothing-depends in
      depends-sum (depends-sum home rest)
      (depends-product (depends-larger (depends-sum (depends-sum home rest) (depends-negated (supplements-depend kept h))) nothing-depends)
      (depends-constant (record { positive = omega arith })))
