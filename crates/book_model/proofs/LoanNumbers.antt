-- What the lines taken add to total and supplement beside the exact amounts, line by line. Assumes nothing.
use mathlib.Core.Path.{◌≡◌, refl, ap, subst}
use mathlib.Core.List.{List, Memᴰ}
use Prim.Native.Nat.{ℕ, ◌*◌}
use native.Mathlib.Omega.{arith}
use Rattle.exact.specs.Fraction.{Fraction, Proper, quotient, whole, ◌⊗◌, ◌≈◌}
use Rattle.exact.proofs.Fractions
use Rattle.exact.proofs.Quantities.{at-every-order, mapped}
use Rattle.exact.proofs.Within.{Within, within-alike, within_wider}
use Rattle.fixed_point.specs.declared.Signed.{Signed}
use Rattle.loan_charge.specs.Promise.{signed_cents, tolerance, Promised}
use Rattle.loan_charge.specs.declared.charge.LoanCharge.{LoanCharge}
use Rattle.loan_charge.proofs.Promise.{promise}
use Rattle.line_forms.specs.declared.Content.{Content}
use Rattle.line_forms.specs.declared.Content.TheVariants.{Loan as loan}
use Rattle.line_forms.specs.declared.Loan.{Loan}
use Rattle.line_forms.specs.Claims.{ShowsInRange, line_content}
use Rattle.line_forms.specs.Readings.{line_of}
use Rattle.figures.specs.declared.Figures.{Figures}
use Rattle.figures.specs.declared.Sums.{Sums}
use Rattle.figures.specs.Figures.{difference}
use Rattle.figures.specs.Sums.{zero_signed}
use Rattle.book_model.specs.Accepted.{counts_in}
use Rattle.book_model.specs.Demand3.{two_numbers, LoanNumbers}
use Rattle.book_model.specs.Exact.{loan_total, loan_supplement, total_by, supplement_by}
use Rattle.book_model.specs.History.{sums_by}
use Rattle.book_model.specs.Ranges.{LoanRanges, Ranged}
use Rattle.book_model.specs.Share.{share, share_with, numbers_with, loan_numbers}
use Rattle.book_model.specs.Terms.{Basis, loan_inputs}
use Rattle.book_model.proofs.Adjustments.{Settled, settled-line}
use Rattle.book_model.proofs.Dependence.{totals-depend, supplements-depend}
use Rattle.book_model.proofs.Near.{ChargeableBasis, chargeable, list_close}
use Rattle.book_model.proofs.Ranged.{ranged}
use Rattle.book_model.proofs.Required.{list-exponents}
use Rattle.book_model.proofs.SetValues.{shown, loan-content}
use Rattle.book_model.proofs.Shapes.{Shape, of_loan, of_other, of_none, shape}

-- both numbers of some sums
abbrev numbers_in_lem : Sums → LoanCharge
numbers_in_lem x = record { total = x.total; supplement = x.supplement }

-- a loan's are those of its charge
loan-adds : (g : Basis) (l : Loan) → numbers_in_lem (share g (loan l)) ≡ loan_numbers g l
unfolding share share_with
loan-adds g l = refl

each-loan : {g : Basis} → ChargeableBasis g → (kept : List (List ℕ)) → Settled g.index kept → (s : List ℕ) (l : Loan) → Memᴰ s kept →
    ShowsInRange s (loan l) → Promised (two_numbers g s) (loan_total g l) (loan_supplement g l)
unfolding numbers_with
each-loan {g} u kept z s l m h =
    let e : line_content (line_of s) ≡ loan l = loan-content s l h in
    let r : LoanRanges l = subst Ranged e (ranged s) in
    rw (e, loan-adds g l) (promise.close (loan_inputs g l) (chargeable u l r (settled-line g.index kept z s m l e)))

no-numbers : (g : Basis) (s : List ℕ) → ((l : Loan) → ShowsInRange s (loan l) → ⊥) → two_numbers g s ≡ record { total = zero_signed; supplement = zero_signed }
no-numbers g s n = go (shape g (line_content (line_of s))) refl
  where
    go : {c : Content} → Shape g c → line_content (line_of s) ≡ c → numbers_in_lem (share g c) ≡ record { total = zero_signed; supplement = zero_signed }
    go (of_loan l) e = absurd (n l (shown s (loan l) tt e))
    go (of_other k z a) e = ap numbers_in_lem a.sums
    go (of_none k a b) e = ap numbers_in_lem a

-- the sums as the report has them
figure-is : (x : Signed) → signed_cents x ≈ signed_cents (difference x.plus x.minus)
figure-is x = record { crossed = omega arith }

-- the sums of n loans near the exact ones, either side written another way
rewritten : {x y x' y' : Fraction} (n : ℕ) → Proper x' → Proper y' → x ≈ x' → y ≈ y' → Within x y (quotient (105 * n) 100) → Within x' y' (whole n ⊗ tolerance)
rewritten n p q e k w = within_wider (record { positive = omega arith }) (record { crossed = omega arith }) (within-alike p q e k w)

pub loan-numbers : {g : Basis} → ChargeableBasis g → (kept : List (List ℕ)) → Settled g.index kept → (f : Figures) →
    f.total ≡ difference (sums_by g kept).total.plus (sums_by g kept).total.minus →
    f.supplement ≡ difference (sums_by g kept).supplement.plus (sums_by g kept).supplement.minus → LoanNumbers g kept f
loan-numbers {g} u kept z f e k =
    let exponents = list-exponents u kept z in
    let law = list_close u kept z in
    let n : ℕ = (counts_in kept).loans in
    let sums : Sums = sums_by g kept in
    record {
      each = each-loan u kept z;
      others = λ s m h. no-numbers g s h;
      total = rw e (at-every-order (total_by g kept) _ exponents (mapped (λ m c.
          let w = rewritten n c.near_total.lower (record { positive = omega arith }) (Fractions.same_refl _) (figure-is sums.total) c.near_total in
          (w.lower, (w.at_most, w.near))) law));
      supplement = rw k (at-every-order (supplement_by g kept) _ exponents (mapped (λ m c.
          let w = rewritten n (record { positive = omega arith }) c.near_supplement.upper (figure-is sums.supplement) (Fractions.same_refl _)
          c.near_supplement in
          (w.upper, (w.at_most, w.near))) law));
      total_determined = totals-depend u kept z;
      supplement_determined = supplements-depend u kept z;
    }
