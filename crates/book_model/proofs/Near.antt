-- The sums of the loans' numbers near the exact sums, from some order on with exp(-y) taken as 1 / E(m).
-- Assumes nothing.
use mathlib.Core.Path.{◌≡◌, refl}
use mathlib.Core.Bool.{false}
use mathlib.Core.List.{List, [], ◌∷◌}
use Prim.Native.Nat.{ℕ, ◌+◌, ◌*◌, ◌^◌, ◌≤◌}
use native.Mathlib.Omega.{arith}
use Rattle.exact.specs.Fraction.{Fraction, quotient, whole, ◌⊕◌, ◌≼◌, ◌≈◌}
use Rattle.exact.specs.Quantity.{Eventually}
use Rattle.exact.proofs.Fractions
use Rattle.exact.proofs.Within.{Within, within-sum, within-alike, within_wider, within_same}
use Rattle.exact.proofs.Quantities.{both, mapped, always}
use Rattle.fixed_point.specs.declared.Signed.{Signed}
use Rattle.loan_charge.specs.Charge.{Chargeable}
use Rattle.loan_charge.specs.Promise.{NearExact, signed_cents}
use Rattle.loan_charge.specs.CreditFactor.{RatesInRange}
use Rattle.loan_charge.specs.declared.charge.LoanCharge.{LoanCharge}
use Rattle.loan_charge.specs.declared.Score.{Score}
use Rattle.loan_charge.proofs.Promise.{promise}
use Rattle.line_forms.specs.declared.Content.{Content}
use Rattle.line_forms.specs.declared.Loan.{Loan}
use Rattle.line_forms.specs.Claims.{line_refusal, line_content}
use Rattle.line_forms.specs.Readings.{line_of}
use Rattle.figures.specs.declared.Sums.{Sums}
use Rattle.figures.specs.Sums.{sum_of, plus, signed_sum_lem}
use Rattle.book_model.specs.Accepted.{counts_in}
use Rattle.book_model.specs.Exact.{exact_share, exact_of, sum_over}
use Rattle.book_model.specs.History.{sums_by}
use Rattle.book_model.specs.declared.Adjustment.{Adjustment}
use Rattle.book_model.specs.HouseIndex.{adjustment_of, lacking}
use Rattle.book_model.specs.LineKinds.{content_kind, kind_counts}
use Rattle.book_model.specs.Ranges.{LoanRanges, AdjustmentRanges, Ranged}
use Rattle.book_model.specs.Share.{share, share_with, loan_share, numbers_with, loan_numbers}
use Rattle.book_model.specs.Terms.{Terms, Basis, factor_for, inputs_with, loan_inputs}
use Rattle.book_model.proofs.Adjustments.{Has, Settled, InHundredths, adjustment-ranges, ratio-ranges}
use Rattle.book_model.proofs.Ranged.{ranged}
use Rattle.book_model.proofs.Shapes.{Shape, of_loan, of_other, of_none, shape}

-- so many loans, each within 1.05 cents
abbrev width : ℕ → Fraction
width n = quotient (105 * n) 100

-- sums of numbers near exact sums, on their sides
pub record Close (total supplement : Fraction) (s : Sums) (n : ℕ) : Type 0 where
  pub near_total : Within total (signed_cents s.total) (width n)
  pub near_supplement : Within (signed_cents s.supplement) supplement (width n)

-- no loan
none-close : (s : Sums) → s.total ≡ record { plus = 0; minus = 0 } → s.supplement ≡ record { plus = 0; minus = 0 } → Close (whole 0) (whole 0) s 0
none-close s e f =
    record {
      near_total = rw e (within_wider (record { positive = omega arith }) (record { crossed = omega arith })
          (within_same (record { positive = omega arith }) (record { positive = omega arith }) (record { crossed = refl })));
      near_supplement = rw f (within_wider (record { positive = omega arith }) (record { crossed = omega arith })
          (within_same (record { positive = omega arith }) (record { positive = omega arith }) (record { crossed = refl })));
    }

-- one loan
one-close : {total supplement : Fraction} (c : LoanCharge) (s : Sums) → s.total ≡ c.total → s.supplement ≡ c.supplement → NearExact c total supplement →
    Close total supplement s 1
one-close {total} {supplement} c s e f n =
    record {
      near_total = rw e (record {
        lower = n.total_proper;
        upper = record { positive = omega arith };
        width = record { positive = omega arith };
        at_most = n.total_at_least;
        near = Fractions.at-most-of-below n.total_near;
      });
      near_supplement = rw f (record {
        lower = record { positive = omega arith };
        upper = n.supplement_proper;
        width = record { positive = omega arith };
        at_most = n.supplement_at_most;
        near = record { crossed = omega (arith, n.supplement_near.crossed) };
      });
    }

-- together
sum-signed : (x y : Signed) → signed_cents x ⊕ signed_cents y ≈ signed_cents (signed_sum_lem x y)
sum-signed x y = record { crossed = omega arith }

sum-width : (m n : ℕ) → width m ⊕ width n ≼ width (m + n)
sum-width m n = record { crossed = omega arith }

sum-close : {a b c d : Fraction} {x y : Sums} {m n : ℕ} → Close a b x m → Close c d y n → Close (a ⊕ c) (b ⊕ d) (plus x y) (m + n)
sum-close {x = x} {y = y} {m = m} {n = n} h k =
    record {
      near_total = within_wider (record { positive = omega arith }) (sum-width m n)
          (within-alike (Fractions.proper-sum h.near_total.lower k.near_total.lower) (record { positive = omega arith }) (Fractions.same_refl _)
          (sum-signed x.total y.total) (within-sum h.near_total k.near_total));
      near_supplement = within_wider (record { positive = omega arith }) (sum-width m n)
          (within-alike (record { positive = omega arith }) (Fractions.proper-sum h.near_supplement.upper k.near_supplement.upper)
          (sum-signed x.supplement y.supplement) (Fractions.same_refl _) (within-sum h.near_supplement k.near_supplement));
    }

-- Terms and index values by which every loan that has its values can be charged
pub record ChargeableBasis (g : Basis) : Type 0 where
  pub factors : (s : Score) → factor_for g.terms s ≤ 3 * 10 ^ 17
  pub values : InHundredths g.index

pub rates-chargeable : (t : Terms) → RatesInRange t.rates → (s : Score) → factor_for t s ≤ 3 * 10 ^ 17
unfolding factor_for
rates-chargeable t r s = (promise.factors t.rates r _ t.header.loans t.header.unscored s).most

pub inputs-chargeable : (t : Terms) (a : Adjustment) (l : Loan) → factor_for t l.score ≤ 3 * 10 ^ 17 → LoanRanges l → AdjustmentRanges a →
    Chargeable (inputs_with t a l)
inputs-chargeable t a l m r k =
    let z = ratio-ranges a l r k in
    record {
      divisor_least = z.over_least;
      divisor_most = omega (arith, z.over_most);
      balance_most = r.balance_most;
      months_least = r.months_least;
      months_most = r.months_most;
      factor_most = m;
    }

pub chargeable : {g : Basis} → ChargeableBasis g → (l : Loan) → LoanRanges l → lacking (adjustment_of g.index l) ≡ false → Chargeable (loan_inputs g l)
chargeable {g} u l r e = inputs-chargeable g.terms (adjustment_of g.index l) l (u.factors l.score) r (adjustment-ranges u.values l e)

line-close : {g : Basis} → ChargeableBasis g → (n : ℕ) (c : Content) → Ranged c → Has g.index c →
    Eventually (λ x. Close ((exact_share g c).total.value x) ((exact_share g c).supplement.value x) (share g c) (kind_counts (content_kind n c)).loans)
unfolding exact_share share share_with numbers_with content_kind kind_counts
line-close {g} u n c r h = go (shape g c) r h
  where
    go : {c : Content} → Shape g c → Ranged c → Has g.index c →
        Eventually (λ x. Close ((exact_share g c).total.value x) ((exact_share g c).supplement.value x) (share g c) (kind_counts (content_kind n c)).loans)
    go (of_loan l) r h =
        mapped (λ m k. one-close (loan_numbers g l) (loan_share g l) refl refl k)
        (promise.near (loan_inputs g l) (chargeable u l r h))
    go (of_other k z a) r h = rw (k n, a.sums, a.exactly) (always (λ m. none-close _ refl refl))
    go (of_none k a b) r h = rw (k n, a, b) (always (λ m. none-close _ refl refl))

pub list_close : {g : Basis} → ChargeableBasis g → (kept : List (List ℕ)) → Settled g.index kept →
    Eventually (λ x. Close (sum_over (λ s. (exact_of g s).total.value x) kept) (sum_over (λ s. (exact_of g s).supplement.value x) kept) (sums_by g kept)
    (counts_in kept).loans)
unfolding sum_over sums_by sum_of counts_in Settled
list_close u [] h = always (λ m. none-close _ refl refl)
list_close {g} u (s ∷ kept) h =
    mapped (λ m k. sum-close k.0 k.1)
    (both (line-close u (line_refusal (line_of s)) (line_content (line_of s)) (ranged s) h.0) (list_close u kept h.1))
