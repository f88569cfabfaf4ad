-- What a line adds is bounded, and counted by its kind. Assumes nothing.
use mathlib.Core.Path.{◌≡◌, refl}
use Prim.Native.Nat.{ℕ, ◌+◌}
use native.Mathlib.Omega.{arith}
use Rattle.loan_charge.specs.Charge.{Chargeable}
use Rattle.loan_charge.proofs.Promise.{promise}
use Rattle.line_forms.specs.declared.Content.{Content}
use Rattle.line_forms.specs.declared.Loan.{Loan}
use Rattle.figures.specs.Sums.{Bounded, no_counts}
use Rattle.book_model.specs.declared.Adjustment.{Adjustment}
use Rattle.book_model.specs.HouseIndex.{adjustment_of, index_line}
use Rattle.book_model.specs.LineKinds.{content_kind, kind_counts, with_indexed}
use Rattle.book_model.specs.Ranges.{Ranged}
use Rattle.book_model.specs.Share.{share, share_with, numbers_with}
use Rattle.book_model.specs.Terms.{Terms, Basis, inputs_with}
use Rattle.book_model.proofs.Adjustments.{Has}
use Rattle.book_model.proofs.Near.{ChargeableBasis, chargeable}
use Rattle.book_model.proofs.Shapes.{Shape, of_loan, of_other, of_none, shape}
use Rattle.book_model.proofs.Tests.{counts-once}

pub loan-bounded : (t : Terms) (a : Adjustment) (l : Loan) → Chargeable (inputs_with t a l) → Bounded (share_with t a l)
unfolding share_with numbers_with kind_counts
loan-bounded t a l c =
    let total = promise.total_range (inputs_with t a l) c in
    let supplement = promise.supplement_range (inputs_with t a l) c in
    record {
      unscored = omega (arith, counts-once l.score);
      fresh = omega (arith, counts-once l.score);
      total_plus = total.most;
      total_minus = total.least;
      supplement_plus = supplement.most;
      supplement_minus = supplement.least;
      rest_cents = omega arith;
      rest_parts = omega arith;
      moved_cents = omega arith;
      moved_parts = omega arith;
      equity_plus = omega arith;
      equity_minus = omega arith;
      aoci_plus = omega arith;
      aoci_minus = omega arith;
      b = omega arith;
      c = omega arith;
    }

pub share-bounded : {g : Basis} → ChargeableBasis g → (c : Content) → Ranged c → Has g.index c → Bounded (share g c)
unfolding share
share-bounded {g} u c r h = go (shape g c) r h
  where
    go : {c : Content} → Shape g c → Ranged c → Has g.index c → Bounded (share g c)
    go (of_loan l) r h = loan-bounded g.terms (adjustment_of g.index l) l (chargeable u l r h)
    go (of_other k z a) r h = rw a.sums (a.bounds r)
    go (of_none k a b) r h = rw a (omega arith)

none-counted : (n : ℕ) → with_indexed no_counts n ≡ record { loans = 0; unscored = 0; fresh = 0; other = n }
none-counted n = let e : 0 + n ≡ n = omega arith in λ i. record { loans = 0; unscored = 0; fresh = 0; other = e i }

-- What the data of a line adds to the counts, with the index lines, is how its kind counts; n is the number that line reading gave.
pub counted : (g : Basis) (n : ℕ) (c : Content) → with_indexed (share g c).counts (index_line c) ≡ kind_counts (content_kind n c)
unfolding share share_with content_kind kind_counts
counted g n c = go (shape g c)
  where
    go : {c : Content} → Shape g c → with_indexed (share g c).counts (index_line c) ≡ kind_counts (content_kind n c)
    go (of_loan l) = refl
    go (of_other k z a) = rw (k n, z, a.sums) refl
    go (of_none {c} k a b) = rw (k n, a) (none-counted (index_line c))
