-- The sums of rest and moved, in ten-millionths of a cent, are the exact ones; rounded up once they are the report's.
-- Assumes nothing.
use mathlib.Core.Path.{◌≡◌, refl}
use mathlib.Core.List.{List, [], ◌∷◌}
use Prim.Native.Nat.{ℕ, ◌+◌}
use native.Mathlib.Omega.{arith}
use lib.Dec.{lit<}
use Rattle.exact.specs.Fraction.{Fraction, ◌⊕◌, ceiling}
use Rattle.exact.proofs.Fractions
use Rattle.exact.proofs.Fractions.{Nonnegative}
use Rattle.exact.proofs.Within.{ceiling-alike}
use Rattle.line_forms.specs.declared.Content.{Content}
use Rattle.line_forms.specs.Claims.{line_content}
use Rattle.line_forms.specs.Readings.{line_of}
use Rattle.other_charges.proofs.ChargeLaws.{InParts}
use Rattle.figures.specs.declared.Money.{Money}
use Rattle.figures.specs.declared.Sums.{Sums}
use Rattle.figures.specs.Figures.{whole_cents_lem}
use Rattle.figures.specs.Sums.{sum_of, in_parts, money_of, money_sum_lem, no_sums, plus}
use Rattle.figures.proofs.SumsLaws.{money-whole, money-added}
use Rattle.book_model.specs.Exact.{ExactShare, exact_share, exact_rest, exact_moved, sum_over}
use Rattle.book_model.specs.History.{sums_by}
use Rattle.book_model.specs.Share.{share, share_with}
use Rattle.book_model.specs.Terms.{Basis}
use Rattle.book_model.proofs.Shapes.{Shape, of_loan, of_other, of_none, shape, no-parts}

-- a line's amount from its charge in ten-millionths
money-is : {x : Fraction} (n : ℕ) → InParts x n → InParts x (in_parts (money_of n))
money-is n h = rw (money-whole n) h

rest_is : (g : Basis) (c : Content) → InParts (exact_share g c).rest (in_parts (share g c).rest)
unfolding exact_share share share_with
rest_is g c = go (shape g c)
  where
    go : {c : Content} → Shape g c → InParts (exact_share g c).rest (in_parts (share g c).rest)
    go (of_loan l) = no-parts
    go (of_other k z a) = rw (a.sums, a.exactly) (money-is a.rest a.rest_is)
    go (of_none k a b) = rw (a, b) no-parts

moved_is : (g : Basis) (c : Content) → InParts (exact_share g c).moved (in_parts (share g c).moved)
unfolding exact_share share share_with
moved_is g c = go (shape g c)
  where
    go : {c : Content} → Shape g c → InParts (exact_share g c).moved (in_parts (share g c).moved)
    go (of_loan l) = no-parts
    go (of_other k z a) = rw (a.sums, a.exactly) (money-is a.moved a.moved_is)
    go (of_none k a b) = rw (a, b) no-parts

-- two amounts together
added : {x y : Fraction} {m n : ℕ} → InParts x m → InParts y n → InParts (x ⊕ y) (m + n)
added {x} {y} {m} {n} h k =
    record {
      proper = Fractions.proper-sum h.proper k.proper;
      same = Fractions.same-trans (Fractions.proper-sum (Fractions.proper-quotient m (lit< tt)) (Fractions.proper-quotient n (lit< tt)))
          (Fractions.same_sum h.same k.same) (record { crossed = omega arith });
    }

-- A sum over lines, given for each line: `exact` takes it from what a line adds exactly, `amount` from the sums.
module _ (g : Basis) (exact : ExactShare → Fraction) (amount : Sums → Money)
    (empty : in_parts (amount no_sums) ≡ 0)
    (joined : (x y : Sums) → amount (plus x y) ≡ money_sum_lem (amount x) (amount y))
    (each : (c : Content) → InParts (exact (exact_share g c)) (in_parts (amount (share g c)))) where
  sum_is : (kept : List (List ℕ)) → InParts (sum_over (λ s. exact (exact_share g (line_content (line_of s)))) kept) (in_parts (amount (sums_by g kept)))
  unfolding sum_over sums_by sum_of
  sum_is [] = rw empty no-parts
  sum_is (s ∷ kept) =
      rw (joined (share g (line_content (line_of s))) (sums_by g kept), money-added (amount (share g (line_content (line_of s)))) (amount (sums_by g kept)))
      (added (each (line_content (line_of s))) (sum_is kept))

pub rest_sum : (g : Basis) (kept : List (List ℕ)) → InParts (exact_rest g kept) (in_parts (sums_by g kept).rest)
rest_sum g kept = sum_is g (λ x. x.rest) (λ s. s.rest) refl (λ x y. refl) (rest_is g) kept

pub moved_sum : (g : Basis) (kept : List (List ℕ)) → InParts (exact_moved g kept) (in_parts (sums_by g kept).moved)
moved_sum g kept = sum_is g (λ x. x.moved) (λ s. s.moved) refl (λ x y. refl) (moved_is g) kept

-- Rounded up once, the sums are the exact amounts rounded up.
pub rounded-is : {x : Fraction} (m : Money) → InParts x (in_parts m) → whole_cents_lem m ≡ ceiling x
unfolding ceiling
rounded-is m h = omega (arith, ceiling-alike h.proper (Fractions.proper-quotient (in_parts m) (lit< tt)) h.same)

pub parts-nonnegative : {x : Fraction} {n : ℕ} → InParts x n → Nonnegative x
parts-nonnegative {n = n} h = Fractions.nonnegative-same (Fractions.proper-quotient n (lit< tt)) h.proper (Fractions.same-sym h.same)
    (record { above = omega arith })
