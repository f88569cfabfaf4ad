-- 02, L4: what is claimed of the house price index and of the loans that go by it. Over the lines taken; proved in proofs/AdjustedValues.antt,
-- and through the calls themselves in the crate histories.
use Rattle.std.specs.Prelude.{ℕ, ◌≤◌, ◌≡◌, ◌↔◌}
use mathlib.Core.List.{List, Memᴰ}
use Rattle.exact.specs.Fraction.{quotient, whole, ◌⊗◌, Equals}
use Rattle.line_forms.specs.declared.Loan.{Loan}
use Rattle.line_forms.specs.declared.Content.TheVariants.{Loan as loan, Index as index}
use Rattle.line_forms.specs.Claims.{ShowsInRange}
use Rattle.book_model.specs.Cells.{ltv_of, loan_ltv}
use Rattle.book_model.specs.Demand2.{Indexed, IsSet, IsReturn}
use Rattle.book_model.specs.History.{History, all_fed, lines_taken}
use Rattle.book_model.specs.HouseIndex.{values_in}
use Rattle.book_model.specs.Share.{loan_numbers}
use Rattle.book_model.specs.Terms.{Basis, factor_for, loan_inputs}

-- The ratio of value to balance that a loan is charged by, for these values of the index.
pub record AdjustedRatio (g : Basis) (l : Loan) : Type 0 where
  -- from 200501 to 201511: value × index of 201512 / index of its month, of its area, exactly
  pub indexed : Indexed l → 1 ≤ l.balance → 1 ≤ g.index l.area l.from →
      Equals (quotient (loan_inputs g l).value (loan_inputs g l).over)
      (whole l.value ⊗ quotient (g.index l.area 201512) (g.index l.area l.from) ⊗ quotient 1 l.balance)
  -- before and after: the value as it is written, whatever the index
  pub kept : (Indexed l → ⊥) → ((loan_inputs g l).value ≡ l.value) × ((loan_inputs g l).over ≡ l.balance)

pub record AdjustedValues : Type 0 where
  -- The value for an area and month is that of the one line taken that sets it.
  pub values : (past : History) (area month value : ℕ) → 1 ≤ value →
      (values_in (lines_taken past) area month ≡ value) ↔
      ((s : List ℕ) × Memᴰ s (lines_taken past) × ShowsInRange s (index (record { area = area; month = month; value = value })))
  -- It is above 0 exactly where such a line was taken,
  pub set : (past : History) (area month : ℕ) → (1 ≤ values_in (lines_taken past) area month) ↔ IsSet (lines_taken past) area month
  -- and once set it stays, whatever is fed but a return to a mark (02, L6).
  pub stays : (past : History) (lines : List (List ℕ)) → ((s : List ℕ) → Memᴰ s lines → IsReturn s → ⊥) → (area month : ℕ) →
      1 ≤ values_in (lines_taken past) area month →
      values_in (lines_taken (all_fed past lines)) area month ≡ values_in (lines_taken past) area month
  -- Every loan taken from 200501 to 201511 has both its values,
  pub settled : (past : History) (s : List ℕ) (l : Loan) → Memᴰ s (lines_taken past) → ShowsInRange s (loan l) → Indexed l →
      IsSet (lines_taken past) l.area l.from × IsSet (lines_taken past) l.area 201512
  -- by which it is charged, and its column of the table of cells goes by the same ratio;
  pub ratio : (g : Basis) (l : Loan) → AdjustedRatio g l
  pub column : (g : Basis) (l : Loan) → loan_ltv g.index l ≡ ltv_of (loan_inputs g l).value (loan_inputs g l).over
  -- its two numbers depend on its line, on m and on these two values, and on nothing else.
  pub depends : (g k : Basis) (l : Loan) → factor_for g.terms l.score ≡ factor_for k.terms l.score →
      (Indexed l → (g.index l.area l.from ≡ k.index l.area l.from) × (g.index l.area 201512 ≡ k.index l.area 201512)) →
      loan_numbers g l ≡ loan_numbers k l
