-- The table of cells: the cell of a loan is one of 60, and every table that opening and feeding give is bounded. Assumes nothing.
use mathlib.Core.Path.{◌≡◌, refl}
use mathlib.Core.Bool.{Bool, true, false}
use mathlib.Core.List.{List, [], ◌∷◌}
use Prim.Native.Nat.{ℕ, zero, suc, ◌+◌, ◌*◌, ◌^◌, ◌≤◌, ◌<◌}
use native.Mathlib.Omega.{arith}
use lib.ListN.{get_or, replicate}
use Rattle.exact.specs.Choice.{pick}
use Rattle.cell_report.specs.declared.Cell.{Cell}
use Rattle.loan_charge.specs.CreditFactor.{count}
use Rattle.loan_charge.specs.declared.Score.{Score}
use Rattle.loan_charge.specs.declared.Score.TheVariants.{Scored, Unscored}
use Rattle.loan_charge.proofs.CreditLaws.{band-most}
use Rattle.line_forms.specs.declared.Loan.{Loan}
use Rattle.line_forms.specs.declared.Content.{Content}
use Rattle.line_forms.specs.declared.Content.TheVariants.{Header as header, Loan as loan, Policy as policy, Derivative as derivative, Asset as asset}
use Rattle.line_forms.specs.declared.Content.TheVariants.{Amount as amount, Index as index, Mark as mark, NoForm}
use Rattle.book_model.specs.HouseIndex.{Index}
use Rattle.book_model.specs.Ranges.{CellRanges}
use Rattle.book_model.specs.Cells.{band_of, beyond, ltv_of, loan_ltv, loan_or, empty_cells, add_at_lem, with_cell, CellsBounded}

-- A line holds a loan, or whatever is asked of its loan is what stands for none.
pub data Held : Content → Type 1 where
  a_loan : (l : Loan) → Held (loan l)
  no_loan : {c : Content} → ((A : Type 0) (f : Loan → A) (x : A) → loan_or f x c ≡ x) → Held c

pub held : (c : Content) → Held c
held (header h) = no_loan (λ A f x. refl)
held (loan l) = a_loan l
held (policy p) = no_loan (λ A f x. refl)
held (derivative d) = no_loan (λ A f x. refl)
held (asset a) = no_loan (λ A f x. refl)
held (amount a) = no_loan (λ A f x. refl)
held (index i) = no_loan (λ A f x. refl)
held (mark m) = no_loan (λ A f x. refl)
held NoForm = no_loan (λ A f x. refl)

-- Bands and columns

pub record Between (low high n : ℕ) : Type 0 where
  pub least : low ≤ n
  pub most : n ≤ high

pub band-between : (s : Score) → Between 1 12 (band_of s)
unfolding band_of
band-between (Scored number age) = record { least = omega arith; most = omega (arith, band-most number) }
band-between Unscored = record { least = omega arith; most = omega arith }

pub ltv-between : (p q : ℕ) → Between 1 5 (ltv_of p q)
unfolding ltv_of count
ltv-between p q = record {
  least = omega arith;
  most = omega (arith, one (beyond 65 p q), one (beyond 80 p q), one (beyond 90 p q), one (beyond 95 p q));
}
  where
    one : (t : Bool) → pick t 1 0 ≤ 1
    one true = omega arith
    one false = omega arith

pub loan-ltv-between : (values : Index) (l : Loan) → Between 1 5 (loan_ltv values l)
loan-ltv-between values l = ltv-between _ _

-- Bounds

add_most : (l : List ℕ) (at x j : ℕ) → get_or (add_at_lem l at x) j 0 ≤ get_or l j 0 + x
add_most [] at x j = omega arith
add_most (y ∷ ys) zero x zero = omega arith
add_most (y ∷ ys) zero x (suc j) = omega arith
add_most (y ∷ ys) (suc at) x zero = omega arith
add_most (y ∷ ys) (suc at) x (suc j) = add_most ys at x j

pub bounded-more : (l : List ℕ) (at x n : ℕ) → x ≤ 300000000 → CellsBounded l n → CellsBounded (add_at_lem l at x) (n + 1)
bounded-more l at x n h b = record { each = λ i. omega (arith, add_most l at x i, b.each i) }

-- a place has room for one addition more
pub fits : (l : List ℕ) (at x n : ℕ) → x ≤ 300000000 → n ≤ 5000000 → CellsBounded l n → get_or l at 0 + x < 2 ^ 64
fits l at x n h k b = omega (arith, b.each at)

pub bounded-wider : (cells : List ℕ) {m n : ℕ} → m ≤ n → CellsBounded cells m → CellsBounded cells n
bounded-wider cells h b = record { each = λ i. omega (arith, b.each i) }

-- a loan is four additions
pub cell-more : (cells : List ℕ) (place n : ℕ) (x : Cell) → CellRanges x → CellsBounded cells (4 * n) → CellsBounded (with_cell cells place x) (4 * (n + 1))
unfolding with_cell
cell-more cells place n x s b =
    bounded-wider _ (omega arith)
    (bounded-more _ _ _ _ s.minus (bounded-more _ _ _ _ s.plus (bounded-more _ _ _ _ s.balance (bounded-more cells _ _ (4 * n) s.count b))))

pub zeros : (n i : ℕ) → ◌≡◌ {A = ℕ} (get_or (replicate n 0) i 0) 0
zeros zero i = refl
zeros (suc n) zero = refl
zeros (suc n) (suc i) = zeros n i

pub none-bounded : (n : ℕ) → CellsBounded empty_cells n
unfolding empty_cells
none-bounded n = record { each = λ i. omega (arith, zeros 240 i) }
