-- The table that feeding keeps is that of the lines taken: each place is a sum over the lines. Assumes nothing.
use mathlib.Core.Path.{◌≡◌, refl, sym, ◌∙◌, ap}
use mathlib.Core.Bool.{Bool, true, false}
use mathlib.Core.List.{List, [], ◌∷◌, ◌++◌}
use Prim.Native.Nat.{ℕ, zero, suc, ◌+◌, ◌≤◌, ◌<◌}
use native.Mathlib.Nat.{le_of_suc-le-suc, not-suc-le-zero, add-suc, suc-add}
use native.Mathlib.Omega.{arith}
use lib.Dec.{eqb}
use lib.ListN.{length, get_or, length-set, replicate}
use lib.Seq.{ext_get_or, get_or-set_same, get_or-set_other}
use borrow.Author.Tests.{eqb-true, eqb-false}
use Rattle.exact.specs.Choice.{pick}
use Rattle.line_forms.specs.declared.Content.{Content}
use Rattle.line_forms.specs.Claims.{line_content}
use Rattle.line_forms.specs.Readings.{line_of}
use Rattle.cell_report.specs.declared.Cell.{Cell}
use Rattle.cell_report.specs.CellReport.{place_of}
use Rattle.book_model.specs.Cells.{loan_band, loan_ltv, loan_or, empty_cells, add_at_lem, loan_cell, with_cell, cells_with}
use Rattle.book_model.specs.LineKinds.{sum_by}
use Rattle.book_model.specs.Terms.{Basis}
use Rattle.book_model.proofs.LineSums.{sum_more}
use Rattle.book_model.proofs.Cells.{Between, band-between, loan-ltv-between, Held, a_loan, no_loan, held}

-- n values of a function, from k on
unfoldable pub tabulate : (n k : ℕ) → (ℕ → ℕ) → List ℕ
tabulate zero k f = []
tabulate (suc n) k f = f k ∷ tabulate n (suc k) f

pub tabulate-length : (n k : ℕ) (f : ℕ → ℕ) → length (tabulate n k f) ≡ n
unfolding tabulate
tabulate-length zero k f = refl
tabulate-length (suc n) k f = ap suc (tabulate-length n (suc k) f)

pub tabulate-at : (n k : ℕ) (f : ℕ → ℕ) (i : ℕ) → i < n → get_or (tabulate n k f) i 0 ≡ f (k + i)
unfolding tabulate
tabulate-at zero k f i h = absurd (not-suc-le-zero h)
tabulate-at (suc n) k f zero h = ap f (omega arith)
tabulate-at (suc n) k f (suc i) h = tabulate-at n (suc k) f i (le_of_suc-le-suc h) ∙ ap f (suc-add k i ∙ sym (add-suc k i))

-- what a loan of the cell whose places begin at `place` adds at the place i
unfoldable pub placed : (i place : ℕ) → Cell → ℕ
placed i place x =
    pick (eqb i place) x.count 0 + pick (eqb i (place + 1)) x.balance 0 + pick (eqb i (place + 2)) x.charge.plus 0
    + pick (eqb i (place + 3)) x.charge.minus 0

unfoldable pub placed_by : Basis → ℕ → Content → ℕ
placed_by g i c = loan_or (λ l. placed i (place_of (loan_band l) (loan_ltv g.index l)) (loan_cell g l)) 0 c

-- the table of the lines taken
unfoldable pub cells_of : Basis → List (List ℕ) → List ℕ
cells_of g kept = tabulate 240 0 (λ i. sum_by (placed_by g i) kept)

pub cells-length : (g : Basis) (kept : List (List ℕ)) → length (cells_of g kept) ≡ 240
unfolding cells_of
cells-length g kept = tabulate-length 240 0 (λ i. sum_by (placed_by g i) kept)

pub cells_at : (g : Basis) (kept : List (List ℕ)) (i : ℕ) → i < 240 → get_or (cells_of g kept) i 0 ≡ sum_by (placed_by g i) kept
unfolding cells_of
cells_at g kept i h = tabulate-at 240 0 (λ i. sum_by (placed_by g i) kept) i h ∙ ap (λ (j : ℕ). sum_by (placed_by g j) kept) (omega arith)

pub zeros-tabulated : (n k : ℕ) → replicate n 0 ≡ tabulate n k (λ i. 0)
unfolding tabulate
zeros-tabulated zero k = refl
zeros-tabulated (suc n) k = ap (λ (l : List ℕ). 0 ∷ l) (zeros-tabulated n (suc k))

pub no_cells : (g : Basis) → empty_cells ≡ cells_of g []
unfolding empty_cells cells_of sum_by
no_cells g = zeros-tabulated 240 0

-- One line more

-- a place that is added to
add_at : (l : List ℕ) (at x i : ℕ) → at < length l → get_or (add_at_lem l at x) i 0 ≡ get_or l i 0 + pick (eqb i at) x 0
add_at l at x i h = go (eqb i at) refl
  where
    go : (t : Bool) → eqb i at ≡ t → get_or (add_at_lem l at x) i 0 ≡ get_or l i 0 + pick t x 0
    go true e = let f : i ≡ at = eqb-true i at e in rw f (get_or-set_same l at (get_or l at 0 + x) 0 h)
    go false e = rw (get_or-set_other l at i (get_or l at 0 + x) 0 (eqb-false i at e)) (omega arith)

pub with-cell-length : (l : List ℕ) (place : ℕ) (x : Cell) → length (with_cell l place x) ≡ length l
unfolding with_cell
with-cell-length l place x = simp length-set

with-cell-at : (l : List ℕ) (place : ℕ) (x : Cell) (i : ℕ) → place + 4 ≤ length l → get_or (with_cell l place x) i 0 ≡ get_or l i 0 + placed i place x
unfolding with_cell placed
with-cell-at l place x i h =
    let l1 = add_at_lem l place x.count in
    let l2 = add_at_lem l1 (place + 1) x.balance in
    let l3 = add_at_lem l2 (place + 2) x.charge.plus in
    let n1 : length l1 ≡ length l = length-set l place _ in
    let n2 : length l2 ≡ length l1 = length-set l1 (place + 1) _ in
    let n3 : length l3 ≡ length l2 = length-set l2 (place + 2) _ in
    rw (
      add_at l3 (place + 3) x.charge.minus i (omega arith),
      add_at l2 (place + 2) x.charge.plus i (omega arith),
      add_at l1 (place + 1) x.balance i (omega arith),
      add_at l place x.count i (omega arith),
    )
    (omega arith)

-- the four places of a cell are among the 240
pub place-room : (band ltv : ℕ) → Between 1 12 band → Between 1 5 ltv → place_of band ltv + 4 ≤ 240
place-room band ltv b k = omega (arith, b.least, b.most, k.least, k.most)

module _ (g : Basis) (kept : List (List ℕ)) (s : List ℕ) where
  with-line : (c : Content) →
      (length (cells_with g c (cells_of g kept)) ≡ 240)
      × ((i : ℕ) → get_or (cells_with g c (cells_of g kept)) i 0 ≡ get_or (cells_of g kept) i 0 + placed_by g i c)
  unfolding cells_with placed_by
  with-line c = go (held c)
    where
      go : {c : Content} → Held c →
          (length (cells_with g c (cells_of g kept)) ≡ 240)
          × ((i : ℕ) → get_or (cells_with g c (cells_of g kept)) i 0 ≡ get_or (cells_of g kept) i 0 + placed_by g i c)
      go (a_loan l) = (
        with-cell-length (cells_of g kept) (place_of (loan_band l) (loan_ltv g.index l)) (loan_cell g l) ∙ cells-length g kept,
        λ i. with-cell-at (cells_of g kept) (place_of (loan_band l) (loan_ltv g.index l)) (loan_cell g l) i
            (omega (arith, cells-length g kept, place-room (loan_band l) (loan_ltv g.index l) (band-between l.score) (loan-ltv-between g.index l))),
      )
      go (no_loan e) = (
        rw (e (List ℕ) (λ l. with_cell (cells_of g kept) (place_of (loan_band l) (loan_ltv g.index l)) (loan_cell g l)) (cells_of g kept))
            (cells-length g kept),
        λ i. rw (
          e (List ℕ) (λ l. with_cell (cells_of g kept) (place_of (loan_band l) (loan_ltv g.index l)) (loan_cell g l)) (cells_of g kept),
          e ℕ (λ l. placed i (place_of (loan_band l) (loan_ltv g.index l)) (loan_cell g l)) 0,
        )
            (omega arith),
      )

  pub cells-more : cells_with g (line_content (line_of s)) (cells_of g kept) ≡ cells_of g (kept ++ (s ∷ []))
  cells-more =
      let c = line_content (line_of s) in
      ext_get_or 0 (cells_with g c (cells_of g kept)) (cells_of g (kept ++ (s ∷ []))) ((with-line c).0 ∙ sym (cells-length g (kept ++ (s ∷ []))))
      (λ i h.
      let k : i < 240 = omega (arith, (with-line c).0) in
      (with-line c).1 i ∙ rw (cells_at g kept i k, cells_at g (kept ++ (s ∷ [])) i k) (sym (sum_more (placed_by g i) kept s)))
