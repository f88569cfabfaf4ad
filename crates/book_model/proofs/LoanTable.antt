-- Request L1 over the definitions: the table is that of the loans taken, cell by cell. Assumes nothing.
use mathlib.Core.Path.{◌≡◌, refl, sym, ◌∙◌, ap, ap₂}
use mathlib.Core.Bool.{Bool, true, false, ◌&&◌, true≢false, false≢true}
use mathlib.Core.List.{List, [], ◌∷◌, Permᴰ}
use Prim.Native.Nat.{ℕ, zero, suc, ◌+◌, ◌≤◌, ◌<◌}
use native.Mathlib.Omega.{arith}
use lib.Dec.{eqb}
use lib.ListN.{get_or}
use borrow.Author.Tests.{eqb-true, eqb-false, eq-eqb, ne_eqb}
use Rattle.exact.specs.Choice.{pick}
use Rattle.cell_report.specs.declared.Cell.{Cell}
use Rattle.line_forms.specs.declared.Loan.{Loan}
use Rattle.line_forms.specs.declared.Content.{Content}
use Rattle.line_forms.specs.declared.Content.TheVariants.{Loan as loan}
use Rattle.line_forms.specs.Claims.{ShowsInRange, line_content}
use Rattle.line_forms.specs.Readings.{line_of}
use Rattle.cell_report.specs.CellReport.{place_of, cell_at}
use Rattle.cell_report.proofs.Laws.{cells-alike}
use Rattle.book_model.specs.Accepted.{Accepted}
use Rattle.book_model.specs.Calls.{cells_size, cells_text_of}
use Rattle.book_model.specs.Cells.{loan_band, loan_ltv, loan_or, loan_cell}
use Rattle.book_model.specs.Demand3.{figures_for}
use Rattle.book_model.specs.History.{opened, all_fed, terms_of, accepted_of, lines_taken}
use Rattle.book_model.specs.HouseIndex.{Index}
use Rattle.book_model.specs.LineKinds.{kind_counts, sum_by}
use Rattle.book_model.specs.LoanTable.{in_cell, CellAdds, cell_by, cells_for, sum_to, over_cells, CellSums, WritesCells, SameTables, LoanTable}
use Rattle.book_model.specs.Share.{loan_numbers, share_with, share}
use Rattle.book_model.specs.Terms.{Terms, Basis, basis_of}
use Rattle.book_model.proofs.Bands.{bands, columns}
use Rattle.book_model.proofs.Cells.{Between, band-between, loan-ltv-between, Held, a_loan, no_loan, held}
use Rattle.book_model.proofs.Demand3.{after_is, writes-of, basis-permuted, same-texts}
use Rattle.book_model.proofs.LineSums.{sum_alike, sum-permuted, sums-number}
use Rattle.book_model.proofs.SetValues.{shown, loan-content}
use Rattle.book_model.proofs.Shapes.{Shape, of_loan, of_other, of_none, shape}
use Rattle.book_model.proofs.Steps.{book_of, state_of}
use Rattle.book_model.proofs.Tables.{placed, placed_by, cells_of, cells_at, place-room}

-- The four places of a cell

yes-at : (i at x : ℕ) → i ≡ at → pick (eqb i at) x 0 ≡ x
yes-at i at x e = rw (eq-eqb i at e) refl

not_at : (i at x : ℕ) → (i ≡ at → ⊥) → pick (eqb i at) x 0 ≡ 0
not_at i at x e = rw (ne_eqb i at e) refl

-- what a loan adds at the place i of a table, by where its cell's places begin
module _ (i place : ℕ) (x : Cell) where
  adds-count : i ≡ place → placed i place x ≡ x.count
  unfolding placed
  adds-count e =
      omega (
        arith,
        yes-at i place x.count e,
        not_at i (place + 1) x.balance (λ f. omega (arith, e, f)),
        not_at i (place + 2) x.charge.plus (λ f. omega (arith, e, f)),
        not_at i (place + 3) x.charge.minus (λ f. omega (arith, e, f)),
      )

  adds-balance : i ≡ place + 1 → placed i place x ≡ x.balance
  unfolding placed
  adds-balance e =
      omega (
        arith,
        not_at i place x.count (λ f. omega (arith, e, f)),
        yes-at i (place + 1) x.balance e,
        not_at i (place + 2) x.charge.plus (λ f. omega (arith, e, f)),
        not_at i (place + 3) x.charge.minus (λ f. omega (arith, e, f)),
      )

  adds-plus : i ≡ place + 2 → placed i place x ≡ x.charge.plus
  unfolding placed
  adds-plus e =
      omega (
        arith,
        not_at i place x.count (λ f. omega (arith, e, f)),
        not_at i (place + 1) x.balance (λ f. omega (arith, e, f)),
        yes-at i (place + 2) x.charge.plus e,
        not_at i (place + 3) x.charge.minus (λ f. omega (arith, e, f)),
      )

  adds-minus : i ≡ place + 3 → placed i place x ≡ x.charge.minus
  unfolding placed
  adds-minus e =
      omega (
        arith,
        not_at i place x.count (λ f. omega (arith, e, f)),
        not_at i (place + 1) x.balance (λ f. omega (arith, e, f)),
        not_at i (place + 2) x.charge.plus (λ f. omega (arith, e, f)),
        yes-at i (place + 3) x.charge.minus e,
      )

  adds_none : ((j : ℕ) → j < 4 → i ≡ place + j → ⊥) → placed i place x ≡ 0
  unfolding placed
  adds_none h =
      omega (
        arith,
        not_at i place x.count (λ f. h 0 (omega arith) (omega (arith, f))),
        not_at i (place + 1) x.balance (h 1 (omega arith)),
        not_at i (place + 2) x.charge.plus (h 2 (omega arith)),
        not_at i (place + 3) x.charge.minus (h 3 (omega arith)),
      )

-- Two cells are the same where band and column are, and else have no place in common.

both : (a b : Bool) → (a && b) ≡ true → (a ≡ true) × (b ≡ true)
both true true e = (refl, refl)
both true false e = absurd (false≢true e)
both false b e = absurd (false≢true e)

module _ (values : Index) (band ltv : ℕ) (l : Loan) (b : Between 1 12 band) (k : Between 1 5 ltv) where
  same-cell : (eqb (loan_band l) band && eqb (loan_ltv values l) ltv) ≡ true → place_of (loan_band l) (loan_ltv values l) ≡ place_of band ltv
  same-cell e =
      let (x, y) = both (eqb (loan_band l) band) (eqb (loan_ltv values l) ltv) e in
      ap₂ place_of (eqb-true (loan_band l) band x) (eqb-true (loan_ltv values l) ltv y)

  other-cell : (eqb (loan_band l) band && eqb (loan_ltv values l) ltv) ≡ false → (i j : ℕ) → i < 4 → j < 4 →
      place_of band ltv + i ≡ place_of (loan_band l) (loan_ltv values l) + j → ⊥
  other-cell e i j h m f =
      let x = band-between l.score in
      let y = loan-ltv-between values l in
      let same : (loan_band l ≡ band) × (loan_ltv values l ≡ ltv) = (
        omega (arith, f, b.least, b.most, k.least, k.most, x.least, x.most, y.least, y.most),
        omega (arith, f, b.least, b.most, k.least, k.most, x.least, x.most, y.least, y.most),
      ) in
      true≢false (sym (rw (eq-eqb (loan_band l) band same.0, eq-eqb (loan_ltv values l) ltv same.1) refl) ∙ e)

-- What a line adds to a cell, by its bytes

no_member : (test : Bool) (n : ℕ) → (test ≡ true → ⊥) → pick test n 0 ≡ 0
no_member true n h = absurd (h refl)
no_member false n h = refl

cell-adds : (values : Index) (s : List ℕ) (band ltv : ℕ) (f : Loan → ℕ) → CellAdds values s band ltv f
cell-adds values s band ltv f = record {
  member = λ l h b k. rw (loan-content s l h, eq-eqb (loan_band l) band b, eq-eqb (loan_ltv values l) ltv k) refl;
  other = λ h. go (held (line_content (line_of s))) refl h;
}
  where
    go : {c : Content} → Held c → line_content (line_of s) ≡ c → ((x : Loan) → ShowsInRange s (loan x) → loan_band x ≡ band → loan_ltv values x ≡ ltv → ⊥) →
        in_cell values band ltv f c ≡ 0
    go (a_loan l) e h =
        no_member (eqb (loan_band l) band && eqb (loan_ltv values l) ltv) (f l)
        (λ t.
        let (b, k) = both (eqb (loan_band l) band) (eqb (loan_ltv values l) ltv) t in
        h l (shown s (loan l) tt e) (eqb-true (loan_band l) band b) (eqb-true (loan_ltv values l) ltv k))
    go (no_loan n) e h = n ℕ _ 0

-- The place j of a cell sums f over the loans of its band and column, where f is what a loan adds there.
module _ (g : Basis) (band ltv j : ℕ) (b : Between 1 12 band) (k : Between 1 5 ltv) (few : j < 4) (f : Loan → ℕ)
    (adds : (l : Loan) (i : ℕ) → i ≡ place_of (loan_band l) (loan_ltv g.index l) + j →
    placed i (place_of (loan_band l) (loan_ltv g.index l)) (loan_cell g l) ≡ f l) where
  placed-loan : (l : Loan) (i : ℕ) → i ≡ place_of band ltv + j →
      placed i (place_of (loan_band l) (loan_ltv g.index l)) (loan_cell g l) ≡ in_cell g.index band ltv f (loan l)
  placed-loan l i e = go (eqb (loan_band l) band && eqb (loan_ltv g.index l) ltv) refl
    where
      go : (test : Bool) → (eqb (loan_band l) band && eqb (loan_ltv g.index l) ltv) ≡ test →
          placed i (place_of (loan_band l) (loan_ltv g.index l)) (loan_cell g l) ≡ pick test (f l) 0
      go true s = adds l i (e ∙ ap (λ (x : ℕ). x + j) (sym (same-cell g.index band ltv l b k s)))
      go false s = adds_none i (place_of (loan_band l) (loan_ltv g.index l)) (loan_cell g l)
          (λ m h z. other-cell g.index band ltv l b k s j m few h (sym e ∙ z))

  placed-line : (c : Content) (i : ℕ) → i ≡ place_of band ltv + j → placed_by g i c ≡ in_cell g.index band ltv f c
  unfolding placed_by
  placed-line c i e = go (held c)
    where
      go : {c : Content} → Held c → placed_by g i c ≡ in_cell g.index band ltv f c
      go (a_loan l) = placed-loan l i e
      go (no_loan n) =
          n ℕ (λ l. placed i (place_of (loan_band l) (loan_ltv g.index l)) (loan_cell g l)) 0
          ∙ sym (n ℕ (λ l. pick (eqb (loan_band l) band && eqb (loan_ltv g.index l) ltv) (f l) 0) 0)

  cell-part : (kept : List (List ℕ)) (i : ℕ) → i ≡ place_of band ltv + j → get_or (cells_of g kept) i 0 ≡ sum_by (in_cell g.index band ltv f) kept
  cell-part kept i e = cells_at g kept i (omega (arith, e, place-room band ltv b k)) ∙ sum_alike (placed_by g i) (in_cell g.index band ltv f)
      (λ s. placed-line (line_content (line_of s)) i e) kept

-- A cell of the table is that of the lines taken.
pub cell-is : (g : Basis) (kept : List (List ℕ)) (band ltv : ℕ) → 1 ≤ band → band ≤ 12 → 1 ≤ ltv → ltv ≤ 5 →
    cell_at (cells_of g kept) band ltv ≡ cell_by g kept band ltv
unfolding cell_by
cell-is g kept band ltv b c k m =
    let x : Between 1 12 band = record { least = b; most = c } in
    let y : Between 1 5 ltv = record { least = k; most = m } in
    λ i. record {
      count = cell-part g band ltv 0 x y (omega arith) (λ l. (loan_cell g l).count) (λ l n e. adds-count n _ (loan_cell g l) (omega (arith, e)))
          kept (place_of band ltv) (omega arith) i;
      balance = cell-part g band ltv 1 x y (omega arith) (λ l. (loan_cell g l).balance) (λ l n e. adds-balance n _ (loan_cell g l) e)
          kept (place_of band ltv + 1) refl i;
      charge = record {
        plus = cell-part g band ltv 2 x y (omega arith) (λ l. (loan_cell g l).charge.plus) (λ l n e. adds-plus n _ (loan_cell g l) e)
            kept (place_of band ltv + 2) refl i;
        minus = cell-part g band ltv 3 x y (omega arith) (λ l. (loan_cell g l).charge.minus) (λ l n e. adds-minus n _ (loan_cell g l) e)
            kept (place_of band ltv + 3) refl i;
      };
    }

pub cells-text : (t : Terms) (kept : List (List ℕ)) → cells_text_of (cells_of (basis_of t kept) kept) ≡ cells_for t kept
unfolding cells_for
cells-text t kept = cells-alike (cell-is (basis_of t kept) kept)

-- Over all cells

sum-to-zero : (n : ℕ) → sum_to n (λ k. 0) ≡ 0
unfolding sum_to
sum-to-zero zero = refl
sum-to-zero (suc n) = omega (arith, sum-to-zero n)

sum-to-plus : (n : ℕ) (f g : ℕ → ℕ) → sum_to n (λ k. f k + g k) ≡ sum_to n f + sum_to n g
unfolding sum_to
sum-to-plus zero f g = refl
sum-to-plus (suc n) f g = omega (arith, sum-to-plus n f g)

sum-to-alike : (n : ℕ) {f g : ℕ → ℕ} → ((k : ℕ) → f k ≡ g k) → sum_to n f ≡ sum_to n g
unfolding sum_to
sum-to-alike zero e = refl
sum-to-alike (suc n) e = ap₂ ◌+◌ (sum-to-alike n e) (e (suc n))

-- a number at one place beyond those summed, and at one among them
sum-beyond : (n c x : ℕ) → n < c → sum_to n (λ k. pick (eqb c k) x 0) ≡ 0
unfolding sum_to
sum-beyond zero c x h = refl
sum-beyond (suc n) c x h = rw (ne_eqb c (suc n) (λ e. omega (arith, e))) (omega (arith, sum-beyond n c x (omega arith)))

sum_one : (n c x : ℕ) → 1 ≤ c → c ≤ n → sum_to n (λ k. pick (eqb c k) x 0) ≡ x
unfolding sum_to
sum_one zero c x h m = absurd (omega arith)
sum_one (suc n) c x h m = go (eqb c (suc n)) refl (λ g. sum_one n c x h g)
  where
    go : (t : Bool) → eqb c (suc n) ≡ t → (c ≤ n → sum_to n (λ k. pick (eqb c k) x 0) ≡ x) → sum_to n (λ k. pick (eqb c k) x 0) + pick t x 0 ≡ x
    go true e r = omega (arith, sum-beyond n c x (omega (arith, eqb-true c (suc n) e)))
    go false e r = let d : c ≡ suc n → ⊥ = eqb-false c (suc n) e in omega (arith, r (omega arith))

-- a loan is of one column of its band, and of one band
in-band : (test : Bool) (k x : ℕ) → Between 1 5 k → sum_to 5 (λ ltv. pick (test && eqb k ltv) x 0) ≡ pick test x 0
in-band true k x h = sum_one 5 k x h.least h.most
in-band false k x h = sum-to-zero 5

over-loan : (values : Index) (l : Loan) (x : ℕ) → over_cells (λ band ltv. pick (eqb (loan_band l) band && eqb (loan_ltv values l) ltv) x 0) ≡ x
over-loan values l x =
    let b = band-between l.score in
    sum-to-alike 12 (λ band. in-band (eqb (loan_band l) band) (loan_ltv values l) x (loan-ltv-between values l))
    ∙ sum_one 12 (loan_band l) x b.least b.most

over-line : (values : Index) (f : Loan → ℕ) (c : Content) → over_cells (λ band ltv. in_cell values band ltv f c) ≡ loan_or f 0 c
over-line values f c = go (held c)
  where
    go : {c : Content} → Held c → over_cells (λ band ltv. in_cell values band ltv f c) ≡ loan_or f 0 c
    go (a_loan l) = over-loan values l (f l)
    go (no_loan n) =
        sum-to-alike 12 (λ band. sum-to-alike 5 (λ ltv. n ℕ (λ l. pick (eqb (loan_band l) band && eqb (loan_ltv values l) ltv) (f l) 0) 0) ∙ sum-to-zero 5)
        ∙ sum-to-zero 12 ∙ sym (n ℕ f 0)

over-sum : (f g : ℕ → ℕ → ℕ) → over_cells (λ band ltv. f band ltv + g band ltv) ≡ over_cells f + over_cells g
over-sum f g =
    sum-to-alike 12 (λ band. sum-to-plus 5 (f band) (g band))
    ∙ sum-to-plus 12 (λ band. sum_to 5 (f band)) (λ band. sum_to 5 (g band))

-- Something of the loans summed in each cell, and over all cells, is its sum over all loans.
all-cells : (values : Index) (f : Loan → ℕ) (kept : List (List ℕ)) → over_cells (λ band ltv. sum_by (in_cell values band ltv f) kept) ≡ sum_by (loan_or f 0) kept
unfolding sum_by
all-cells values f [] = sum-to-alike 12 (λ band. sum-to-zero 5) ∙ sum-to-zero 12
all-cells values f (s ∷ kept) =
    over-sum (λ band ltv. in_cell values band ltv f (line_content (line_of s))) (λ band ltv. sum_by (in_cell values band ltv f) kept)
    ∙ ap₂ ◌+◌ (over-line values f (line_content (line_of s))) (all-cells values f kept)

-- what a line adds to the book's loans and total
record AddsLoan (g : Basis) (c : Content) : Type 0 where
  loans : loan_or (λ l. 1) 0 c ≡ (share g c).counts.loans
  plus : loan_or (λ l. (loan_numbers g l).total.plus) 0 c ≡ (share g c).total.plus
  minus : loan_or (λ l. (loan_numbers g l).total.minus) 0 c ≡ (share g c).total.minus

adds-loan : (g : Basis) (c : Content) → AddsLoan g c
unfolding share share_with kind_counts
adds-loan g c = go (held c) (shape g c)
  where
    go : {c : Content} → Held c → Shape g c → AddsLoan g c
    go (a_loan l) s = record { loans = refl; plus = refl; minus = refl }
    go (no_loan n) (of_loan l) = absurd (omega (arith, n ℕ (λ x. 1) 0))
    go (no_loan n) (of_other k z a) = record {
      loans = n ℕ (λ l. 1) 0 ∙ rw a.sums refl;
      plus = n ℕ (λ l. (loan_numbers g l).total.plus) 0 ∙ rw a.sums refl;
      minus = n ℕ (λ l. (loan_numbers g l).total.minus) 0 ∙ rw a.sums refl;
    }
    go (no_loan n) (of_none k a e) = record {
      loans = n ℕ (λ l. 1) 0 ∙ rw a refl;
      plus = n ℕ (λ l. (loan_numbers g l).total.plus) 0 ∙ rw a refl;
      minus = n ℕ (λ l. (loan_numbers g l).total.minus) 0 ∙ rw a refl;
    }

pub cell-sums : (t : Terms) (kept : List (List ℕ)) → CellSums t kept
unfolding cell_by figures_for
cell-sums t kept =
    let g : Basis = basis_of t kept in
    record {
      counts = all-cells g.index (λ l. (loan_cell g l).count) kept
          ∙ sym (sums-number (λ s. s.counts.loans) (λ x y. refl) refl (loan_or (λ l. 1) 0) g (λ c. sym (adds-loan g c).loans) kept);
      charges =
          omega (
            arith,
            all-cells g.index (λ l. (loan_cell g l).charge.plus) kept,
            all-cells g.index (λ l. (loan_cell g l).charge.minus) kept,
            sums-number (λ s. s.total.plus) (λ x y. refl) refl (loan_or (λ l. (loan_numbers g l).total.plus) 0) g (λ c. sym (adds-loan g c).plus) kept,
            sums-number (λ s. s.total.minus) (λ x y. refl) refl (loan_or (λ l. (loan_numbers g l).total.minus) 0) g (λ c. sym (adds-loan g c).minus) kept,
          );
      balances = all-cells g.index (λ l. l.balance) kept;
    }

-- Closing

pub cells-written : (t : Terms) (a : Accepted) → WritesCells t a (state_of t a)
cells-written t a = rw (← cells-text t a.kept) (writes-of cells_size t a (cells_text_of (cells_of (basis_of t a.kept) a.kept)))

-- Order

cell-permuted : (g : Basis) {kept others : List (List ℕ)} → Permᴰ kept others → (band ltv : ℕ) → cell_by g kept band ltv ≡ cell_by g others band ltv
unfolding cell_by
cell-permuted g p band ltv = λ i. record {
  count = sum-permuted (in_cell g.index band ltv (λ l. (loan_cell g l).count)) p i;
  balance = sum-permuted (in_cell g.index band ltv (λ l. (loan_cell g l).balance)) p i;
  charge = record {
    plus = sum-permuted (in_cell g.index band ltv (λ l. (loan_cell g l).charge.plus)) p i;
    minus = sum-permuted (in_cell g.index band ltv (λ l. (loan_cell g l).charge.minus)) p i;
  };
}

pub cells-permuted : (t : Terms) {kept others : List (List ℕ)} → Permᴰ kept others → cells_for t kept ≡ cells_for t others
unfolding cells_for
cells-permuted t {kept} {others} p =
    cells-alike (λ band ltv a b c d. ap (λ (g : Basis). cell_by g kept band ltv) (basis-permuted t p) ∙ cell-permuted (basis_of t others) p band ltv)

pub same_tables : (t : Terms) (a b : Accepted) → Permᴰ a.kept b.kept → SameTables (state_of t a) (state_of t b)
same_tables t a b p =
    same-texts cells_size (book_of t a.kept) (book_of t b.kept) (cells-text t a.kept ∙ cells-permuted t p ∙ sym (cells-text t b.kept))

pub loan_table : LoanTable
loan_table = record {
  bands = bands;
  columns = columns;
  adds = cell-adds;
  cells = λ sheet header lines.
      rw (after_is sheet header lines)
      (cell-is (basis_of (terms_of (opened sheet header)) (lines_taken (all_fed (opened sheet header) lines))) (lines_taken (all_fed (opened sheet header) lines)));
  closes = λ sheet header lines.
      rw (after_is sheet header lines) (cells-written (terms_of (opened sheet header)) (accepted_of (all_fed (opened sheet header) lines)));
  sums = λ sheet header lines. cell-sums (terms_of (opened sheet header)) (lines_taken (all_fed (opened sheet header) lines));
  alike = λ sheet header lines others p. rw (after_is sheet header lines, after_is sheet header others)
      (same_tables (terms_of (opened sheet header)) (accepted_of (all_fed (opened sheet header) lines)) (accepted_of (all_fed (opened sheet header) others)) p);
}
