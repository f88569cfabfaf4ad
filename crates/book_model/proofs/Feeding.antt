-- Every state that opening and feeding give is sound, and what the functions below the calls ask. Assumes nothing.
use mathlib.Core.Path.{◌≡◌, refl, sym, ◌∙◌, ap, subst}
use mathlib.Core.Bool.{Bool, true, false}
use mathlib.Core.List.{List, []}
use mathlib.Core.Logic.{◌↔◌, ⊎_elim}
use Prim.Native.Nat.{ℕ, zero, suc, ◌+◌, ◌*◌, ◌≤◌, ◌<◌}
use native.Mathlib.Omega.{arith}
use lib.Dec.{T, eqb, leb, ltb, eqb→eq}
use lib.ListN.{length, get_or, set, drop, length-drop, length-map, length-set, length-replicate}
use lib.Seq.{length-take-le, get_or-set_same, get_or-set_other, set_out}
use borrow.Author.Tests.{ltb-true, ltb-false, leb-false, eqb-true, eqb-false}
use Rattle.exact.specs.Choice.{pick}
use Rattle.loan_charge.specs.Charge.{Chargeable}
use Rattle.loan_charge.specs.CreditFactor.{hundredths, built_in_sheet, rates_of_lem, rate_places, RatesInRange}
use Rattle.loan_charge.specs.declared.Score.{Score}
use Rattle.loan_charge.proofs.CreditLaws.{built_in}
use Rattle.sheet.specs.Sheet.{SheetRules}
use Rattle.sheet.proofs.Loading.{within_range, built_in as built-in-rules}
use Rattle.sheet.proofs.Rules.{rules}
use Rattle.line_forms.specs.declared.Content.{Content}
use Rattle.line_forms.specs.declared.Header.{Header}
use Rattle.std.specs.Prelude.{Result}
use Rattle.line_forms.specs.declared.refusal.Refusal.{Refusal as Reason}
use Rattle.line_forms.specs.declared.Line.{Line}
use Rattle.line_forms.specs.declared.Loan.{Loan}
use Rattle.line_forms.specs.declared.MarkLine.{MarkLine}
use Rattle.line_forms.specs.declared.Line.TheVariants.{Refusal}
use Rattle.line_forms.specs.Refusals.{number_of}
use Rattle.line_forms.specs.Claims.{line_refusal, line_content}
use Rattle.figures.specs.declared.Counts.{Counts}
use Rattle.figures.specs.declared.Sums.{Sums}
use Rattle.figures.specs.Sums.{Bounded, InLimits, no_counts, counts_sum_lem, plus, no_sums}
use Rattle.figures.proofs.SumsLaws.{plus-bounded, none-bounded, plus_none}
use Rattle.cell_report.specs.CellReport.{place_of}
use Rattle.book_model.specs.declared.Adjustment.{Adjustment}
use Rattle.book_model.specs.declared.Book.{Book}
use Rattle.book_model.specs.Accepted.{most_other, loan_beyond_lem, refusal_for}
use Rattle.book_model.specs.Calls.{State, Answer, state_at, terms_in, basis_in, counts_of, empty_book, empty_state, opening_for, refusal_in, book_after}
use Rattle.book_model.specs.Calls.{cells_after, index_after, state_after, marked, place_named, back_at, state_marked, feeding_line, SoundBook, RowSound}
use Rattle.book_model.specs.Calls.{MarksSound, Sound}
use Rattle.book_model.specs.Cells.{loan_band, loan_ltv, empty_cells, cell_with, loan_cell, with_cell, cells_with, CellsBounded}
use Rattle.book_model.specs.HouseIndex.{adjustment_of, place_for, values_at, index_with, index_line, IndexSound}
use Rattle.book_model.specs.LineKinds.{LineKind, a_loan, an_index, a_mark, another, refused, of_mark, content_kind, kind_of, kind_counts, unscored_count}
use Rattle.book_model.specs.LineKinds.{fresh_count}
use Rattle.book_model.specs.LineKinds.{with_indexed}
use Rattle.book_model.specs.Marks.{is_among, Kept, mark_refusal, row_of, name_in, book_in_lem, cells_in, no_marks, names_in, free_row, kept_in, first_marks}
use Rattle.book_model.specs.Ranges.{LoanRanges, MarkRanges, CellRanges, Ranged, HeaderRanges, RangedHeader}
use Rattle.book_model.specs.Share.{share_with, share}
use Rattle.book_model.specs.Terms.{Terms, Basis, under_sheet, refused_terms, inputs_with}
use Rattle.book_model.proofs.Adjustments.{Has, InHundredths}
use Rattle.book_model.proofs.BoundedShares.{loan-bounded, share-bounded, counted}
use Rattle.book_model.proofs.Cells.{Held, a_loan as held-loan, no_loan, held, bounded-wider, cell-more, none-bounded as no-cells-bounded}
use Rattle.book_model.proofs.IndexTables.{none-sound, index-sound}
use Rattle.book_model.proofs.Ledger.{taken-loan, taken-index, taken-has, taken-unset, taken-mark, named-at}
use Rattle.book_model.proofs.MarkRows.{HeldMark, a_mark as held-a-mark, no_mark, held-mark, book-back, cells-back, index_back, row-length, unnamed}
use Rattle.book_model.proofs.MarkRows.{no-marks-length, name_of, names-length, first-length, first-at, first-after}
use Rattle.book_model.proofs.Near.{ChargeableBasis, rates-chargeable, chargeable}
use Rattle.book_model.proofs.Tables.{with-cell-length}
use Rattle.book_model.proofs.Tests.{unscored-is, fresh-is, counts-once, loan-test}
use Rattle.book_model.proofs.Openings.{sheet-passes, sheet-fails, header-fails, Case, book_opens, sheet_refused, header_refused, case_of}

-- Opening

pub empty-sound : (h : Header) → HeaderRanges h → SoundBook (empty_book h)
empty-sound h r =
    record {
      bounded = none-bounded;
      loans = omega arith;
      unscored = omega arith;
      fresh = omega arith;
      other = omega arith;
      header_loans = r.loans;
      header_scores = r.scores;
      held = r.held;
    }

pub no-marks-sound : (h : Header) → MarksSound h no_marks
unfolding no_marks
no-marks-sound h = record { rows = no-marks-length; each = λ i k. absurd (omega (arith, k, unnamed 8 i)) }

-- just opened under rates in range
empty-state : (t : Terms) → HeaderRanges t.header → RatesInRange t.rates → length t.rates ≡ rate_places → Sound (empty_state t)
unfolding empty_cells
empty-state t h r n = record {
  book = empty-sound t.header h;
  rates = r;
  rates_size = n;
  cells = no-cells-bounded 0;
  cells_size_law = length-replicate {A = ℕ} 240 0;
  index = none-sound;
  marks = no-marks-sound t.header;
}

-- as many rates as a sheet has factors
rates-length : (sheet : List ℕ) → SheetRules sheet → length (rates_of_lem sheet) ≡ rate_places
rates-length sheet r = length-map sheet hundredths ∙ r.size

pub refused-sound : Sound (empty_state refused_terms)
refused-sound =
    empty-state refused_terms (record { loans = omega arith; scores = omega arith; held = omega arith }) built_in (rates-length built_in_sheet built-in-rules)

pub opening_sound : (sheet : List ℕ) (l : Result Header Reason) → RangedHeader l → Sound (opening_for sheet l).state
opening_sound sheet l r = go (case_of sheet l) r
  where
    go : {l : Result Header Reason} → Case sheet l → RangedHeader l → Sound (opening_for sheet l).state
    go (book_opens h e) r =
        subst (λ (a : Answer). Sound a.state) (sym (sheet-passes sheet h e)) (empty-state (under_sheet h sheet) r (within_range sheet (rules sheet e))
        (rates-length sheet (rules sheet e)))
    go (sheet_refused h e) r = subst (λ (a : Answer). Sound a.state) (sym (sheet-fails sheet h e)) refused-sound
    go (header_refused n) r = subst (λ (a : Answer). Sound a.state) (sym (header-fails sheet n)) refused-sound

-- Feeding

-- counts that a book under the header may have
pub record Room (h : Header) (c : Counts) : Type 0 where
  pub loans : c.loans ≤ h.loans
  pub unscored : c.unscored ≤ h.unscored
  pub fresh : c.fresh ≤ h.fresh
  pub other : c.other ≤ most_other

-- one more, where it counts, is not beyond a count that leaves room for it
one_more : {P : Type 0} (n taken most : ℕ) → n ≤ 1 → ((n ≡ 1) ↔ P) → taken ≤ most → (P → taken < most) → taken + n ≤ most
one_more zero taken most h e r f = omega (arith, r)
one_more (suc zero) taken most h e r f = omega (arith, f (e.0 refl))
one_more (suc (suc n)) taken most h e r f = absurd (omega (arith, h))

loan-room : (h : Header) (c : Counts) (s : Score) → Room h c → loan_beyond_lem h c s ≡ false →
    Room h (counts_sum_lem c (record { loans = 1; unscored = unscored_count s; fresh = fresh_count s; other = 0 }))
loan-room h c s r e =
    let (l, u, f) = (loan-test h c s).fails.0 e in
    record {
      loans = omega (arith, l);
      unscored = one_more (unscored_count s) c.unscored h.unscored (omega (arith, counts-once s)) (unscored-is s) r.unscored u;
      fresh = one_more (fresh_count s) c.fresh h.fresh (omega (arith, counts-once s)) (fresh-is s) r.fresh f;
      other = omega (arith, r.other);
    }

-- a test that gave no refusal
single : (test : Bool) (k : ℕ) → (k ≡ 0 → ⊥) → pick test k 0 ≡ 0 → test ≡ false
single true k z e = absurd (z e)
single false k z e = refl

-- one line more that is not a loan
other-room : (h : Header) (c : Counts) → Room h c → leb most_other c.other ≡ false →
    Room h (counts_sum_lem c (record { loans = 0; unscored = 0; fresh = 0; other = 1 }))
other-room h c r e =
    record {
      loans = omega (arith, r.loans);
      unscored = omega (arith, r.unscored);
      fresh = omega (arith, r.fresh);
      other = omega (arith, leb-false most_other c.other e);
    }

-- a line that counts as none
same-room : (h : Header) (c : Counts) → Room h c → Room h (counts_sum_lem c no_counts)
same-room h c r =
    record { loans = omega (arith, r.loans); unscored = omega (arith, r.unscored); fresh = omega (arith, r.fresh); other = omega (arith, r.other) }

-- A line that is not refused keeps to the counts.
pub room : (g : Basis) (c : Counts) (m : Kept) (k : LineKind) → Room g.terms.header c → refusal_for g c m k ≡ 0 →
    Room g.terms.header (counts_sum_lem c (kind_counts k))
unfolding refusal_for kind_counts
room g c m (a_loan l) r e = loan-room g.terms.header c l.score r (taken-loan g c m l e).0
room g c m (an_index i) r e = other-room g.terms.header c r (taken-index g c m i e).0
room g c m (a_mark x) r e = same-room g.terms.header c r
room g c m another r e = other-room g.terms.header c r (single (leb most_other c.other) 8 (λ z. omega (arith, z)) e)
room g c m (refused n) r e = same-room g.terms.header c r

pub book-room : {b : Book} → SoundBook b → Room b.header (counts_of b)
book-room h = record { loans = h.loans; unscored = h.unscored; fresh = h.fresh; other = h.other }

-- A line's sums, and 1 for an index line, keep to the counts of a book.
abbrev pub Keeps : Book → Sums → ℕ → Type 0
Keeps b s k = Room b.header (counts_sum_lem (counts_of b) (with_indexed s.counts k))

-- What adding a line's sums asks.
pub asks : {b : Book} {s : Sums} (k : ℕ) → SoundBook b → Bounded s → Keeps b s k → Bounded b.sums × Bounded s × InLimits (plus b.sums s)
asks k h n r = (h.bounded, n, record { loans = omega (arith, r.loans, h.header_loans); other = omega (arith, r.other) })

more-sound : {b : Book} {s : Sums} (k : ℕ) → SoundBook b → Bounded s → Keeps b s k →
    SoundBook (record { header = b.header; sums = plus b.sums s; indexed = b.indexed + k })
more-sound k h n r =
    record {
      bounded = plus-bounded h.bounded n;
      loans = r.loans;
      unscored = r.unscored;
      fresh = r.fresh;
      other = omega (arith, r.other);
      header_loans = h.header_loans;
      header_scores = h.header_scores;
      held = h.held;
    }

-- The values of a table are in range.
pub table-hundredths : {table : List ℕ} {n : ℕ} → IndexSound table n → InHundredths (values_at table)
table-hundredths h area month = h.each (place_for area month)

pub state-chargeable : (s : State) → Sound s → ChargeableBasis (basis_in s)
state-chargeable s h = record { factors = rates-chargeable (terms_in s) h.rates; values = table-hundredths h.index }

-- the counts with a line more
room-line : (s : State) (l : Line) → SoundBook s.book → refusal_in s l ≡ 0 →
    Keeps s.book (share (basis_in s) (line_content l)) (index_line (line_content l))
room-line s l h e =
    subst (λ (c : Counts). Room s.book.header (counts_sum_lem (counts_of s.book) c)) (sym (counted (basis_in s) (line_refusal l) (line_content l)))
    (room (basis_in s) (counts_of s.book) (kept_in s.marks) (kind_of l) (book-room h) e)

pub cell-ranges : (t : Terms) (a : Adjustment) (l : Loan) → LoanRanges l → Chargeable (inputs_with t a l) → CellRanges (cell_with t a l)
unfolding share_with kind_counts
cell-ranges t a l r c =
    let k : Bounded (share_with t a l) = loan-bounded t a l c in
    record {
      count = omega arith;
      balance = omega (arith, r.balance_most);
      plus = omega (arith, k.total_plus);
      minus = omega (arith, k.total_minus);
    }

-- The table with what a line adds, and the loans counted with it.
cells-more : {g : Basis} (cells : List ℕ) (n : ℕ) → ChargeableBasis g → (c : Content) → Ranged c → Has g.index c → CellsBounded cells (4 * n) →
    CellsBounded (cells_with g c cells) (4 * (n + (share g c).counts.loans))
unfolding cells_with share share_with kind_counts
cells-more {g} cells n u c r h b = go (held c) r h
  where
    go : {c : Content} → Held c → Ranged c → Has g.index c → CellsBounded (cells_with g c cells) (4 * (n + (share g c).counts.loans))
    go (held-loan l) r h =
        cell-more cells _ n (loan_cell g l) (cell-ranges g.terms (adjustment_of g.index l) l r (chargeable u l r h)) b
    go (no_loan e) r h =
        rw (e (List ℕ) (λ l. with_cell cells (place_of (loan_band l) (loan_ltv g.index l)) (loan_cell g l)) cells) (bounded-wider cells (omega arith) b)

-- the table keeps its length
cells-keep : (g : Basis) (c : Content) (cells : List ℕ) → length (cells_with g c cells) ≡ length cells
unfolding cells_with
cells-keep g c cells = go (held c)
  where
    go : {c : Content} → Held c → length (cells_with g c cells) ≡ length cells
    go (held-loan l) = with-cell-length cells (place_of (loan_band l) (loan_ltv g.index l)) (loan_cell g l)
    go (no_loan e) = ap length (e (List ℕ) (λ l. with_cell cells (place_of (loan_band l) (loan_ltv g.index l)) (loan_cell g l)) cells)

-- Marks

-- The first marks alone are sound.
first-sound : (h : Header) (marks : List (List ℕ)) (n : ℕ) → n ≤ 8 → MarksSound h marks → MarksSound h (first_marks n marks)
first-sound h marks n k m = record { rows = first-length n marks size m.rows; each = λ i l. go i (ltb i n) refl l }
  where
    size : n ≤ length marks
    size = omega (arith, k, m.rows)

    go : (i : ℕ) (t : Bool) → ltb i n ≡ t → 1 ≤ name_in (get_or (first_marks n marks) i []) → RowSound h (get_or (first_marks n marks) i [])
    go i true e l =
        let f = first-at n marks size i (ltb-true i n e) in
        subst (RowSound h) (sym f) (m.each i (subst (λ (row : List ℕ). 1 ≤ name_in row) f l))
    go i false e l = absurd (omega (arith, l, first-after n marks size i (ltb-false i n e)))

-- what a return to a row gives
pub row-cells : (row : List ℕ) → length row ≡ 1844 → length (cells_in row) ≡ 240
unfolding cells_in
row-cells row e = length-take-le 240 (drop 20 row) (omega (arith, length-drop 20 row, e))

back-sound : (s : State) (row : ℕ) → Sound s → row < 8 → 1 ≤ name_in (get_or s.marks row []) → Sound (back_at s row)
unfolding book_in_lem
back-sound s row h k l =
    let r : RowSound s.book.header (get_or s.marks row []) = h.marks.each row l in
    record {
      book = r.book;
      rates = h.rates;
      rates_size = h.rates_size;
      cells = r.cells;
      cells_size_law = row-cells (get_or s.marks row []) r.size;
      index = r.index;
      marks = first-sound s.book.header s.marks (suc row) (omega (arith, k)) h.marks;
    }

-- a row that keeps a sound book
row-sound : (s : State) (name : ℕ) → Sound s → RowSound s.book.header (row_of name s.book s.cells s.index)
row-sound s name h =
    let row : List ℕ = row_of name s.book s.cells s.index in
    let b : book_in_lem s.book.header row ≡ s.book = book-back name s.book s.cells s.index in
    record {
      size = row-length name s.book s.cells s.index h.cells_size_law h.index.size;
      book = subst SoundBook (sym b) h.book;
      cells = rw (cells-back name s.book s.cells s.index h.cells_size_law, b) h.cells;
      index = rw (index_back name s.book s.cells s.index h.cells_size_law h.index.size, b) h.index;
    }

marked-sound : (s : State) (name : ℕ) → Sound s → Sound (marked s name)
marked-sound s name h = record {
  book = h.book;
  rates = h.rates;
  rates_size = h.rates_size;
  cells = h.cells;
  cells_size_law = h.cells_size_law;
  index = h.index;
  marks = record { rows = length-set s.marks at row ∙ h.marks.rows; each = λ i l. go i (eqb i at) refl (ltb at (length s.marks)) refl l };
}
  where
    at : ℕ
    at = free_row s.marks

    row : List ℕ
    row = row_of name s.book s.cells s.index

    go : (i : ℕ) (t : Bool) → eqb i at ≡ t → (u : Bool) → ltb at (length s.marks) ≡ u → 1 ≤ name_in (get_or (set s.marks at row) i []) →
        RowSound s.book.header (get_or (set s.marks at row) i [])
    go i true e true f l =
        let p : i ≡ at = eqb-true i at e in
        rw (p, get_or-set_same s.marks at row [] (ltb-true at (length s.marks) f)) (row-sound s name h)
    go i true e false f l =
        let p = set_out s.marks at row (ltb-false at (length s.marks) f) in
        rw p (h.marks.each i (rw p at l))
    go i false e u f l =
        let p = get_or-set_other s.marks at i row [] (eqb-false i at e) in
        rw p (h.marks.each i (rw p at l))

state-marked-sound : (s : State) (m : MarkLine) → Sound s → MarkRanges m → Sound (state_marked (mark_refusal (kept_in s.marks) m) s m)
unfolding state_marked
state-marked-sound s m h r = go (eqb (mark_refusal (kept_in s.marks) m) 0) refl
  where
    back : is_among m.name (names_in s.marks) ≡ true → Sound (back_at s (place_named s m.name))
    back e =
        let p : place_named s m.name < length (names_in s.marks) = ltb-true (place_named s m.name) (length (names_in s.marks)) e in
        let n = sym (name_of s.marks (place_named s m.name)) ∙ named-at m.name (names_in s.marks) p in
        back-sound s (place_named s m.name) h (omega (arith, p, names-length s.marks, h.marks.rows)) (omega (arith, n, r.name_least))

    go : (t : Bool) → eqb (mark_refusal (kept_in s.marks) m) 0 ≡ t →
        Sound (pick t (pick m.back (back_at s (place_named s m.name)) (marked s m.name)) s)
    go true e = ⊎_elim (λ (b, n). rw b (back n)) (λ (b, n, f). rw b (marked-sound s m.name h))
        (taken-mark (kept_in s.marks) m (eqb-true (mark_refusal (kept_in s.marks) m) 0 e))
    go false e = h

added-sound : (s : State) (l : Line) → Sound s → Ranged (line_content l) → Sound (state_after s l)
unfolding book_after cells_after index_after
added-sound s l h r = go (eqb (refusal_in s l) 0) refl
  where
    go : (t : Bool) → eqb (refusal_in s l) 0 ≡ t → Sound
        (state_at (pick t (record {
          header = s.book.header;
          sums = plus s.book.sums (share (basis_in s) (line_content l));
          indexed = s.book.indexed + index_line (line_content l);
        }) s.book) s.rates
        (pick t (cells_with (basis_in s) (line_content l) s.cells) s.cells)
        (pick t (index_with (line_content l) s.index) s.index) s.marks)
    go true f =
        let e : refusal_in s l ≡ 0 = eqb→eq (refusal_in s l) 0 (subst (λ (t : Bool). T t) (sym f) tt) in
        let u = state-chargeable s h in
        let has : Has (values_at s.index) (line_content l) =
        taken-has (basis_in s) (counts_of s.book) (kept_in s.marks) (line_refusal l) (line_content l) e in
        record {
          book = more-sound (index_line (line_content l)) h.book (share-bounded u (line_content l) r has) (room-line s l h.book e);
          rates = h.rates;
          rates_size = h.rates_size;
          cells = cells-more s.cells s.book.sums.counts.loans u (line_content l) r has h.cells;
          cells_size_law = cells-keep (basis_in s) (line_content l) s.cells ∙ h.cells_size_law;
          index = index-sound (line_content l) r (taken-unset (basis_in s) (counts_of s.book) (kept_in s.marks) (line_refusal l) e) h.index;
          marks = h.marks;
        }
    go false f = h

pub fed-sound : (s : State) (l : Line) → Sound s → Ranged (line_content l) → Sound (feeding_line s l).state
unfolding feeding_line refusal_for content_kind
fed-sound s l h r = go (held-mark (line_content l)) refl
  where
    go : {c : Content} → HeldMark c → line_content l ≡ c → Sound (of_mark (state_marked (refusal_in s l) s) (state_after s l) c)
    go (held-a-mark m) e =
        let n : refusal_in s l ≡ mark_refusal (kept_in s.marks) m =
        ap (λ (c : Content). refusal_for (basis_in s) (counts_of s.book) (kept_in s.marks) (content_kind (line_refusal l) c)) e in
        rw n (state-marked-sound s m h (subst Ranged e r))
    go (no_mark k) e = rw (k State (state_marked (refusal_in s l) s) (state_after s l)) (added-sound s l h r)

-- A line refused by its bytes adds nothing, whatever its number.
pub fed-refused : (s : State) (q : Reason) → record { refusal = number_of q; state = s } ≡ feeding_line s (Refusal q)
unfolding feeding_line book_after cells_after cells_with index_after index_with refusal_for content_kind share
fed-refused s q = go (number_of q) (eqb (number_of q) 0)
  where
    go : (n : ℕ) (test : Bool) → ◌≡◌ {A = Answer} (record { refusal = n; state = s })
        (record {
          refusal = n;
          state = state_at (pick test (record { header = s.book.header; sums = plus s.book.sums no_sums; indexed = s.book.indexed + 0 }) s.book)
              s.rates
              (pick test s.cells s.cells) (pick test s.index s.index) s.marks;
        })
    go n true =
        let z : s.book.indexed ≡ s.book.indexed + 0 = omega arith in
        λ i. record {
          refusal = n;
          state = state_at (record { header = s.book.header; sums = sym (plus_none s.book.sums) i; indexed = z i }) s.rates s.cells s.index
              s.marks;
        }
    go n false = refl

-- Whatever a line holds, the rates stay.
pub rates-kept : (s : State) (l : Line) → (feeding_line s l).state.rates ≡ s.rates
unfolding feeding_line state_marked
rates-kept s l = go (held-mark (line_content l)) (eqb (refusal_in s l) 0)
  where
    by_mark : (m : MarkLine) (t back : Bool) → (pick t (pick back (back_at s (place_named s m.name)) (marked s m.name)) s).rates ≡ s.rates
    by_mark m true true = refl
    by_mark m true false = refl
    by_mark m false back = refl

    go : {c : Content} → HeldMark c → (t : Bool) →
        (of_mark (λ m. pick t (pick m.back (back_at s (place_named s m.name)) (marked s m.name)) s) (state_after s l) c).rates ≡ s.rates
    go (held-a-mark m) t = by_mark m t m.back
    go (no_mark k) t =
        ap (λ (x : State). x.rates) (k State (λ m. pick t (pick m.back (back_at s (place_named s m.name)) (marked s m.name)) s) (state_after s l))
