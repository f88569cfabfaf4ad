-- What a call answers, from what it read and what it called: one lemma for each way that the calls' proofs go.
-- Assumes nothing.
use mathlib.Core.Path.{◌≡◌, refl, sym, ◌∙◌, ap, ap₂, subst}
use mathlib.Core.Bool.{Bool, true, false}
use mathlib.Core.List.{List}
use Prim.Native.Nat.{ℕ, ◌+◌}
use native.Mathlib.Omega.{arith}
use lib.Dec.{eqb}
use lib.ListN.{length}
use Rattle.std.specs.Prelude.{Result, Ok, Err}
use Rattle.exact.specs.Choice.{pick}
use Rattle.loan_charge.specs.CreditFactor.{built_in_rates_lem, rates_of_lem}
use Rattle.sheet.specs.Sheet.{sheet_passes}
use Rattle.line_forms.specs.declared.Content.TheVariants.{Loan as loan, Index as index_content}
use Rattle.line_forms.specs.declared.Header.{Header}
use Rattle.line_forms.specs.declared.IndexValue.{IndexValue}
use Rattle.line_forms.specs.declared.Loan.{Loan}
use Rattle.line_forms.specs.declared.MarkLine.{MarkLine}
use Rattle.line_forms.specs.declared.refusal.Refusal.{Refusal}
use Rattle.line_forms.specs.declared.Line.{Line}
use Rattle.line_forms.specs.declared.Line.TheVariants.{Loan as LoanLine, Index as IndexLine, Mark as MarkRead}
use Rattle.line_forms.specs.Claims.{line_refusal, line_content}
use Rattle.line_forms.specs.Readings.{line_of, header_of}
use Rattle.line_forms.specs.Refusals.{number_of}
use Rattle.line_forms.proofs.Refusals.{number-some}
use Rattle.figures.specs.declared.Counts.{Counts}
use Rattle.figures.specs.declared.Sums.{Sums}
use Rattle.figures.specs.Sums.{Bounded, InLimits, plus, no_sums}
use Rattle.figures.proofs.SumsLaws.{plus_none}
use Rattle.report.specs.Line.{Written}
use Rattle.cell_report.specs.CellReport.{place_of}
use Rattle.book_model.specs.declared.Adjustment.{Adjustment}
use Rattle.book_model.specs.declared.Book.{Book}
use Rattle.book_model.specs.Accepted.{loan_beyond_lem, loan_refusal, other_refusal, index_refusal, refusal_for}
use Rattle.book_model.specs.Calls.{State, Answer, state_at, told, answered, closed_by, terms_in, basis_at, basis_in, counts_of, empty_book, empty_state, opening_for, opening, refusal_in}
use Rattle.book_model.specs.Calls.{book_with, book_after, table_with, cells_after, index_after, state_after, state_marked, feeding_line, feeding}
use Rattle.book_model.specs.Calls.{SoundBook, Sound, closing_refusal_lem, closing_with, closed_with}
use Rattle.book_model.specs.Cells.{loan_band, ltv_with, with_cell, cells_with, cell_with, CellsBounded}
use Rattle.book_model.specs.HouseIndex.{adjustment_of, lacking, values_at, empty_index, index_with, index_line}
use Rattle.book_model.specs.LineKinds.{a_loan, another, of_mark, content_kind, kind_of, kind_counts}
use Rattle.book_model.specs.Marks.{mark_refusal, no_marks, kept_in}
use Rattle.book_model.specs.Ranges.{LoanRanges, AdjustmentRanges, CellRanges, Ranged}
use Rattle.book_model.specs.Share.{share, share_with, loan_share}
use Rattle.book_model.specs.Terms.{refused_terms}
use Rattle.book_model.proofs.Adjustments.{Has, adjustment-ranges}
use Rattle.book_model.proofs.BoundedShares.{loan-bounded, share-bounded, counted}
use Rattle.book_model.proofs.Cells.{bounded-wider}
use Rattle.book_model.proofs.Closings.{refused, written}
use Rattle.book_model.proofs.Feeding.{room, book-room, asks, table-hundredths, state-chargeable, cell-ranges, fed-sound, opening_sound}
use Rattle.book_model.proofs.Near.{rates-chargeable, inputs-chargeable, chargeable}
use Rattle.book_model.proofs.Openings.{sheet-passes, sheet-fails, header-fails}
use Rattle.book_model.proofs.Ranged.{ranged, ranged-header}

-- Opening with a sheet: l is what was read of the line.
module _ (sheet line : List ℕ) {l : Result Header Refusal} (read : l ≡ header_of line) where
  -- what opening promises of an answer and the book
  abbrev Promised : ℕ → State → Type 0
  Promised n s = (record { refusal = n; state = s } ≡ opening sheet line) × Sound s

  opened-as : {n : ℕ} {s : State} → record { refusal = n; state = s } ≡ opening_for sheet l → Promised n s
  opened-as e =
      let answer = e ∙ ap (opening_for sheet) read in
      (answer, subst (λ (a : Answer). Sound a.state) (sym answer) (opening_sound sheet (header_of line) (ranged-header line)))

  pub opened : (h : Header) → l ≡ Ok h → sheet_passes sheet ≡ true → {s : State} → s ≡ empty_state refused_terms → {b : Book} {rates : List ℕ} →
      b ≡ empty_book h → rates ≡ rates_of_lem sheet → Promised 0 (state_at b rates s.cells s.index s.marks)
  opened h e f g m k =
      opened-as ((λ i. record { refusal = 0; state = state_at (m i) (k i) (g i).cells (g i).index (g i).marks })
      ∙ sym (sheet-passes sheet h f) ∙ ap (opening_for sheet) (sym e))

  pub sheet-refused : (h : Header) → l ≡ Ok h → sheet_passes sheet ≡ false → {s : State} → s ≡ empty_state refused_terms → Promised 10 s
  sheet-refused h e f g =
      opened-as ((λ i. record { refusal = 10; state = g i }) ∙ sym (sheet-fails sheet h f) ∙ ap (opening_for sheet) (sym e))

  pub header-refused : (q : Refusal) → l ≡ Err q → (r : Result Unit Refusal) → r ≡ Err q → {s : State} → s ≡ empty_state refused_terms → Promised (told r) s
  header-refused q e r f g =
      opened-as ((λ i. answered (f i) (g i)) ∙ sym (header-fails sheet q) ∙ ap (opening_for sheet) (sym e))

-- a line that is neither a mark nor a return
abbrev pub Unmarked : Line → Type 1
Unmarked l = (A : Type 0) (f : MarkLine → A) (x : A) → of_mark f x (line_content l) ≡ x

answer-of : (s : State) (l : Line) → Unmarked l → record { refusal = refusal_in s l; state = state_after s l } ≡ feeding_line s l
unfolding feeding_line
answer-of s l u = λ i. record { refusal = refusal_in s l; state = sym (u State (state_marked (refusal_in s l) s) (state_after s l)) i }

-- the refusals that a loan and an index value meet in a state
abbrev pub loan_refusal_in : State → Loan → ℕ
loan_refusal_in s l = loan_refusal s.book.header (counts_of s.book) (adjustment_of (values_at s.index) l) l.score

abbrev pub index_refusal_in : State → IndexValue → ℕ
index_refusal_in s i = index_refusal (counts_of s.book) (values_at s.index i.area i.month)

-- the counts of a line that is no index value are how its kind counts
plain-counts : (s : State) (l : Line) → index_line (line_content l) ≡ 0 → (share (basis_in s) (line_content l)).counts ≡ kind_counts (kind_of l)
plain-counts s l z =
    let c : Counts = (share (basis_in s) (line_content l)).counts in
    let e : c.other ≡ c.other + index_line (line_content l) = omega (arith, z) in
    (λ i. record { loans = c.loans; unscored = c.unscored; fresh = c.fresh; other = e i }) ∙ counted (basis_in s) (line_refusal l) (line_content l)

-- Feeding a line: l is what was read of it.
module _ (s : State) (line : List ℕ) {l : Line} (read : l ≡ line_of line) (sound : Sound s) where
  pub fed : {n : ℕ} {t : State} → record { refusal = n; state = t } ≡ feeding_line s l → (record { refusal = n; state = t } ≡ feeding s line) × Sound t
  fed e =
      let answer = e ∙ ap (feeding_line s) read in
      (answer, subst (λ (a : Answer). Sound a.state) (sym answer) (fed-sound s (line_of line) sound (ranged line)))

-- what adding another line asks
module _ (s : State) {read : Line} (l : Line) (other : kind_of l ≡ another) (e : read ≡ l) {x : Sums} (k : x ≡ share (basis_in s) (line_content l)) where
  pub other-asked : Has (values_at s.index) (line_content l) → index_line (line_content l) ≡ 0 → Sound s → Ranged (line_content read) →
      SoundBook s.book × Bounded x × (x.counts ≡ kind_counts another)
  other-asked has z h r =
      let b : Bounded (share (basis_in s) (line_content l)) =
      share-bounded (state-chargeable s h) (line_content l) (subst (λ (y : Line). Ranged (line_content y)) e r) has in
      (h.book, rw k b, rw k (plain-counts s l z ∙ ap kind_counts other))

-- what neither case changes
same-either : {A : Type 0} (test : Bool) (x : A) → x ≡ pick test x x
same-either true x = refl
same-either false x = refl

-- Feeding what was read: a line l of the kind k, with its share.
module _ (s : State) {read : Line} {answer : ℕ} where
  -- a line that is neither a mark nor a return
  plain-fed : (l : Line) → Unmarked l → read ≡ l → answer ≡ refusal_in s l → {t : State} → t ≡ state_after s l → record { refusal = answer; state = t } ≡ feeding_line s read
  plain-fed l u e n k = (λ i. record { refusal = n i; state = k i }) ∙ answer-of s l u ∙ ap (feeding_line s) (sym e)

  pub loan-fed : (l : Loan) → read ≡ LoanLine l → answer ≡ loan_refusal_in s l → {t : State} →
      t ≡ state_at (book_with (answer) s.book (loan_share (basis_in s) l) 0) s.rates (table_with (answer) (basis_in s) (loan l) s.cells) s.index s.marks →
      record { refusal = answer; state = t } ≡ feeding_line s read
  unfolding book_after cells_after index_after refusal_for content_kind share index_with
  loan-fed l e n k =
      plain-fed (LoanLine l) (λ A f x. refl) e n
      (k ∙ (λ i. state_at (book_with (n i) s.book (loan_share (basis_in s) l) 0) s.rates (table_with (n i) (basis_in s) (loan l) s.cells)
      (same-either (eqb (loan_refusal_in s l) 0) s.index i) s.marks))

  pub index-fed : (i : IndexValue) → read ≡ IndexLine i → answer ≡ index_refusal_in s i → {t : State} →
      t ≡ state_at (book_with (answer) s.book no_sums 1) s.rates s.cells (pick (eqb (answer) 0) (index_with (index_content i) s.index) s.index) s.marks →
      record { refusal = answer; state = t } ≡ feeding_line s read
  unfolding book_after cells_after cells_with index_after refusal_for content_kind share
  index-fed i e n k =
      plain-fed (IndexLine i) (λ A f x. refl) e n
      (k ∙ (λ j. state_at (book_with (n j) s.book no_sums 1) s.rates (same-either (eqb (index_refusal_in s i) 0) s.cells j)
      (pick (eqb (n j) 0) (index_with (index_content i) s.index) s.index) s.marks))

  module _ (l : Line) (other : kind_of l ≡ another) (e : read ≡ l) {x : Sums} (k : x ≡ share (basis_in s) (line_content l)) where
    pub other-fed : Unmarked l → cells_with (basis_in s) (line_content l) s.cells ≡ s.cells → index_with (line_content l) s.index ≡ s.index →
        index_line (line_content l) ≡ 0 → answer ≡ other_refusal (counts_of s.book) → {b : Book} →
        b ≡ book_with (other_refusal (counts_of s.book)) s.book x 0 → record { refusal = answer; state = state_at b s.rates s.cells s.index s.marks } ≡ feeding_line s read
    unfolding book_after cells_after index_after refusal_for
    other-fed u n o z m b =
        let same : other_refusal (counts_of s.book) ≡ refusal_in s l = sym (ap (refusal_for (basis_in s) (counts_of s.book) (kept_in s.marks)) other) in
        let test = eqb (refusal_in s l) 0 in
        plain-fed l u e (m ∙ same)
        (λ i. state_at
        ((b ∙ (λ j. book_with (same j) s.book (k j) (sym z j))) i) s.rates
        ((same-either test s.cells ∙ ap (λ (y : List ℕ). pick test y s.cells) (sym n)) i)
        ((same-either test s.index ∙ ap (λ (y : List ℕ). pick test y s.index) (sym o)) i) s.marks)

  pub mark-fed : (m : MarkLine) → read ≡ MarkRead m → answer ≡ mark_refusal (kept_in s.marks) m → {t : State} → t ≡ state_marked (answer) s m →
      record { refusal = answer; state = t } ≡ feeding_line s read
  unfolding feeding_line refusal_for content_kind
  mark-fed m e n k = (λ i. record { refusal = answer; state = k i }) ∙ (λ i. record { refusal = n i; state = state_marked (n i) s m }) ∙ ap (feeding_line s) (sym e)

-- Adding a loan: it may be beyond the header's counts, or lack an index value.
module _ (s : State) (l : Loan) {beyond : Bool} (test : beyond ≡ loan_beyond_lem s.book.header (counts_of s.book) l.score) where
  module _ (e : beyond ≡ false) {a : Adjustment} (found : a ≡ adjustment_of (values_at s.index) l) {lacks : Bool} (tested : lacks ≡ lacking a) where
    module _ (g : lacks ≡ false) where
      has : lacking (adjustment_of (values_at s.index) l) ≡ false
      has = ap lacking (sym found) ∙ sym tested ∙ g

      pub ranges : Sound s → AdjustmentRanges a
      ranges h = rw found (adjustment-ranges (table-hundredths h.index) l has)

      not-refused : loan_refusal_in s l ≡ 0
      not-refused =
          let f : loan_beyond_lem s.book.header (counts_of s.book) l.score ≡ false = sym test ∙ e in
          rw (f, has) refl

      module _ {x : Sums} (k : x ≡ share_with (terms_in s) a l) where
        share-is : x ≡ loan_share (basis_in s) l
        share-is = k ∙ ap (λ (y : Adjustment). share_with (terms_in s) y l) found

        pub loan-asks : Sound s → LoanRanges l → Bounded s.book.sums × Bounded x × InLimits (plus s.book.sums x)
        unfolding share_with refusal_for kind_counts
        loan-asks h r =
            rw share-is
            (asks 0 h.book (loan-bounded (terms_in s) (adjustment_of (values_at s.index) l) l (chargeable (state-chargeable s h) l r has))
            (room (basis_in s) (counts_of s.book) (kept_in s.marks) (a_loan l) (book-room h.book) not-refused))

        -- what adding it to its cell asks
        pub cell-asks : Sound s → LoanRanges l → CellsBounded s.cells 4000000 × CellRanges (record { count = 1; balance = l.balance; charge = x.total })
        unfolding share_with
        cell-asks h r = (
          bounded-wider s.cells (omega (arith, h.book.loans, h.book.header_loans)) h.cells,
          rw k (cell-ranges (terms_in s) a l r
              (inputs-chargeable (terms_in s) a l (rates-chargeable (terms_in s) h.rates l.score) r (ranges h))),
        )

        -- the book and the table of cells after it
        pub loan-taken : {place : ℕ} → place ≡ place_of (loan_band l) (ltv_with a l) → {b : Book} {cells : List ℕ} → b ≡ book_with 0 s.book x 0 →
            cells ≡ with_cell s.cells place (record { count = 1; balance = l.balance; charge = x.total }) →
            state_at b s.rates cells s.index s.marks ≡
            state_at (book_with 0 s.book (loan_share (basis_in s) l) 0) s.rates (table_with 0 (basis_in s) (loan l) s.cells) s.index s.marks
        unfolding share_with cells_with
        loan-taken p {b} {cells} m n =
            let books = m ∙ ap (λ (y : Sums). book_with 0 s.book y 0) share-is in
            let tables = n ∙ ap₂ (λ (at : ℕ) (y : Sums). with_cell s.cells at (record { count = 1; balance = l.balance; charge = y.total })) p k
            ∙ ap (λ (y : Adjustment). with_cell s.cells (place_of (loan_band l) (ltv_with y l)) (cell_with (terms_in s) y l)) found in
            λ i. state_at (books i) s.rates (tables i) s.index s.marks

-- what adding another line within the limit asks
pub other-asks : (b : Book) (x : Sums) → SoundBook b → Bounded x → x.counts ≡ kind_counts another → other_refusal (counts_of b) ≡ 0 → Bounded b.sums
    × Bounded x × InLimits (plus b.sums x)
unfolding refusal_for kind_counts
other-asks b x h k c e =
    asks 0 h k (rw c (room (basis_at b.header built_in_rates_lem empty_index) (counts_of b) (kept_in no_marks) another (book-room h) e))

-- an index value adds no sums
pub index-taken : (b : Book) → record { header = b.header; sums = b.sums; indexed = b.indexed + 1 } ≡ book_with 0 b no_sums 1
index-taken b = λ j. record { header = b.header; sums = sym (plus_none b.sums) j; indexed = b.indexed + 1 }

-- Closing into a buffer.
module _ (least : ℕ) (b : Book) (text buffer : List ℕ) where
  -- what it promises of an answer and the buffer
  abbrev Closes : Result ℕ Refusal → List ℕ → Type 0
  Closes r after = (closed_by r ≡ closing_with least b text (length buffer)) × (after ≡ closed_with least b text buffer)

  pub not-closed : (q : Refusal) → number_of q ≡ closing_refusal_lem least b.header b.sums.counts (length buffer) → {r : Result ℕ Refusal} → r ≡ Err q →
      Closes r buffer
  not-closed q e f =
      let answer = refused least b text buffer e (number-some q) in
      (ap closed_by f ∙ answer.0, answer.1)

  pub closed-into : 0 ≡ closing_refusal_lem least b.header b.sums.counts (length buffer) → {n : ℕ} {after : List ℕ} → Written buffer text n after →
      Closes (Ok n) after
  closed-into e w = written least b text buffer (sym e) w
