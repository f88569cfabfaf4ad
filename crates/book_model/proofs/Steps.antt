-- One feeding answers what the accepted lines say, and gives the state of the accepted lines. Assumes nothing.
use mathlib.Core.Path.{◌≡◌, refl, sym, ◌∙◌, ap, ap₂, subst}
use mathlib.Core.Bool.{Bool, true, false}
use mathlib.Core.List.{List, [], ◌∷◌, ◌++◌, map, map-append}
use mathlib.Core.Logic.{⊎_elim}
use Prim.Native.Nat.{ℕ, zero, suc, ◌+◌, ◌-◌, ◌≤◌, ◌<◌}
use native.Mathlib.Omega.{arith}
use lib.Dec.{eqb}
use lib.ListN.{length, get_or, set, take, replicate, length-append, length-map, get_or-append}
use lib.Seq.{set_at as lib-set-at, append_snoc, take-append-le, length-take-le}
use borrow.Author.Tests.{eqb-true, ltb-true, leb-false}
use Rattle.exact.specs.Choice.{pick}
use Rattle.line_forms.specs.declared.IndexValue.{IndexValue}
use Rattle.line_forms.specs.declared.MarkLine.{MarkLine}
use Rattle.line_forms.specs.declared.Content.{Content}
use Rattle.line_forms.specs.declared.Content.TheVariants.{Header as header, Loan as loan, Policy as policy, Derivative as derivative, Asset as asset}
use Rattle.line_forms.specs.declared.Content.TheVariants.{Amount as amount, Index as index, Mark as mark, NoForm}
use Rattle.line_forms.specs.Claims.{line_refusal, line_content}
use Rattle.line_forms.specs.Readings.{line_of}
use Rattle.figures.specs.declared.Counts.{Counts}
use Rattle.figures.specs.Sums.{counts_sum_lem, plus, sum_of}
use Rattle.figures.proofs.SumsLaws.{sum-append, plus_none}
use Rattle.cell_report.specs.CellReport.{place_of}
use Rattle.book_model.specs.declared.Adjustment.{Adjustment}
use Rattle.book_model.specs.declared.Book.{Book}
use Rattle.book_model.specs.Accepted.{Note, Accepted, counts_in, loan_refusal, index_refusal, refusal_for, names_of, kept_by, refusal_of, no_note, place_of_note}
use Rattle.book_model.specs.Accepted.{taken_up, added, with_mark, accept}
use Rattle.book_model.specs.Calls.{State, state_at, basis_in, counts_of, refusal_in, book_after, cells_after, index_after}
use Rattle.book_model.specs.Calls.{marked, place_named, back_at, state_marked, feeding_line, feeding}
use Rattle.book_model.specs.Cells.{loan_band, ltv_with, loan_ltv, cell_with, loan_cell, with_cell, cells_with}
use Rattle.book_model.specs.History.{sums_by, sums_of}
use Rattle.book_model.specs.HouseIndex.{Index, values_in, values_at, index_with, index_line}
use Rattle.book_model.specs.LineKinds.{of_mark, content_kind, kind_of, with_indexed, sum_by}
use Rattle.book_model.specs.Marks.{most_marks, place_among, is_among, Kept, mark_refusal, row_of, name_in, book_in_lem, cells_in, index_in, empty_row, no_marks, names_in}
use Rattle.book_model.specs.Marks.{free_row, kept_in, first_marks}
use Rattle.book_model.specs.Ranges.{IndexRanges, MarkRanges, Ranged}
use Rattle.book_model.specs.Share.{share_with, share}
use Rattle.book_model.specs.Terms.{Terms, Basis, basis_of}
use Rattle.book_model.proofs.Adjustments.{Settled, Alike, Extends, adjusted-alike, still_alike}
use Rattle.book_model.proofs.BoundedShares.{counted}
use Rattle.book_model.proofs.Cells.{Held, a_loan, no_loan, held}
use Rattle.book_model.proofs.IndexTables.{loan-months, index_of, index-length, values-are, index-more}
use Rattle.book_model.proofs.Ledger.{Good, GoodNotes, GoodLedger, taken-mark, names-length, was-unset, values-stay, line-has}
use Rattle.book_model.proofs.LineSums.{sum_more}
use Rattle.book_model.proofs.MarkRows.{HeldMark, a_mark, no_mark, held-mark, name_back, book-back, cells-back, index_back, place-left, place-right}
use Rattle.book_model.proofs.MarkRows.{zero-first, among-padded, names-none}
use Rattle.book_model.proofs.Ranged.{ranged}
use Rattle.book_model.proofs.Tables.{tabulate, placed, placed_by, cells_of, cells-length, cells-more}

-- the state that accepted lines make under terms
abbrev pub book_of : Terms → List (List ℕ) → Book
book_of t kept = record { header = t.header; sums = sums_of t kept; indexed = sum_by index_line kept }

-- the row of what is noted under a name
unfoldable pub row_for : Terms → Note → List ℕ
row_for t n = row_of n.name (book_of t n.list) (cells_of (basis_of t n.list) n.list) (index_of n.list)

unfoldable pub marks_of : Terms → List Note → List (List ℕ)
marks_of t notes = map (row_for t) notes ++ replicate (8 - length notes) empty_row

abbrev pub state_of : Terms → Accepted → State
state_of t a = state_at (book_of t a.kept) t.rates (cells_of (basis_of t a.kept) a.kept) (index_of a.kept) (marks_of t a.notes)

-- counts with index lines, together
with-sum : (a b : Counts) (m n : ℕ) → with_indexed (counts_sum_lem a b) (m + n) ≡ counts_sum_lem (with_indexed a m) (with_indexed b n)
with-sum a b m n =
    let e : a.other + b.other + (m + n) ≡ a.other + m + (b.other + n) = omega arith in
    λ i. record { loans = a.loans + b.loans; unscored = a.unscored + b.unscored; fresh = a.fresh + b.fresh; other = e i }

counts-by : (g : Basis) (kept : List (List ℕ)) → with_indexed (sums_by g kept).counts (sum_by index_line kept) ≡ counts_in kept
unfolding sums_by sum_of counts_in sum_by
counts-by g [] = refl
counts-by g (s ∷ kept) =
    with-sum (share g (line_content (line_of s))).counts (sums_by g kept).counts (index_line (line_content (line_of s))) (sum_by index_line kept)
    ∙ ap₂ counts_sum_lem (counted g (line_refusal (line_of s)) (line_content (line_of s))) (counts-by g kept)

-- The counts of a book are those of its accepted lines.
pub counts : (t : Terms) (kept : List (List ℕ)) → counts_of (book_of t kept) ≡ counts_in kept
counts t kept = counts-by (basis_of t kept) kept

-- Data that two indexes adjust alike is judged and charged alike.
module _ (t : Terms) (values others : Index) where
  abbrev by : Basis
  by = record { terms = t; index = values }

  abbrev by-others : Basis
  by-others = record { terms = t; index = others }

  refusal-alike : (n : Counts) (x : Kept) (k : ℕ) (c : Content) → Alike values others c →
      ((i : IndexValue) → c ≡ index i → values i.area i.month ≡ others i.area i.month) →
      refusal_for by n x (content_kind k c) ≡ refusal_for by-others n x (content_kind k c)
  unfolding refusal_for content_kind
  refusal-alike n x k (header h) a b = refl
  refusal-alike n x k (loan l) a b = ap (λ (y : Adjustment). loan_refusal t.header n y l.score) (a l refl)
  refusal-alike n x k (policy p) a b = refl
  refusal-alike n x k (derivative d) a b = refl
  refusal-alike n x k (asset y) a b = refl
  refusal-alike n x k (amount y) a b = refl
  refusal-alike n x k (index i) a b = ap (index_refusal n) (b i refl)
  refusal-alike n x k (mark m) a b = refl
  refusal-alike n x k NoForm a b = refl

  share-alike : (c : Content) → Alike values others c → share by c ≡ share by-others c
  unfolding share
  share-alike (header h) a = refl
  share-alike (loan l) a = ap (λ (x : Adjustment). share_with t x l) (a l refl)
  share-alike (policy p) a = refl
  share-alike (derivative d) a = refl
  share-alike (asset x) a = refl
  share-alike (amount x) a = refl
  share-alike (index i) a = refl
  share-alike (mark m) a = refl
  share-alike NoForm a = refl

  cells-alike : (c : Content) → Alike values others c → (cells : List ℕ) → cells_with by c cells ≡ cells_with by-others c cells
  unfolding cells_with
  cells-alike c a cells = go (held c) a
    where
      go : {c : Content} → Held c → Alike values others c → cells_with by c cells ≡ cells_with by-others c cells
      go (a_loan l) a = ap (λ (x : Adjustment). with_cell cells (place_of (loan_band l) (ltv_with x l)) (cell_with t x l)) (a l refl)
      go (no_loan n) a =
          n (List ℕ) (λ l. with_cell cells (place_of (loan_band l) (loan_ltv values l)) (loan_cell by l)) cells
          ∙ sym (n (List ℕ) (λ l. with_cell cells (place_of (loan_band l) (loan_ltv others l)) (loan_cell by-others l)) cells)

  placed_alike : (i : ℕ) (c : Content) → Alike values others c → placed_by by i c ≡ placed_by by-others i c
  unfolding placed_by
  placed_alike i c a = go (held c) a
    where
      go : {c : Content} → Held c → Alike values others c → placed_by by i c ≡ placed_by by-others i c
      go (a_loan l) a = ap (λ (x : Adjustment). placed i (place_of (loan_band l) (ltv_with x l)) (cell_with t x l)) (a l refl)
      go (no_loan n) a =
          n ℕ (λ l. placed i (place_of (loan_band l) (loan_ltv values l)) (loan_cell by l)) 0
          ∙ sym (n ℕ (λ l. placed i (place_of (loan_band l) (loan_ltv others l)) (loan_cell by-others l)) 0)

  -- An index that has more values charges the lines that have theirs as before.
  module _ (more : Extends values others) where
    sums-stay : (kept : List (List ℕ)) → Settled values kept → sums_by by kept ≡ sums_by by-others kept
    unfolding sums_by sum_of Settled
    sums-stay [] h = refl
    sums-stay (s ∷ kept) h = ap₂ plus (share-alike (line_content (line_of s)) (still_alike more h.0)) (sums-stay kept h.1)

    placed-stay : (i : ℕ) (kept : List (List ℕ)) → Settled values kept → sum_by (placed_by by i) kept ≡ sum_by (placed_by by-others i) kept
    unfolding sum_by Settled
    placed-stay i [] h = refl
    placed-stay i (s ∷ kept) h = ap₂ ◌+◌ (placed_alike i (line_content (line_of s)) (still_alike more h.0)) (placed-stay i kept h.1)

    cells_stay : (kept : List (List ℕ)) → Settled values kept → cells_of by kept ≡ cells_of by-others kept
    unfolding cells_of
    cells_stay kept h = ap (tabulate 240 0) (λ j i. placed-stay i kept h j)

-- The table of the accepted lines has the values that they set.
module _ (kept : List (List ℕ)) (s : List ℕ) where
  pub table-alike : Alike (values_at (index_of kept)) (values_in kept) (line_content (line_of s))
  table-alike l e =
      adjusted-alike (values_at (index_of kept)) (values_in kept) l
      (λ t.
      let (own, last) = loan-months l (subst Ranged e (ranged s)) t in
      (values-are kept l.area l.from own, values-are kept l.area 201512 last))

  table_same : (i : IndexValue) → line_content (line_of s) ≡ index i →
      values_at (index_of kept) i.area i.month ≡ values_in kept i.area i.month
  table_same i e =
      let r : IndexRanges i = subst Ranged e (ranged s) in
      values-are kept i.area i.month r.place

-- Marks

-- the names of the rows are those noted, and 0 in the rows without a mark
pub names-are : (t : Terms) (notes : List Note) → names_in (marks_of t notes) ≡ names_of notes ++ replicate (8 - length notes) 0
unfolding names_in marks_of row_for
names-are t notes =
    map-append name_in (map (row_for t) notes) (replicate (8 - length notes) empty_row)
    ∙ ap₂ (λ (x y : List ℕ). x ++ y) (go notes) (names-none (8 - length notes))
  where
    go : (ns : List Note) → map name_in (map (row_for t) ns) ≡ names_of ns
    go [] = refl
    go (n ∷ ns) =
        ap₂ (λ (x : ℕ) (l : List ℕ). x ∷ l)
        (name_back n.name (book_of t n.list) (cells_of (basis_of t n.list) n.list) (index_of n.list)) (go ns)

-- no name is 0
no_zero : (notes : List Note) → GoodNotes notes → place_among 0 (names_of notes) ≡ length notes
unfolding GoodNotes place_among
no_zero [] h = refl
no_zero (n ∷ notes) h = go (eqb n.name 0) refl (no_zero notes h.1)
  where
    go : (test : Bool) → eqb n.name 0 ≡ test → place_among 0 (names_of notes) ≡ length notes →
        pick test 0 (suc (place_among 0 (names_of notes))) ≡ suc (length notes)
    go true e r = absurd (omega (arith, eqb-true n.name 0 e, h.0.name))
    go false e r = ap suc r

-- the first row without a mark
free-is : (t : Terms) (notes : List Note) → GoodNotes notes → free_row (marks_of t notes) ≡ length notes
free-is t notes h =
    ap (place_among 0) (names-are t notes)
    ∙ place-right 0 (names_of notes) (replicate (8 - length notes) 0) (no_zero notes h ∙ sym (names-length notes))
    ∙ omega (arith, zero-first (8 - length notes), names-length notes)

-- so that state and ledger judge a mark alike
kept-alike : (t : Terms) (notes : List Note) → GoodNotes notes → (m : MarkLine) → 1 ≤ m.name →
    mark_refusal (kept_in (marks_of t notes)) m ≡ mark_refusal (kept_by notes) m
kept-alike t notes h m l =
    ap₂ (λ (named : Bool) (count : ℕ). mark_refusal (record { named = λ n. named; count = count }) m)
    (ap (is_among m.name) (names-are t notes) ∙ among-padded m.name (names_of notes) (8 - length notes) l) (free-is t notes h)

-- What the state answers is what the accepted lines say.
same-refusal : (t : Terms) (a : Accepted) → GoodLedger a → (s : List ℕ) → refusal_in (state_of t a) (line_of s) ≡ refusal_of t a s
unfolding refusal_for content_kind
same-refusal t a h s =
    ap (λ (c : Counts). refusal_for (basis_in (state_of t a)) c (kept_in (marks_of t a.notes)) (kind_of (line_of s))) (counts t a.kept)
    ∙ refusal-alike t (values_at (index_of a.kept)) (values_in a.kept) (counts_in a.kept) (kept_in (marks_of t a.notes)) (line_refusal (line_of s))
    (line_content (line_of s)) (table-alike a.kept s) (table_same a.kept s)
    ∙ by-marks (line_content (line_of s)) (λ m e. let r : MarkRanges m = subst Ranged e (ranged s) in kept-alike t a.notes h.notes m r.name_least)
  where
    by-marks : (c : Content) → ((m : MarkLine) → c ≡ mark m → mark_refusal (kept_in (marks_of t a.notes)) m ≡ mark_refusal (kept_by a.notes) m) →
        refusal_for (basis_of t a.kept) (counts_in a.kept) (kept_in (marks_of t a.notes)) (content_kind (line_refusal (line_of s)) c) ≡
        refusal_for (basis_of t a.kept) (counts_in a.kept) (kept_by a.notes) (content_kind (line_refusal (line_of s)) c)
    by-marks (header x) k = refl
    by-marks (loan x) k = refl
    by-marks (policy x) k = refl
    by-marks (derivative x) k = refl
    by-marks (asset x) k = refl
    by-marks (amount x) k = refl
    by-marks (index x) k = refl
    by-marks (mark m) k = k m refl
    by-marks NoForm k = refl

-- One line more adds its share.
sums-more : (g : Basis) (kept : List (List ℕ)) (s : List ℕ) → sums_by g (kept ++ (s ∷ [])) ≡ plus (sums_by g kept) (share g (line_content (line_of s)))
unfolding sums_by sum_of
sums-more g kept s =
    ap sum_of (map-append (λ r. share g (line_content (line_of r))) kept (s ∷ []))
    ∙ sum-append (map (λ r. share g (line_content (line_of r))) kept) (share g (line_content (line_of s)) ∷ [])
    ∙ ap (plus (sums_by g kept)) (plus_none (share g (line_content (line_of s))))

-- A line that is taken: the book and its tables become those of the lines with it.
module _ (t : Terms) (a : Accepted) (s : List ℕ) (e : refusal_of t a s ≡ 0) (h : Good a.kept) where
  abbrev c : Content
  c = line_content (line_of s)

  abbrev table : Index
  table = values_at (index_of a.kept)

  abbrev before : Index
  before = values_in a.kept

  abbrev after : Index
  after = values_in (a.kept ++ (s ∷ []))

  abbrev more : Extends before after
  more = values-stay t a s e

  abbrev line-alike : Alike before after c
  line-alike = still_alike more (line-has t a s e)

  sums-step : plus (sums_of t a.kept) (share (basis_in (state_of t a)) c) ≡ sums_of t (a.kept ++ (s ∷ []))
  sums-step =
      ap₂ plus (sums-stay t before after more a.kept h.settled)
      (share-alike t table before c (table-alike a.kept s) ∙ share-alike t before after c line-alike)
      ∙ sym (sums-more (basis_of t (a.kept ++ (s ∷ []))) a.kept s)

  cells-step : cells_with (basis_in (state_of t a)) c (cells_of (basis_of t a.kept) a.kept) ≡
      cells_of (basis_of t (a.kept ++ (s ∷ []))) (a.kept ++ (s ∷ []))
  cells-step =
      cells-alike t table before c (table-alike a.kept s) (cells_of (basis_of t a.kept) a.kept)
      ∙ cells-alike t before after c line-alike (cells_of (basis_of t a.kept) a.kept)
      ∙ ap (cells_with (basis_of t (a.kept ++ (s ∷ []))) c) (cells_stay t before after more a.kept h.settled)
      ∙ cells-more (basis_of t (a.kept ++ (s ∷ []))) a.kept s

  index-step : index_with c (index_of a.kept) ≡ index_of (a.kept ++ (s ∷ []))
  index-step = index-more a.kept s (λ i f. table_same a.kept s i f ∙ was-unset t a s e i f)

  indexed-step : sum_by index_line a.kept + index_line c ≡ sum_by index_line (a.kept ++ (s ∷ []))
  indexed-step = sym (sum_more index_line a.kept s)

-- the state that a line which is no mark leaves
abbrev added-by : Terms → Accepted → List ℕ → Bool → State
added-by t a s test =
    state_at
    (pick test (record {
      header = t.header;
      sums = plus (sums_of t a.kept) (share (basis_in (state_of t a)) (line_content (line_of s)));
      indexed = sum_by index_line a.kept + index_line (line_content (line_of s));
    }) (book_of t a.kept))
    t.rates
    (pick test (cells_with (basis_in (state_of t a)) (line_content (line_of s)) (cells_of (basis_of t a.kept) a.kept))
    (cells_of (basis_of t a.kept) a.kept))
    (pick test (index_with (line_content (line_of s)) (index_of a.kept)) (index_of a.kept))
    (marks_of t a.notes)

line_step : (t : Terms) (a : Accepted) → GoodLedger a → (s : List ℕ) (test : Bool) → eqb (refusal_of t a s) 0 ≡ test →
    added-by t a s test ≡ state_of t (pick test (added a s) a)
line_step t a h s true f =
    let e : refusal_of t a s ≡ 0 = eqb-true (refusal_of t a s) 0 f in
    λ i. state_at (record { header = t.header; sums = sums-step t a s e h.kept i; indexed = indexed-step t a s e h.kept i }) t.rates
    (cells-step t a s e h.kept i) (index-step t a s e h.kept i) (marks_of t a.notes)
line_step t a h s false f = refl

-- A mark: one row more
marks-more : (t : Terms) (notes : List Note) (n : Note) → length notes < 8 → set (marks_of t notes) (length notes) (row_for t n) ≡ marks_of t (notes ++ (n ∷ []))
unfolding marks_of
marks-more t notes n h =
    let rows = map (row_for t) notes in
    let free = 8 - suc (length notes) in
    let e : 8 - length notes ≡ suc free = omega (arith, h) in
    let f : free ≡ 8 - length (notes ++ (n ∷ [])) = omega (arith, length-append notes (n ∷ [])) in
    ap (λ (k : ℕ). set (rows ++ replicate k empty_row) (length notes) (row_for t n)) e
    ∙ lib-set-at rows empty_row (replicate free empty_row) (row_for t n) (length notes) (length-map notes (row_for t))
    ∙ sym (append_snoc rows (row_for t n) (replicate free empty_row))
    ∙ ap₂ (λ (x : List (List ℕ)) (k : ℕ). x ++ replicate k empty_row) (sym (map-append (row_for t) notes (n ∷ []))) f

-- A return: the row of the note, and the rows of the notes up to it
row_at : (t : Terms) (notes : List Note) (k : ℕ) → k < length notes → get_or (marks_of t notes) k [] ≡ row_for t (get_or notes k no_note)
unfolding marks_of
row_at t notes k h =
    get_or-append (map (row_for t) notes) (replicate (8 - length notes) empty_row) [] k (omega (arith, h, length-map notes (row_for t)))
    ∙ go notes k h
  where
    go : (ns : List Note) (k : ℕ) → k < length ns → get_or (map (row_for t) ns) k [] ≡ row_for t (get_or ns k no_note)
    go [] k h = absurd (omega (arith, h))
    go (n ∷ ns) zero h = refl
    go (n ∷ ns) (suc k) h = go ns k (omega (arith, h))

first_rows : (t : Terms) (k : ℕ) (notes : List Note) → take k (map (row_for t) notes) ≡ map (row_for t) (take k notes)
first_rows t zero notes = refl
first_rows t (suc k) [] = refl
first_rows t (suc k) (n ∷ notes) = ap (λ (l : List (List ℕ)). row_for t n ∷ l) (first_rows t k notes)

marks-first : (t : Terms) (notes : List Note) (k : ℕ) → k ≤ length notes → first_marks k (marks_of t notes) ≡ marks_of t (take k notes)
unfolding marks_of first_marks
marks-first t notes k h =
    ap₂ (λ (x : List (List ℕ)) (n : ℕ). x ++ replicate (8 - n) empty_row)
    (take-append-le k (map (row_for t) notes) (replicate (8 - length notes) empty_row) (omega (arith, h, length-map notes (row_for t))) ∙ first_rows t k notes)
    (sym (length-take-le k notes h))

module _ (t : Terms) (n : Note) where
  abbrev cells-noted : List ℕ
  cells-noted = cells_of (basis_of t n.list) n.list

  note-book : book_in_lem t.header (row_for t n) ≡ book_of t n.list
  unfolding row_for
  note-book = book-back n.name (book_of t n.list) cells-noted (index_of n.list)

  note-cells : cells_in (row_for t n) ≡ cells-noted
  unfolding row_for
  note-cells = cells-back n.name (book_of t n.list) cells-noted (index_of n.list) (cells-length (basis_of t n.list) n.list)

  note-index : index_in (row_for t n) ≡ index_of n.list
  unfolding row_for
  note-index =
      index_back n.name (book_of t n.list) cells-noted (index_of n.list) (cells-length (basis_of t n.list) n.list) (index-length n.list)

-- the state of the ledger that took a noted list up again
returned : (t : Terms) (a : Accepted) (name : ℕ) → place_of_note a name < length a.notes →
    back_at (state_of t a) (place_of_note a name) ≡ state_of t (taken_up a name)
returned t a name h =
    let n : Note = get_or a.notes (place_of_note a name) no_note in
    let row = row_at t a.notes (place_of_note a name) h in
    λ i. state_at ((ap (book_in_lem t.header) row ∙ note-book t n) i) t.rates ((ap cells_in row ∙ note-cells t n) i)
    ((ap index_in row ∙ note-index t n) i) (marks-first t a.notes (suc (place_of_note a name)) h i)

module _ (t : Terms) (a : Accepted) (h : GoodLedger a) (m : MarkLine) where
  -- the row of a name that is kept
  row_named : is_among m.name (names_of a.notes) ≡ true → place_named (state_of t a) m.name ≡ place_of_note a m.name
  row_named e =
      ap (place_among m.name) (names-are t a.notes)
      ∙ place-left m.name (names_of a.notes) (replicate (8 - length a.notes) 0) (ltb-true _ (length (names_of a.notes)) e)

  marked_step : mark_refusal (kept_by a.notes) m ≡ 0 →
      pick m.back (back_at (state_of t a) (place_named (state_of t a) m.name)) (marked (state_of t a) m.name) ≡ state_of t (with_mark a m)
  unfolding row_for
  marked_step e = ⊎_elim
      (λ (b, n). rw b (ap (back_at (state_of t a)) (row_named n) ∙ returned t a m.name
      (rw (names-length a.notes) at (ltb-true _ (length (names_of a.notes)) n))))
      (λ (b, n, f). rw b (ap (λ (x : List (List ℕ)). state_at (book_of t a.kept) t.rates (cells_of (basis_of t a.kept) a.kept) (index_of a.kept) x)
      (ap (λ (k : ℕ). set (marks_of t a.notes) k (row_for t (record { name = m.name; list = a.kept }))) (free-is t a.notes h.notes)
      ∙ marks-more t a.notes (record { name = m.name; list = a.kept }) (leb-false most_marks (length a.notes) f))))
      (taken-mark (kept_by a.notes) m e)

  mark-step : (k : ℕ) → k ≡ mark_refusal (kept_by a.notes) m → state_marked k (state_of t a) m ≡ state_of t (pick (eqb k 0) (with_mark a m) a)
  unfolding state_marked
  mark-step k e = go (eqb k 0) refl
    where
      go : (test : Bool) → eqb k 0 ≡ test →
          pick test (pick m.back (back_at (state_of t a) (place_named (state_of t a) m.name)) (marked (state_of t a) m.name)) (state_of t a) ≡
          state_of t (pick test (with_mark a m) a)
      go true f = marked_step (sym e ∙ eqb-true k 0 f)
      go false f = refl

-- no note
pub no-notes : (t : Terms) → no_marks ≡ marks_of t []
unfolding no_marks marks_of
no-notes t = refl

pub step : (t : Terms) (a : Accepted) → GoodLedger a → (s : List ℕ) →
    feeding (state_of t a) s ≡ record { refusal = refusal_of t a s; state = state_of t (accept t a s) }
unfolding feeding_line book_after cells_after index_after accept refusal_for content_kind
step t a h s =
    let c : Content = line_content (line_of s) in
    λ i. record { refusal = same-refusal t a h s i; state = (by_number ∙ go (held-mark c) refl) i }
  where
    -- with the refusal that the ledger says
    by_number : (feeding (state_of t a) s).state ≡
        of_mark (state_marked (refusal_of t a s) (state_of t a)) (added-by t a s (eqb (refusal_of t a s) 0)) (line_content (line_of s))
    by_number = ap (λ (n : ℕ). of_mark (state_marked n (state_of t a)) (added-by t a s (eqb n 0)) (line_content (line_of s))) (same-refusal t a h s)

    go : {c : Content} → HeldMark c → line_content (line_of s) ≡ c →
        of_mark (state_marked (refusal_of t a s) (state_of t a)) (added-by t a s (eqb (refusal_of t a s) 0)) c ≡
        state_of t (pick (eqb (refusal_of t a s) 0) (of_mark (with_mark a) (added a s) c) a)
    go (a_mark m) e =
        mark-step t a h m (refusal_of t a s)
        (ap (λ (x : Content). refusal_for (basis_of t a.kept) (counts_in a.kept) (kept_by a.notes) (content_kind (line_refusal (line_of s)) x)) e)
    go (no_mark k) e =
        rw (k State (state_marked (refusal_of t a s) (state_of t a)) (added-by t a s (eqb (refusal_of t a s) 0)), k Accepted (with_mark a) (added a s))
        (line_step t a h s (eqb (refusal_of t a s) 0) refl)
