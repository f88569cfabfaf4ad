-- A joined book is one book with the added header, fed the lines still standing in both, index lines once and first. Assumes nothing.
use mathlib.Core.Path.{◌≡◌, refl, sym, ◌∙◌, ap, ap₂, subst}
use mathlib.Core.Bool.{Bool, true, false, ◌&&◌}
use mathlib.Core.List.Memᴰ
use mathlib.Core.List.{List, [], ◌∷◌, ◌++◌, Memᴰ}
use mathlib.Core.List.{Permᴰ}
use mathlib.Core.Logic.{⊎_elim}
use Prim.Native.Nat.{ℕ, ◌+◌, ◌≤◌}
use native.Mathlib.Omega.{arith}
use lib.Dec.{eqb}
use lib.ListN.{get_or}
use borrow.Author.Tests.{le-leb}
use Rattle.exact.specs.Choice.{pick}
use Rattle.loan_charge.specs.CreditFactor.{rates_of_lem}
use Rattle.sheet.specs.Sheet.{SheetRules, sheet_passes}
use Rattle.sheet.proofs.Loading.{loading}
use Rattle.line_forms.specs.declared.Header.{Header}
use Rattle.std.specs.Prelude.{Ok}
use Rattle.line_forms.specs.declared.IndexValue.{IndexValue}
use Rattle.line_forms.specs.declared.Loan.{Loan}
use Rattle.line_forms.specs.declared.Content.{Content}
use Rattle.line_forms.specs.declared.Content.TheVariants.{Header as header, Index as index}
use Rattle.line_forms.specs.Claims.{line_content}
use Rattle.line_forms.specs.Contents.{bytes_of, header_in_range, in_range}
use Rattle.line_forms.specs.Readings.{line_of, header_of}
use Rattle.line_forms.proofs.HeaderLaws.{bytes_read}
use Rattle.figures.specs.Sums.{plus}
use Rattle.figures.proofs.SumsLaws.{none-plus}
use Rattle.cell_report.specs.CellReport.{place_of}
use Rattle.book_model.specs.declared.Book.{Book}
use Rattle.book_model.specs.Accepted.{Accepted, counts_in}
use Rattle.book_model.specs.Calls.{State, state_at, counts_of, opening_refusal, opening, feeding, SoundBook}
use Rattle.book_model.specs.Cells.{loan_band, loan_ltv, loan_or, loan_cell}
use Rattle.book_model.specs.FreshScores.{CountsKept}
use Rattle.book_model.specs.GivenState.{state_given, IsOpened}
use Rattle.book_model.specs.History.{History, opened, fed, all_fed, header_line, sheet_of, terms_of, accepted_of, lines_taken, sums_by, sums_of}
use Rattle.book_model.specs.HouseIndex.{Index, adjustment_of, lacking, of_index, values_in, place_for, values_at, index_line}
use Rattle.book_model.specs.Joining.{added_header_lem, KeepsChoices, MayJoin, added_cells, joined_state, index_lines, other_lines, added_header_line}
use Rattle.book_model.specs.Joining.{one_book}
use Rattle.book_model.specs.LineKinds.{sum_by, with_indexed}
use Rattle.book_model.specs.Terms.{Terms, Basis, under, under_sheet, terms_for, basis_of, factor_for}
use Rattle.book_model.proofs.Adjustments.{Has, Settled, Alike}
use Rattle.book_model.proofs.Cells.{Held, a_loan as held-loan, no_loan, held}
use Rattle.book_model.proofs.ChargedAlike.{AllAlike, sums-alike, placed_alike, factors-kept}
use Rattle.book_model.proofs.Demand3.{opened-is, fed-is, terms-stay}
use Rattle.book_model.proofs.Feeding.{Room}
use Rattle.book_model.proofs.FreshScores.{taken-sound, opened_with, stays, fresh_scores}
use Rattle.book_model.proofs.IndexTables.{set_at, index_of}
use Rattle.book_model.proofs.Ledger.{Good, good_of}
use Rattle.book_model.proofs.LineSums.{sum-permuted}
use Rattle.book_model.proofs.OwnFactors.{own_factors}
use Rattle.book_model.proofs.Places.{places-are}
use Rattle.book_model.proofs.SplitLines.{sum-append, sum-split, others-nothing, index-nothing, sums-both, sums-reordered, sums-index, sums-others}
use Rattle.book_model.proofs.SplitLines.{among-index, among-others}
use Rattle.book_model.proofs.Steps.{book_of, state_of, counts, table-alike, no-notes}
use Rattle.book_model.proofs.Tables.{tabulate, placed, placed_by, cells_of, cells-length, cells_at}
use Rattle.book_model.proofs.TakenWhole.{unmarked, InTurn, taken-in-turn, none-taken, Takeable, whole-in-turn}

-- Lines in another order

pub permuted-member : {A : Type 0} {xs ys : List A} → Permᴰ xs ys → (s : A) → Memᴰ s xs → Memᴰ s ys
permuted-member Permᴰ.nil s m = m
permuted-member (Permᴰ.cons e p) s (Memᴰ.head f) = Memᴰ.head (f ∙ e)
permuted-member (Permᴰ.cons e p) s (Memᴰ.tail m) = Memᴰ.tail (permuted-member p s m)
permuted-member (Permᴰ.swap e g) s (Memᴰ.head f) = Memᴰ.tail (Memᴰ.head (f ∙ e))
permuted-member (Permᴰ.swap e g) s (Memᴰ.tail (Memᴰ.head f)) = Memᴰ.head (f ∙ g)
permuted-member (Permᴰ.swap e g) s (Memᴰ.tail (Memᴰ.tail m)) = Memᴰ.tail (Memᴰ.tail m)
permuted-member (Permᴰ.trans p q) s m = permuted-member q s (permuted-member p s m)

-- Loans of a list that have their values, by any index that adjusts them alike

settled-has : (v : Index) (kept : List (List ℕ)) → Settled v kept → (s : List ℕ) → Memᴰ s kept → Has v (line_content (line_of s))
unfolding Settled
settled-has v (r ∷ kept) h s (Memᴰ.head e) = subst (λ (x : List ℕ). Has v (line_content (line_of x))) (sym e) h.0
settled-has v [] h s x'' = elim x'' [ ]
settled-has v (r ∷ kept) h s (Memᴰ.tail m) = settled-has v kept h.1 s m

alike-has : (v w : Index) (c : Content) → Alike v w c → Has v c → Has w c
alike-has v w c a h = go (held c) a h
  where
    go : {c : Content} → Held c → Alike v w c → Has v c → Has w c
    go (held-loan l) a h = ap lacking (sym (a l refl)) ∙ h
    go (no_loan n) a h = n Bool (λ l. lacking (adjustment_of w l)) false

-- the terms of a header that is read, under a sheet that passes
terms-read : (sheet : List ℕ) (j : Header) → sheet_passes sheet ≡ true → terms_for sheet (Ok j) ≡ under_sheet j sheet
unfolding terms_for
terms-read sheet j e = rw e refl

-- The index lines of a book, in any order: what goes by index values is that of the book
module _ (kept first : List (List ℕ)) (p : Permᴰ first (index_lines kept)) where
  pub first-sum : (f : IndexValue → ℕ) → sum_by (of_index f 0) first ≡ sum_by (of_index f 0) kept
  first-sum f = omega (arith, sum-permuted (of_index f 0) p, sum-split (of_index f 0) kept, others-nothing f kept)

  pub first-values : values_in first ≡ values_in kept
  unfolding values_in
  first-values = λ i area month. first-sum (λ v. pick (eqb v.area area && eqb v.month month) v.value 0) i

  pub first-index : index_of first ≡ index_of kept
  unfolding index_of set_at
  first-index = ap (tabulate 1584 0) (λ j i. first-sum (λ v. pick (eqb i (place_for v.area v.month)) v.value 0) j)

  -- they are index lines, of which no two set the same value
  pub are-index : (s : List ℕ) → Memᴰ s first → (i : IndexValue) × (line_content (line_of s) ≡ index i)
  are-index s k = (among-index kept s (permuted-member p s k)).1

  pub set-once : Good kept → (s : List ℕ) (i : IndexValue) → Memᴰ s first → line_content (line_of s) ≡ index i → values_in first i.area i.month ≡ i.value
  set-once g s i k e =
      ap (λ (v : (area month : ℕ) → ℕ). v i.area i.month) first-values ∙ g.once s i (among-index kept s (permuted-member p s k)).0 e

-- The lines of two books, index lines of the first once and first, each part in any order
module _ (kept others first rest : List (List ℕ)) (p : Permᴰ first (index_lines kept)) (q : Permᴰ rest (other_lines kept ++ other_lines others)) where
  abbrev lines : List (List ℕ)
  lines = first ++ rest

  index-sum : (f : IndexValue → ℕ) → sum_by (of_index f 0) lines ≡ sum_by (of_index f 0) kept
  index-sum f = omega (
    arith,
    sum-append (of_index f 0) first rest,
    first-sum kept first p f,
    sum-permuted (of_index f 0) q,
    sum-append (of_index f 0) (other_lines kept) (other_lines others),
    others-nothing f kept,
    others-nothing f others,
  )

  same-values : values_in lines ≡ values_in kept
  unfolding values_in
  same-values = λ i area month. index-sum (λ v. pick (eqb v.area area && eqb v.month month) v.value 0) i

  same_index : index_of lines ≡ index_of kept
  unfolding index_of set_at
  same_index = ap (tabulate 1584 0) (λ j i. index-sum (λ v. pick (eqb i (place_for v.area v.month)) v.value 0) j)

  same-indexed : sum_by index_line lines ≡ sum_by index_line kept
  same-indexed = index-sum (λ i. 1)

  -- what goes by loans is that of both
  loan-sum : (f : Loan → ℕ) → sum_by (loan_or f 0) lines ≡ sum_by (loan_or f 0) kept + sum_by (loan_or f 0) others
  loan-sum f = omega (
    arith,
    sum-append (loan_or f 0) first rest,
    sum-permuted (loan_or f 0) p,
    index-nothing f kept,
    sum-permuted (loan_or f 0) q,
    sum-append (loan_or f 0) (other_lines kept) (other_lines others),
    sum-split (loan_or f 0) kept,
    sum-split (loan_or f 0) others,
    index-nothing f others,
  )

  both-placed : (g : Basis) (i : ℕ) → sum_by (placed_by g i) lines ≡ sum_by (placed_by g i) kept + sum_by (placed_by g i) others
  unfolding placed_by
  both-placed g i = loan-sum (λ l. placed i (place_of (loan_band l) (loan_ltv g.index l)) (loan_cell g l))

  both_sums : (g : Basis) → sums_by g lines ≡ plus (sums_by g kept) (sums_by g others)
  both_sums g =
      sums-both g first rest
      ∙ ap₂ plus (sums-reordered g p ∙ sums-index g kept)
      (sums-reordered g q ∙ sums-both g (other_lines kept) (other_lines others) ∙ ap₂ plus (sums-others g kept) (sums-others g others))
      ∙ none-plus (plus (sums_by g kept) (sums_by g others))

-- Two books under the same rates and index values whose choices the added header keeps
module _ (t u : Terms) (j : Header) (kept others first rest : List (List ℕ)) (p : Permᴰ first (index_lines kept))
    (q : Permᴰ rest (other_lines kept ++ other_lines others)) (rates : t.rates ≡ u.rates) (index : index_of kept ≡ index_of others)
    (a : KeepsChoices t.header j) (b : KeepsChoices u.header j) (m : CountsKept t.header (counts_in kept)) (n : CountsKept u.header (counts_in others)) where
  abbrev terms : Terms
  terms = under j t.rates

  abbrev all : List (List ℕ)
  all = first ++ rest

  abbrev by : Basis
  by = basis_of terms all

  -- each loan has the same factor and adjustment as in its own book
  first_alike : AllAlike (basis_of t kept) by kept
  first_alike s k l e = (
    ap (λ (v : (area month : ℕ) → ℕ). adjustment_of v l) (sym (same-values kept others first rest p q)),
    factors-kept t.rates t.header j a kept m s k l e,
  )

  same-adjusted : (s : List ℕ) → Alike (values_in others) (values_in kept) (line_content (line_of s))
  same-adjusted s l e =
      sym (table-alike others s l e) ∙ ap (λ (x : List ℕ). adjustment_of (values_at x) l) (sym index) ∙ table-alike kept s l e

  second_alike : AllAlike (basis_of u others) by others
  second_alike s k l e = (
    same-adjusted s l e ∙ ap (λ (v : (area month : ℕ) → ℕ). adjustment_of v l) (sym (same-values kept others first rest p q)),
    factors-kept u.rates u.header j b others n s k l e ∙ ap (λ (x : List ℕ). factor_for (under j x) l.score) (sym rates),
  )

  sums_join : plus (sums_of t kept) (sums_of u others) ≡ sums_of terms all
  sums_join =
      ap₂ plus (sums-alike (basis_of t kept) by kept first_alike) (sums-alike (basis_of u others) by others second_alike)
      ∙ sym (both_sums kept others first rest p q by)

  cells-join : added_cells (cells_of (basis_of t kept) kept) (cells_of (basis_of u others) others) ≡ cells_of by all
  unfolding added_cells
  cells-join = places-are 240 (λ i. get_or (cells_of (basis_of t kept) kept) i 0 + get_or (cells_of (basis_of u others) others) i 0) (cells_of by all) (cells-length by all)
      (λ i h. rw (cells_at (basis_of t kept) kept i h, cells_at (basis_of u others) others i h, cells_at by all i h)
      (omega (
        arith,
        placed_alike (basis_of t kept) by i kept first_alike,
        placed_alike (basis_of u others) by i others second_alike,
        both-placed kept others first rest p q by i,
      )))

  -- the joined book, its tables included
  pub state-join : (x y : Accepted) → x.kept ≡ kept → y.kept ≡ others → added_header_lem t.header u.header ≡ j →
      joined_state (state_of t x) (state_of u y) ≡ state_of terms (unmarked all)
  state-join x y e f g =
      ap₂ (λ (k o : List (List ℕ)). joined_state (state_of t (record { kept = k; notes = x.notes })) (state_of u (record { kept = o; notes = y.notes }))) e f
      ∙ (λ i. state_at (record { header = g i; sums = sums_join i; indexed = sym (same-indexed kept others first rest p q) i }) t.rates (cells-join i)
      (sym (same_index kept others first rest p q) i) (no-notes terms i))

  -- the counts of both, index lines once
  pub counts-join : {h k : Book} → SoundBook h → SoundBook k → h ≡ book_of t kept → k ≡ book_of u others → added_header_lem t.header u.header ≡ j →
      h.sums.counts.other + k.sums.counts.other + h.indexed ≤ 100000 → Room j (counts_in all)
  counts-join {h} {k} v w e f g o =
      let x : SoundBook (book_of t kept) = subst SoundBook e v in
      let y : SoundBook (book_of u others) = subst SoundBook f w in
      let c : counts_of (record {
        header = added_header_lem t.header u.header;
        sums = plus (sums_of t kept) (sums_of u others);
        indexed = sum_by index_line kept;
      }) ≡ counts_in all =
      (λ i. with_indexed (sums_join i).counts (sym (same-indexed kept others first rest p q) i)) ∙ counts terms all in
      let o2 : (sums_of t kept).counts.other + (sums_of u others).counts.other + sum_by index_line kept ≤ 100000 =
      subst (λ (z : Book). z.sums.counts.other + (sums_of u others).counts.other + z.indexed ≤ 100000) e
      (subst (λ (z : Book). h.sums.counts.other + z.sums.counts.other + h.indexed ≤ 100000) f o) in
      subst (Room j) c (subst (λ (z : Header). Room z (counts_of (record {
        header = added_header_lem t.header u.header;
        sums = plus (sums_of t kept) (sums_of u others);
        indexed = sum_by index_line kept;
      }))) g (record {
        loans = omega (arith, x.loans, y.loans);
        unscored = omega (arith, x.unscored, y.unscored);
        fresh = omega (arith, x.fresh, y.fresh);
        other = o2;
      }))

  -- so all of them are taken
  pub takeable : Good kept → Good others → Room j (counts_in all) → Takeable terms first rest
  takeable g o r = record {
    indexed = are-index kept first p;
    once = set-once kept first p g;
    plain = λ s k. ⊎_elim (λ x. g.plain s (among-others kept s x).0) (λ x. o.plain s (among-others others s x).0)
        (Memᴰ.append_cases (other_lines kept) (permuted-member q s k));
    no_index = λ s k. ⊎_elim (λ x. (among-others kept s x).1) (λ x. (among-others others s x).1)
        (Memᴰ.append_cases (other_lines kept) (permuted-member q s k));
    has = λ s k. rw (first-values kept first p) (⊎_elim
        (λ x. settled-has (values_in kept) kept g.settled s (among-others kept s x).0)
        (λ x. alike-has (values_in others) (values_in kept) (line_content (line_of s)) (same-adjusted s)
        (settled-has (values_in others) others o.settled s (among-others others s x).0))
        (Memᴰ.append_cases (other_lines kept) (permuted-member q s k)));
    room = r;
  }

-- The state that a history gives is that of the lines taken.
pub state-given : (past : History) → state_given past ≡ state_of (terms_of past) (accepted_of past)
unfolding state_given
state-given (opened sheet line) = opened-is sheet line
state-given (fed past line) = ap (λ (s : State). (feeding s line).state) (state-given past) ∙ fed-is past line

-- what a history was opened under
pub sheet-of : (h : History) → IsOpened h → SheetRules (sheet_of h) × ((terms_of h).rates ≡ rates_of_lem (sheet_of h))
sheet-of h e =
    let (r, f) = own_factors.opened (sheet_of h) (header_line h) e in
    (r, ap (λ (t : Terms). t.rates) (opened_with h) ∙ f)

pub header-in-range : (j : Header) → j.loans ≤ 1000000 → j.held ≤ 10000000000000 → in_range (header j) ≡ true
unfolding in_range header_in_range
header-in-range j a b = rw (
  le-leb 0 j.loans (omega arith),
  le-leb j.loans 1000000 a,
  le-leb 0 j.held (omega arith),
  le-leb j.held 10000000000000 b,
) refl

-- A book opened under the sheet of another, with the line of a header that is read back
module _ (h : History) (x : IsOpened h) (j : Header) (e : header_of (bytes_of (header j)) ≡ Ok j) where
  pub terms-with : terms_of (opened (sheet_of h) (bytes_of (header j))) ≡ under j (terms_of h).rates
  unfolding terms_of
  terms-with =
      let (r, f) = sheet-of h x in
      ap (terms_for (sheet_of h)) e ∙ terms-read (sheet_of h) j ((loading.test (sheet_of h)).1 r) ∙ ap (under j) (sym f)

  -- its opening is not refused, whatever it is fed then
  pub opens-with : (more : List (List ℕ)) → IsOpened (all_fed (opened (sheet_of h) (bytes_of (header j))) more)
  unfolding opening_refusal header_line sheet_of
  opens-with more =
      let (r, f) = sheet-of h x in
      let (a, b) = stays (opened (sheet_of h) (bytes_of (header j))) more in
      ap₂ (λ (sheet line : List ℕ). (opening sheet line).refusal) b a
      ∙ ap (opening_refusal (sheet_of h)) e ∙ rw ((loading.test (sheet_of h)).1 r) refl

module _ (h k : History) (x : IsOpened h) (y : IsOpened k)
    (c : MayJoin (state_of (terms_of h) (accepted_of h)) (state_of (terms_of k) (accepted_of k))) where
  abbrev j : Header
  j = added_header_lem (terms_of h).header (terms_of k).header

  header_read : header_of (added_header_line h k) ≡ Ok j
  header_read =
      let a : SoundBook (book_of (terms_of h) (lines_taken h)) = (taken-sound h).book in
      let b : SoundBook (book_of (terms_of k) (lines_taken k)) = (taken-sound k).book in
      bytes_read.header_back j (header-in-range j c.loans c.held) (omega (arith, a.header_scores, b.header_scores))

  -- the one book opens under the added header and the same sheet
  terms-one : terms_of (opened (sheet_of h) (added_header_line h k)) ≡ under j (terms_of h).rates
  terms-one = terms-with h x j header_read

  pub opens_one : (more : List (List ℕ)) → IsOpened (one_book h k more)
  opens_one more = opens-with h x j header_read more

  module _ (first rest : List (List ℕ)) (p : Permᴰ first (index_lines (lines_taken h)))
      (q : Permᴰ rest (other_lines (lines_taken h) ++ other_lines (lines_taken k))) where
    abbrev one : History
    one = one_book h k (first ++ rest)

    -- every line is taken, one after another
    pub all-in-turn : InTurn (terms_of (opened (sheet_of h) (added_header_line h k))) [] (first ++ rest)
    all-in-turn =
        let t = terms_of h in
        let u = terms_of k in
        let r = counts-join t u j (lines_taken h) (lines_taken k) first rest p q c.factors c.index c.first c.second
        (fresh_scores.kept h) (fresh_scores.kept k) (taken-sound h).book (taken-sound k).book refl refl refl c.lines in
        subst (λ (z : Terms). InTurn z [] (first ++ rest)) (sym terms-one)
        (whole-in-turn (under j t.rates) first rest
        (takeable t u j (lines_taken h) (lines_taken k) first rest p q c.factors c.index c.first c.second
        (fresh_scores.kept h) (fresh_scores.kept k) (good_of h) (good_of k) r))

    pub all-taken : accepted_of one ≡ unmarked (first ++ rest)
    all-taken =
        taken-in-turn (opened (sheet_of h) (added_header_line h k)) [] (first ++ rest) (none-taken (sheet_of h) (added_header_line h k)) all-in-turn

    -- and the joined book is that book
    pub one-book : joined_state (state_of (terms_of h) (accepted_of h)) (state_of (terms_of k) (accepted_of k)) ≡ state_of (terms_of one) (accepted_of one)
    one-book =
        state-join (terms_of h) (terms_of k) j (lines_taken h) (lines_taken k) first rest p q c.factors c.index c.first c.second
        (fresh_scores.kept h) (fresh_scores.kept k) (accepted_of h) (accepted_of k) refl refl refl
        ∙ ap₂ state_of (sym (terms-stay (opened (sheet_of h) (added_header_line h k)) (first ++ rest) ∙ terms-one)) (sym all-taken)
