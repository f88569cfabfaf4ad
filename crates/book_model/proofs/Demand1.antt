-- Demand 1 over the definitions. Assumes nothing.
use mathlib.Core.Path.{◌≡◌, refl, ◌∙◌, ap}
use mathlib.Core.Bool.{Bool, true, false, ◌||◌, false≢true}
use mathlib.Core.List.{List, [], ◌∷◌, Memᴰ}
use mathlib.Core.Logic.{◌⊎◌, ⊎_elim}
use Prim.Native.Nat.{ℕ, ◌≤◌}
use native.Mathlib.Omega.{arith}
use lib.Dec.{eqb, ltb, leb}
use borrow.Author.Tests.{eqb-true}
use lib.ListN.{length}
use Rattle.exact.specs.Choice.{pick}
use Rattle.figures.specs.declared.Counts.{Counts}
use Rattle.line_forms.specs.declared.IndexValue.{IndexValue}
use Rattle.line_forms.specs.declared.Loan.{Loan}
use Rattle.line_forms.specs.declared.MarkLine.{MarkLine}
use Rattle.line_forms.specs.declared.Header.{Header}
use Rattle.line_forms.specs.declared.refusal.Refusal.{Refusal as Reason}
use Rattle.std.specs.Prelude.{Result, Err}
use Rattle.line_forms.specs.declared.Line.{Line}
use Rattle.line_forms.specs.declared.Line.TheVariants.{Loan as LoanLine, Policy as PolicyLine, Derivative as DerivativeLine, Asset as AssetLine}
use Rattle.line_forms.specs.declared.Line.TheVariants.{Amount as AmountLine, Index as IndexLine, Mark as MarkRead, Refusal}
use Rattle.line_forms.specs.declared.Content.{Content}
use Rattle.line_forms.specs.Refusals.{number_of}
use Rattle.line_forms.specs.Claims.{line_content}
use Rattle.line_forms.specs.Readings.{line_of, header_of}
use Rattle.line_forms.proofs.HeaderLaws.{header-numbers}
use Rattle.line_forms.proofs.LineLaws.{line_numbers}
use Rattle.figures.specs.Figures.{figures_of}
use Rattle.figures.proofs.FiguresLaws.{figures-bounded}
use Rattle.book_report.proofs.Lengths.{report-most}
use Rattle.cell_report.proofs.Laws.{cells_fit as cells-fit-64}
use Rattle.book_model.specs.declared.Book.{Book}
use Rattle.book_model.specs.Accepted.{most_other, loan_beyond_lem, refusal_for}
use Rattle.book_model.specs.Calls.{State, Answer, state_at, basis_in, counts_of, opening_for, refusal_in, book_after, cells_after, index_after, state_marked}
use Rattle.book_model.specs.Calls.{feeding_line, lacks_lines}
use Rattle.book_model.specs.Calls.{closing_with, report_size, report_of, cells_size, cells_text_of, SoundBook, Sound}
use Rattle.book_model.specs.Demand1.{refused_state, Demand1}
use Rattle.book_model.specs.HouseIndex.{adjustment_of, lacking}
use Rattle.book_model.specs.LineKinds.{a_loan, an_index, a_mark, another, of_mark, content_kind}
use Rattle.book_model.specs.Marks.{most_marks, Kept, kept_in}
use Rattle.book_model.specs.Terms.{Basis}
use Rattle.book_model.proofs.Closings.{untouched}
use Rattle.book_model.proofs.Feeding as feeding-laws
use Rattle.book_model.proofs.MarkRows.{HeldMark, a_mark as held-a-mark, no_mark, held-mark}
use Rattle.book_model.proofs.Openings.{number, sheet-passes, sheet-fails, header-fails, Case, book_opens, sheet_refused, header_refused, case_of}
use Rattle.book_model.proofs.Ranged.{ranged, ranged-header}

-- places in a list of numbers
first : {n x : ℕ} {xs : List ℕ} → n ≡ x → Memᴰ n (x ∷ xs)
first e = Memᴰ.head e

later : {n x : ℕ} {xs : List ℕ} → Memᴰ n xs → Memᴰ n (x ∷ xs)
later m = Memᴰ.tail m

opening-number : (sheet : List ℕ) (l : Result Header Reason) → ((q : Reason) → l ≡ Err q → (number_of q ≡ 1) ⊎ (number_of q ≡ 2) ⊎ (number_of q ≡ 7) ⊎ (number_of q ≡ 3) ⊎ (number_of q ≡ 4)) →
    Memᴰ (opening_for sheet l).refusal (0 ∷ 1 ∷ 2 ∷ 7 ∷ 3 ∷ 4 ∷ 10 ∷ [])
opening-number sheet l k = go (case_of sheet l) k
  where
    go : {l : Result Header Reason} → Case sheet l → ((q : Reason) → l ≡ Err q → (number_of q ≡ 1) ⊎ (number_of q ≡ 2) ⊎ (number_of q ≡ 7) ⊎ (number_of q ≡ 3) ⊎ (number_of q ≡ 4)) →
        Memᴰ (opening_for sheet l).refusal (0 ∷ 1 ∷ 2 ∷ 7 ∷ 3 ∷ 4 ∷ 10 ∷ [])
    go (book_opens h e) k = first (number (sheet-passes sheet h e))
    go (sheet_refused h e) k = later (later (later (later (later (later (first (number (sheet-fails sheet h e))))))))
    go (header_refused n) k =
        let e = number (header-fails sheet n) in
        later (⊎_elim (λ a. first (e ∙ a)) (λ a. later (⊎_elim (λ b. first (e ∙ b)) (λ b. later (⊎_elim (λ c. first (e ∙ c)) (λ c. later
        (⊎_elim (λ d. first (e ∙ d)) (λ d. later (first (e ∙ d))) c)) b)) a)) (k n refl))

-- the numbers of feeding
abbrev Fed : ℕ → Type 0
Fed n = Memᴰ n (0 ∷ 1 ∷ 2 ∷ 7 ∷ 3 ∷ 5 ∷ 12 ∷ 8 ∷ 11 ∷ 13 ∷ 14 ∷ 15 ∷ [])

-- a number that a list has
unfoldable has : ℕ → List ℕ → Bool
has n [] = false
has n (x ∷ xs) = eqb n x || has n xs

found : (n : ℕ) (xs : List ℕ) → has n xs ≡ true → Memᴰ n xs
unfolding has
found n [] e = absurd (false≢true e)
found n (x ∷ xs) e = go (eqb n x) refl e (found n xs)
  where
    go : (t : Bool) → eqb n x ≡ t → (t || has n xs) ≡ true → (has n xs ≡ true → Memᴰ n xs) → Memᴰ n (x ∷ xs)
    go true f e rest = first (eqb-true n x f)
    go false f e rest = later (rest e)

-- by both tests, whichever comes first
loan-number : (g : Basis) (c : Counts) (k : Kept) (l : Loan) → Fed (refusal_for g c k (a_loan l))
unfolding refusal_for has
loan-number g c k l = go (loan_beyond_lem g.terms.header c l.score) refl (lacking (adjustment_of g.index l)) refl
  where
    go : (x : Bool) → loan_beyond_lem g.terms.header c l.score ≡ x → (y : Bool) → lacking (adjustment_of g.index l) ≡ y →
        Fed (refusal_for g c k (a_loan l))
    go true p true q = simp (p, q) (found _ _ refl)
    go true p false q = simp (p, q) (found _ _ refl)
    go false p true q = simp (p, q) (found _ _ refl)
    go false p false q = simp (p, q) (found _ _ refl)

index_number : (g : Basis) (c : Counts) (k : Kept) (i : IndexValue) → Fed (refusal_for g c k (an_index i))
unfolding refusal_for has
index_number g c k i = go (leb most_other c.other) refl (eqb (g.index i.area i.month) 0) refl
  where
    go : (x : Bool) → leb most_other c.other ≡ x → (y : Bool) → eqb (g.index i.area i.month) 0 ≡ y → Fed (refusal_for g c k (an_index i))
    go true p true q = simp (p, q) (found _ _ refl)
    go true p false q = simp (p, q) (found _ _ refl)
    go false p true q = simp (p, q) (found _ _ refl)
    go false p false q = simp (p, q) (found _ _ refl)

other-number : (g : Basis) (c : Counts) (k : Kept) → Fed (refusal_for g c k another)
unfolding refusal_for has
other-number g c k = go (leb most_other c.other) refl
  where
    go : (x : Bool) → leb most_other c.other ≡ x → Fed (refusal_for g c k another)
    go true p = rw p (found _ _ refl)
    go false p = rw p (found _ _ refl)

mark-number : (g : Basis) (c : Counts) (k : Kept) (m : MarkLine) → Fed (refusal_for g c k (a_mark m))
unfolding refusal_for has
mark-number g c k m = go m.back refl (k.named m.name) refl (leb most_marks k.count) refl
  where
    go : (x : Bool) → m.back ≡ x → (y : Bool) → k.named m.name ≡ y → (z : Bool) → leb most_marks k.count ≡ z → Fed (refusal_for g c k (a_mark m))
    go true p true q z r = simp (p, q) (found _ _ refl)
    go true p false q z r = simp (p, q) (found _ _ refl)
    go false p true q true r = simp (p, q, r) (found _ _ refl)
    go false p true q false r = simp (p, q, r) (found _ _ refl)
    go false p false q true r = simp (p, q, r) (found _ _ refl)
    go false p false q false r = simp (p, q, r) (found _ _ refl)

feeding-number : (s : State) (l : Line) → ((q : Reason) → l ≡ Refusal q → (number_of q ≡ 1) ⊎ (number_of q ≡ 2) ⊎ (number_of q ≡ 7) ⊎ (number_of q ≡ 3)) → Fed (refusal_in s l)
unfolding refusal_for content_kind
feeding-number s (LoanLine l) k = loan-number (basis_in s) (counts_of s.book) (kept_in s.marks) l
feeding-number s (PolicyLine p) k = other-number (basis_in s) (counts_of s.book) (kept_in s.marks)
feeding-number s (DerivativeLine d) k = other-number (basis_in s) (counts_of s.book) (kept_in s.marks)
feeding-number s (AssetLine a) k = other-number (basis_in s) (counts_of s.book) (kept_in s.marks)
feeding-number s (AmountLine a) k = other-number (basis_in s) (counts_of s.book) (kept_in s.marks)
feeding-number s (IndexLine i) k = index_number (basis_in s) (counts_of s.book) (kept_in s.marks) i
feeding-number s (MarkRead m) k = mark-number (basis_in s) (counts_of s.book) (kept_in s.marks) m
feeding-number s (Refusal n) k = later (⊎_elim first (λ a. later (⊎_elim first (λ b. later (⊎_elim first (λ c. later (first c)) b)) a)) (k n refl))

closing-number : (x y : Bool) → Memᴰ {A = ℕ} (pick x 6 (pick y 9 0)) (0 ∷ 6 ∷ 9 ∷ [])
closing-number true y = later (first refl)
closing-number false true = later (later (first refl))
closing-number false false = first refl

refused_opening : (sheet : List ℕ) (l : Result Header Reason) → ((opening_for sheet l).refusal ≡ 0 → ⊥) → (opening_for sheet l).state ≡ refused_state
refused_opening sheet l n = go (case_of sheet l) n
  where
    go : {l : Result Header Reason} → Case sheet l → ((opening_for sheet l).refusal ≡ 0 → ⊥) → (opening_for sheet l).state ≡ refused_state
    go (book_opens h e) n = absurd (n (number (sheet-passes sheet h e)))
    go (sheet_refused h e) n = ap (λ (x : Answer). x.state) (sheet-fails sheet h e)
    go (header_refused k) n = ap (λ (x : Answer). x.state) (header-fails sheet k)

-- a line that meets a refusal, whatever it holds
refused_feeding : (s : State) (l : Line) → ((feeding_line s l).refusal ≡ 0 → ⊥) → (feeding_line s l).state ≡ s
unfolding feeding_line book_after cells_after index_after state_marked
refused_feeding s l n = of_either (held-mark (line_content l)) (λ m. marked (eqb (refusal_in s l) 0) _ refl) (go (eqb (refusal_in s l) 0) _ _ _ refl)
  where
    of_either : {c : Content} {f : MarkLine → State} {x : State} → HeldMark c → ((m : MarkLine) → f m ≡ s) → x ≡ s → of_mark f x c ≡ s
    of_either (held-a-mark m) h k = h m
    of_either {c} {f} {x} (no_mark e) h k = e State f x ∙ k

    marked : (t : Bool) (x : State) → eqb (refusal_in s l) 0 ≡ t → pick t x s ≡ s
    marked true x e = absurd (n (eqb-true (refusal_in s l) 0 e))
    marked false x e = refl

    go : (t : Bool) (b : Book) (cells index : List ℕ) → eqb (refusal_in s l) 0 ≡ t →
        state_at (pick t b s.book) s.rates (pick t cells s.cells) (pick t index s.index) s.marks ≡ s
    go true b cells index e = absurd (n (eqb-true (refusal_in s l) 0 e))
    go false b cells index e = refl

report_fits : (b : Book) → SoundBook b → length (report_of b) ≤ 512
report_fits b h =
    let bounds = figures-bounded b.header.held b.sums h.bounded
    (record { loans = omega (arith, h.loans, h.header_loans); other = omega (arith, h.other) }) in
    omega (arith, report-most (figures_of b.header.held b.sums) bounds)

cells_fit : (s : State) → Sound s → length (cells_text_of s.cells) ≤ 8192
cells_fit s h = cells-fit-64 s.cells (λ i. omega (arith, h.cells.each i, h.book.loans, h.book.header_loans))

pub demand1 : Demand1
unfolding closing_with feeding_line
demand1 = record {
  opening_numbers = λ sheet line. opening-number sheet (header_of line) (header-numbers line);
  feeding_numbers = λ s line. feeding-number s (line_of line) (line_numbers line);
  closing_numbers = λ b size. closing-number (lacks_lines b.header b.sums.counts) (ltb size report_size);
  cells_numbers = λ b cells size. closing-number (lacks_lines b.header b.sums.counts) (ltb size cells_size);
  refused_opening = λ sheet line. refused_opening sheet (header_of line);
  refused_feeding = λ s line. refused_feeding s (line_of line);
  refused_closing = λ b buffer n. untouched report_size b (report_of b) buffer n;
  refused_cells = λ b cells buffer n. untouched cells_size b (cells_text_of cells) buffer n;
  report_fits = report_fits;
  cells_fit = cells_fit;
  opening_sound = λ sheet line. feeding-laws.opening_sound sheet (header_of line) (ranged-header line);
  feeding_sound = λ s line h. feeding-laws.fed-sound s (line_of line) h (ranged line);
}
