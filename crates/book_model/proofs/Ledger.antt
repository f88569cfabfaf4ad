-- What the accepted lines keep to: no value of the index is set twice, and every loan has its values. Assumes nothing.
use mathlib.Core.Path.{◌≡◌, refl, sym, ◌∙◌, ap, ap₂, subst}
use mathlib.Core.Bool.{Bool, true, false, ◌&&◌, true≢false}
use mathlib.Core.List.Memᴰ
use mathlib.Core.List.{List, [], ◌∷◌, ◌++◌, Memᴰ}
use mathlib.Core.Logic.{◌⊎◌, inl, inr, ⊎_elim}
use Prim.Native.Nat.{ℕ, zero, suc, ◌+◌, ◌≤◌, ◌<◌}
use native.Mathlib.Omega.{arith}
use lib.Dec.{leb, ltb, eqb}
use lib.ListN.{length, get_or, take, length-append, length-map, length-take, get_or-append, get_or-map}
use lib.Seq.{get_or-take, get_or_at}
use borrow.Author.Tests.{ltb-true, ltb-false, leb-false, eqb-true, eqb-false, le-ltb, eq-eqb, ne_eqb}
use Rattle.exact.specs.Choice.{pick}
use Rattle.line_forms.specs.declared.IndexValue.{IndexValue}
use Rattle.line_forms.specs.declared.Loan.{Loan}
use Rattle.line_forms.specs.declared.MarkLine.{MarkLine}
use Rattle.line_forms.specs.declared.Content.{Content}
use Rattle.line_forms.specs.declared.Content.TheVariants.{Header as header, Loan as loan, Policy as policy, Derivative as derivative, Asset as asset}
use Rattle.line_forms.specs.declared.Content.TheVariants.{Amount as amount, Index as index, Mark as mark, NoForm}
use Rattle.line_forms.specs.declared.Line.{Line}
use Rattle.line_forms.specs.declared.Line.TheVariants.{Loan as LoanLine, Policy as PolicyLine, Derivative as DerivativeLine, Asset as AssetLine}
use Rattle.line_forms.specs.declared.Line.TheVariants.{Amount as AmountLine, Index as IndexLine, Mark as MarkRead, Refusal}
use Rattle.line_forms.specs.Claims.{line_refusal, line_content}
use Rattle.line_forms.specs.Readings.{line_of}
use Rattle.line_forms.proofs.LineLaws.{line_numbers}
use Rattle.figures.specs.declared.Counts.{Counts}
use Rattle.book_model.specs.Accepted.{Note, Accepted, counts_in, loan_beyond_lem, most_other, refusal_for, names_of, kept_by, refusal_of, no_note, place_of_note}
use Rattle.book_model.specs.Accepted.{taken_up, noted, added, with_mark, accept}
use Rattle.book_model.specs.History.{History, opened, fed, terms_of, accepted_of, lines_taken}
use Rattle.book_model.specs.HouseIndex.{Index, adjustment_of, lacking, set_by, values_in}
use Rattle.book_model.specs.LineKinds.{LineKind, a_loan, an_index, a_mark as mark-kind, another, refused, of_mark, content_kind, kind_of, sum_by}
use Rattle.book_model.specs.Marks.{most_marks, place_among, is_among, Kept, mark_refusal}
use Rattle.book_model.specs.Ranges.{IndexRanges, MarkRanges, Ranged}
use Rattle.book_model.specs.Terms.{Terms, Basis, basis_of}
use Rattle.book_model.proofs.Adjustments.{Has, Settled, InHundredths, Extends, extended}
use Rattle.book_model.proofs.Cells.{Held, a_loan as held-loan, no_loan, held}
use Rattle.book_model.proofs.IndexTables.{HeldIndex, an_index as holds-index, no_index, held-index, same-both}
use Rattle.book_model.proofs.LineSums.{sum_more}
use Rattle.book_model.proofs.MarkRows.{HeldMark, a_mark, no_mark, held-mark}
use Rattle.book_model.proofs.Ranged.{ranged}

-- A line that meets no refusal has the values that it wants, and sets none a second time.

-- Shown with both tests known, so that the order of the numbers does not matter here.
pub taken-loan : (g : Basis) (c : Counts) (k : Kept) (l : Loan) → refusal_for g c k (a_loan l) ≡ 0 →
    (loan_beyond_lem g.terms.header c l.score ≡ false) × (lacking (adjustment_of g.index l) ≡ false)
unfolding refusal_for
taken-loan g c k l e = go (loan_beyond_lem g.terms.header c l.score) refl (lacking (adjustment_of g.index l)) refl
  where
    go : (x : Bool) → loan_beyond_lem g.terms.header c l.score ≡ x → (y : Bool) → lacking (adjustment_of g.index l) ≡ y → (x ≡ false) × (y ≡ false)
    go true p true q = absurd (omega (arith, simp (p, q) at e))
    go true p false q = absurd (omega (arith, simp (p, q) at e))
    go false p true q = absurd (omega (arith, simp (p, q) at e))
    go false p false q = (refl, refl)

pub taken-index : (g : Basis) (c : Counts) (k : Kept) (i : IndexValue) → refusal_for g c k (an_index i) ≡ 0 →
    (leb most_other c.other ≡ false) × (g.index i.area i.month ≡ 0)
unfolding refusal_for
taken-index g c k i e = go (leb most_other c.other) refl (eqb (g.index i.area i.month) 0) refl
  where
    go : (x : Bool) → leb most_other c.other ≡ x → (y : Bool) → eqb (g.index i.area i.month) 0 ≡ y →
        (x ≡ false) × (g.index i.area i.month ≡ 0)
    go true p true q = absurd (omega (arith, simp (p, q) at e))
    go true p false q = absurd (omega (arith, simp (p, q) at e))
    go false p true q = (refl, eqb-true (g.index i.area i.month) 0 q)
    go false p false q = absurd (omega (arith, simp (p, q) at e))

pub taken-has : (g : Basis) (c : Counts) (k : Kept) (n : ℕ) (d : Content) → refusal_for g c k (content_kind n d) ≡ 0 → Has g.index d
unfolding content_kind
taken-has g c k n (header h) e = refl
taken-has g c k n (loan l) e = (taken-loan g c k l e).1
taken-has g c k n (policy p) e = refl
taken-has g c k n (derivative d) e = refl
taken-has g c k n (asset a) e = refl
taken-has g c k n (amount a) e = refl
taken-has g c k n (index i) e = refl
taken-has g c k n (mark m) e = refl
taken-has g c k n NoForm e = refl

pub taken-unset : (g : Basis) (c : Counts) (k : Kept) (n : ℕ) {d : Content} → refusal_for g c k (content_kind n d) ≡ 0 → (i : IndexValue) → d ≡ index i →
    g.index i.area i.month ≡ 0
unfolding content_kind
taken-unset g c k n e i f = (taken-index g c k i (subst (λ (d : Content). refusal_for g c k (content_kind n d) ≡ 0) f e)).1

-- The values that lines set

pub values-more : (kept : List (List ℕ)) (s : List ℕ) (area month : ℕ) →
    values_in (kept ++ (s ∷ [])) area month ≡ values_in kept area month + set_by area month (line_content (line_of s))
unfolding values_in
values-more kept s area month = sum_more (set_by area month) kept s

-- a line that sets something for an area and month is an index line of them
pub sets : (c : Content) (area month : ℕ) → 1 ≤ set_by area month c → (i : IndexValue) × (c ≡ index i) × (i.area ≡ area) × (i.month ≡ month)
sets c area month h = go (held-index c) h
  where
    go : {c : Content} → HeldIndex c → 1 ≤ set_by area month c → (i : IndexValue) × (c ≡ index i) × (i.area ≡ area) × (i.month ≡ month)
    go (holds-index i) h = test (eqb i.area area && eqb i.month month) refl h
      where
        test : (t : Bool) → (eqb i.area area && eqb i.month month) ≡ t → 1 ≤ pick t i.value 0 →
            (v : IndexValue) × (index i ≡ index v) × (v.area ≡ area) × (v.month ≡ month)
        test true e h = let (x, y) = same-both i area month e in (i, refl, x, y)
        test false e h = absurd (omega arith)
    go (no_index n) h = absurd (omega (arith, h, n ℕ (λ i. pick (eqb i.area area && eqb i.month month) i.value 0) 0))

-- What a value was set by, and that a line among them sets it
pub set_line : (kept : List (List ℕ)) (area month : ℕ) → 1 ≤ values_in kept area month →
    (s : List ℕ) × Memᴰ s kept × ((i : IndexValue) × (line_content (line_of s) ≡ index i) × (i.area ≡ area) × (i.month ≡ month))
unfolding values_in sum_by
set_line [] area month h = absurd (omega arith)
set_line (s ∷ kept) area month h = go (set_by area month (line_content (line_of s))) refl h (set_line kept area month)
  where
    go : (n : ℕ) → set_by area month (line_content (line_of s)) ≡ n → 1 ≤ n + sum_by (set_by area month) kept →
        (1 ≤ sum_by (set_by area month) kept →
        (r : List ℕ) × Memᴰ r kept × ((i : IndexValue) × (line_content (line_of r) ≡ index i) × (i.area ≡ area) × (i.month ≡ month))) →
        (r : List ℕ) × Memᴰ r (s ∷ kept) × ((i : IndexValue) × (line_content (line_of r) ≡ index i) × (i.area ≡ area) × (i.month ≡ month))
    go zero e h rest = let (r, m, k) = rest (omega arith) in (r, Memᴰ.tail m, k)
    go (suc n) e h rest = (s, Memᴰ.head refl, sets (line_content (line_of s)) area month (omega (arith, e)))

pub own_value : (i : IndexValue) → set_by i.area i.month (index i) ≡ i.value
own_value i = rw (eq-eqb i.area i.area refl, eq-eqb i.month i.month refl) refl

pub line_sets : (kept : List (List ℕ)) (s : List ℕ) (i : IndexValue) → Memᴰ s kept → line_content (line_of s) ≡ index i →
    i.value ≤ values_in kept i.area i.month
unfolding values_in sum_by
line_sets [] s i x'' f = elim x'' [ ]
line_sets (r ∷ kept) s i (Memᴰ.head e) f =
    omega (arith, ap (set_by i.area i.month) (ap (λ (x : List ℕ). line_content (line_of x)) (sym e) ∙ f) ∙ own_value i)
line_sets (r ∷ kept) s i (Memᴰ.tail m) f = omega (arith, line_sets kept s i m f)

-- what is added: a loan, an index value, or another line that counts
abbrev pub Plain : LineKind → Type 0
Plain (a_loan l) = Unit {0}
Plain (an_index i) = Unit {0}
Plain (mark-kind m) = ⊥
Plain another = Unit {0}
Plain (refused n) = ⊥

pub taken-plain : (g : Basis) (c : Counts) (k : Kept) (s : List ℕ) → refusal_for g c k (kind_of (line_of s)) ≡ 0 →
    ((A : Type 0) (f : MarkLine → A) (x : A) → of_mark f x (line_content (line_of s)) ≡ x) → Plain (kind_of (line_of s))
unfolding refusal_for content_kind
taken-plain g c k s e n = go (line_of s) refl e n
  where
    go : (l : Line) → line_of s ≡ l → refusal_for g c k (kind_of l) ≡ 0 → ((A : Type 0) (f : MarkLine → A) (x : A) → of_mark f x (line_content l) ≡ x) →
        Plain (kind_of l)
    go (LoanLine l) f e n = tt
    go (PolicyLine p) f e n = tt
    go (DerivativeLine d) f e n = tt
    go (AssetLine a) f e n = tt
    go (AmountLine a) f e n = tt
    go (IndexLine i) f e n = tt
    go (MarkRead m) f e n = absurd (true≢false (n Bool (λ x. true) false))
    go (Refusal r) f e n =
        ⊎_elim (λ x. omega (arith, e, x)) (⊎_elim (λ x. omega (arith, e, x)) (⊎_elim (λ x. omega (arith, e, x)) (λ x. omega (arith, e, x))))
        (line_numbers s r f)

-- Lines of which no two set the same value, and whose loans have their values
pub record Good (kept : List (List ℕ)) : Type 0 where
  pub plain : (s : List ℕ) → Memᴰ s kept → Plain (kind_of (line_of s))
  pub settled : Settled (values_in kept) kept
  pub once : (s : List ℕ) (i : IndexValue) → Memᴰ s kept → line_content (line_of s) ≡ index i → values_in kept i.area i.month ≡ i.value

-- a value of the index is that of a line, and so in its range
pub in-hundredths : (kept : List (List ℕ)) → Good kept → InHundredths (values_in kept)
in-hundredths kept h area month = go (values_in kept area month) refl
  where
    go : (n : ℕ) → values_in kept area month ≡ n → n ≤ 1000000
    go zero e = omega arith
    go (suc n) e =
        let (s, m, (i, c, x, y)) = set_line kept area month (omega (arith, e)) in
        let r : IndexRanges i = subst Ranged c (ranged s) in
        let v : values_in kept area month ≡ i.value = ap₂ (values_in kept) (sym x) (sym y) ∙ h.once s i m c in
        omega (arith, e, v, r.value_most)

-- One line more

member-more : (kept : List (List ℕ)) (s r : List ℕ) → Memᴰ r (kept ++ (s ∷ [])) → Memᴰ r kept ⊎ (r ≡ s)
member-more [] s r (Memᴰ.head e) = inr e
member-more [] s r (Memᴰ.tail m) = absurd (Memᴰ.not-nil m)
member-more (x ∷ kept) s r (Memᴰ.head e) = inl (Memᴰ.head e)
member-more (x ∷ kept) s r (Memᴰ.tail m) = ⊎_elim (λ k. inl (Memᴰ.tail k)) inr (member-more kept s r m)

still-has : (values others : Index) → Extends values others → (c : Content) → Has values c → Has others c
still-has values others x c h = go (held c) h
  where
    go : {c : Content} → Held c → Has values c → Has others c
    go (held-loan l) h = ap lacking (sym (extended x l h)) ∙ h
    go (no_loan n) h = n Bool (λ l. lacking (adjustment_of others l)) false

still-settled : (values others : Index) → Extends values others → (kept : List (List ℕ)) → Settled values kept → Settled others kept
unfolding Settled
still-settled values others x [] h = tt
still-settled values others x (s ∷ kept) h = (still-has values others x (line_content (line_of s)) h.0, still-settled values others x kept h.1)

settled-more : (values : Index) (kept : List (List ℕ)) (s : List ℕ) → Settled values kept → Has values (line_content (line_of s)) →
    Settled values (kept ++ (s ∷ []))
unfolding Settled
settled-more values [] s h k = (k, tt)
settled-more values (r ∷ kept) s h k = (h.0, settled-more values kept s h.1 k)

module _ (t : Terms) (a : Accepted) (s : List ℕ) (e : refusal_of t a s ≡ 0) where
  abbrev before : Index
  before = values_in a.kept

  abbrev after : Index
  after = values_in (a.kept ++ (s ∷ []))

  -- a value that the line sets was not set
  pub was-unset : (i : IndexValue) → line_content (line_of s) ≡ index i → before i.area i.month ≡ 0
  was-unset i c = taken-unset (basis_of t a.kept) (counts_in a.kept) (kept_by a.notes) (line_refusal (line_of s)) e i c

  -- a value once set stays
  pub values-stay : Extends before after
  values-stay area month h = values-more a.kept s area month ∙ go (set_by area month (line_content (line_of s))) refl
    where
      go : (n : ℕ) → set_by area month (line_content (line_of s)) ≡ n → before area month + n ≡ before area month
      go zero f = omega arith
      go (suc n) f =
          let (i, c, x, y) = sets (line_content (line_of s)) area month (omega (arith, f)) in
          absurd (omega (arith, h, ap₂ before (sym x) (sym y) ∙ was-unset i c))

  -- the line itself has the values that it wants
  pub line-has : Has before (line_content (line_of s))
  line-has = taken-has (basis_of t a.kept) (counts_in a.kept) (kept_by a.notes) (line_refusal (line_of s)) (line_content (line_of s)) e

  pub taken-good : ((A : Type 0) (f : MarkLine → A) (x : A) → of_mark f x (line_content (line_of s)) ≡ x) → Good a.kept → Good (a.kept ++ (s ∷ []))
  taken-good n h =
      let x : Extends before after = values-stay in
      record {
        plain = λ r m. ⊎_elim (h.plain r) (λ f. subst (λ (y : List ℕ). Plain (kind_of (line_of y))) (sym f)
            (taken-plain (basis_of t a.kept) (counts_in a.kept) (kept_by a.notes) s e n)) (member-more a.kept s r m);
        settled = settled-more after a.kept s (still-settled before after x a.kept h.settled)
            (still-has before after x (line_content (line_of s)) line-has);
        once = λ r i m c. ⊎_elim (among r i c) (itself r i c) (member-more a.kept s r m);
      }
    where
      among : (r : List ℕ) (i : IndexValue) → line_content (line_of r) ≡ index i → Memᴰ r a.kept → after i.area i.month ≡ i.value
      among r i c m =
          let v = h.once r i m c in
          let k : IndexRanges i = subst Ranged c (ranged r) in
          values-stay i.area i.month (omega (arith, v, k.value_least)) ∙ v

      itself : (r : List ℕ) (i : IndexValue) → line_content (line_of r) ≡ index i → r ≡ s → after i.area i.month ≡ i.value
      itself r i c f =
          let d : line_content (line_of s) ≡ index i = ap (λ (x : List ℕ). line_content (line_of x)) (sym f) ∙ c in
          omega (
            arith,
            values-more a.kept s i.area i.month,
            was-unset i d,
            ap (set_by i.area i.month) d ∙ own_value i,
          )

-- a list noted under a name
pub record GoodNote (n : Note) : Type 0 where
  pub list : Good n.list
  pub name : 1 ≤ n.name

unfoldable pub GoodNotes : List Note → Type 0
GoodNotes [] = Unit {0}
GoodNotes (n ∷ notes) = GoodNote n × GoodNotes notes

notes-more : (notes : List Note) (n : Note) → GoodNotes notes → GoodNote n → GoodNotes (notes ++ (n ∷ []))
unfolding GoodNotes
notes-more [] n h k = (k, tt)
notes-more (m ∷ notes) n h k = (h.0, notes-more notes n h.1 k)

notes-first : (k : ℕ) (notes : List Note) → GoodNotes notes → GoodNotes (take k notes)
unfolding GoodNotes
notes-first zero notes h = tt
notes-first (suc k) [] h = tt
notes-first (suc k) (n ∷ notes) h = (h.0, notes-first k notes h.1)

pub note-at : (k : ℕ) (notes : List Note) → GoodNotes notes → k < length notes → GoodNote (get_or notes k no_note)
unfolding GoodNotes
note-at k [] h l = absurd (omega (arith, l))
note-at zero (n ∷ notes) h l = h.0
note-at (suc k) (n ∷ notes) h l = note-at k notes h.1 (omega (arith, l))

-- What the ledger keeps to: its list and those noted, whose names differ.
pub record GoodLedger (a : Accepted) : Type 0 where
  pub kept : Good a.kept
  pub notes : GoodNotes a.notes
  pub most : length a.notes ≤ 8
  pub distinct : (i j : ℕ) → i < j → j < length a.notes → (get_or a.notes i no_note).name ≡ (get_or a.notes j no_note).name → ⊥

-- A mark that is taken is of a name not kept, and no ninth; a return is to one that is kept. Shown with all tests known, so that the order of
-- the numbers does not matter here.
pub taken-mark : (k : Kept) (m : MarkLine) → mark_refusal k m ≡ 0 →
    ((m.back ≡ true) × (k.named m.name ≡ true)) ⊎ ((m.back ≡ false) × (k.named m.name ≡ false) × (leb most_marks k.count ≡ false))
taken-mark k m e = go m.back refl (k.named m.name) refl (leb most_marks k.count) refl
  where
    go : (x : Bool) → m.back ≡ x → (y : Bool) → k.named m.name ≡ y → (z : Bool) → leb most_marks k.count ≡ z →
        ((x ≡ true) × (y ≡ true)) ⊎ ((x ≡ false) × (y ≡ false) × (z ≡ false))
    go true p true q z r = inl (refl, refl)
    go true p false q z r = absurd (omega (arith, simp (p, q) at e))
    go false p true q true r = absurd (omega (arith, simp (p, q, r) at e))
    go false p true q false r = absurd (omega (arith, simp (p, q, r) at e))
    go false p false q true r = absurd (omega (arith, simp (p, q, r) at e))
    go false p false q false r = inr (refl, refl, refl)

-- names by their places
pub name-at : (notes : List Note) (k : ℕ) → get_or (names_of notes) k 0 ≡ (get_or notes k no_note).name
name-at notes k = get_or-map (λ n. n.name) notes k no_note

pub names-length : (notes : List Note) → length (names_of notes) ≡ length notes
names-length notes = length-map notes (λ n. n.name)

-- one that is not among them is that of none
pub not_named : (n : ℕ) (names : List ℕ) → is_among n names ≡ false → (i : ℕ) → i < length names → get_or names i 0 ≡ n → ⊥
unfolding place_among
not_named n [] e i h f = omega arith
not_named n (x ∷ names) e i h f = go (eqb x n) refl i h f e (not_named n names)
  where
    go : (t : Bool) → eqb x n ≡ t → (i : ℕ) → i < suc (length names) → get_or (x ∷ names) i 0 ≡ n →
        ltb (pick t 0 (suc (place_among n names))) (suc (length names)) ≡ false →
        (is_among n names ≡ false → (i : ℕ) → i < length names → get_or names i 0 ≡ n → ⊥) → ⊥
    go true p i h f e r = omega (arith, ltb-false 0 (suc (length names)) e)
    go false p zero h f e r = eqb-false x n p f
    go false p (suc i) h f e r =
        r (le-ltb (place_among n names) (length names) (omega (arith, ltb-false (suc (place_among n names)) (suc (length names)) e))) i (omega arith) f

-- one that is stands at its place
pub named-at : (n : ℕ) (names : List ℕ) → place_among n names < length names → get_or names (place_among n names) 0 ≡ n
unfolding place_among
named-at n [] h = absurd (omega arith)
named-at n (x ∷ names) h = go (eqb x n) refl h (named-at n names)
  where
    go : (t : Bool) → eqb x n ≡ t → pick t 0 (suc (place_among n names)) < suc (length names) →
        (place_among n names < length names → get_or names (place_among n names) 0 ≡ n) → get_or (x ∷ names) (pick t 0 (suc (place_among n names))) 0 ≡ n
    go true e h r = eqb-true x n e
    go false e h r = r (omega arith)

-- What the ledger does with a line that meets no refusal, and with one that does

module _ (t : Terms) (a : Accepted) (s : List ℕ) where
  pub accepts : refusal_of t a s ≡ 0 → accept t a s ≡ of_mark (with_mark a) (added a s) (line_content (line_of s))
  unfolding accept
  accepts e = rw (eq-eqb (refusal_of t a s) 0 e) refl

  pub leaves : (refusal_of t a s ≡ 0 → ⊥) → accept t a s ≡ a
  unfolding accept
  leaves n = rw (ne_eqb (refusal_of t a s) 0 n) refl

-- a return takes up the list noted at its name's place, and keeps the notes up to that one
pub taken-up-list : (a : Accepted) (name : ℕ) → (taken_up a name).kept ≡ (get_or a.notes (place_of_note a name) no_note).list
taken-up-list a name = refl

pub taken-up-notes : (a : Accepted) (name : ℕ) → (taken_up a name).notes ≡ take (suc (place_of_note a name)) a.notes
taken-up-notes a name = refl

pub taken-up-is : (a : Accepted) (name : ℕ) →
    taken_up a name ≡ record { kept = (get_or a.notes (place_of_note a name) no_note).list; notes = take (suc (place_of_note a name)) a.notes }
taken-up-is a name = λ i. record { kept = taken-up-list a name i; notes = taken-up-notes a name i }

-- the ledger after each kind of line
added-good : (t : Terms) (a : Accepted) (s : List ℕ) → refusal_of t a s ≡ 0 →
    ((A : Type 0) (f : MarkLine → A) (x : A) → of_mark f x (line_content (line_of s)) ≡ x) → GoodLedger a → GoodLedger (added a s)
added-good t a s e n h = record { kept = taken-good t a s e n h.kept; notes = h.notes; most = h.most; distinct = h.distinct }

module _ (a : Accepted) (h : GoodLedger a) where
  noted-good : (name : ℕ) → 1 ≤ name → is_among name (names_of a.notes) ≡ false → length a.notes < 8 → GoodLedger (noted a name)
  noted-good name l e k = record {
    kept = h.kept;
    notes = notes-more a.notes new h.notes (record { list = h.kept; name = l });
    most = omega (arith, size, k);
    distinct = apart;
  }
    where
      new : Note
      new = record { name = name; list = a.kept }

      size : length (a.notes ++ (new ∷ [])) ≡ length a.notes + 1
      size = length-append a.notes (new ∷ [])

      apart : (i j : ℕ) → i < j → j < length (a.notes ++ (new ∷ [])) →
          (get_or (a.notes ++ (new ∷ [])) i no_note).name ≡ (get_or (a.notes ++ (new ∷ [])) j no_note).name → ⊥
      apart i j p q f = go (ltb j (length a.notes)) refl
        where
          first : get_or (a.notes ++ (new ∷ [])) i no_note ≡ get_or a.notes i no_note
          first = get_or-append a.notes (new ∷ []) no_note i (omega (arith, p, q, size))

          go : (t : Bool) → ltb j (length a.notes) ≡ t → ⊥
          go true g =
              let r : j < length a.notes = ltb-true j (length a.notes) g in
              h.distinct i j p r
              (sym (ap (λ (n : Note). n.name) first) ∙ f ∙ ap (λ (n : Note). n.name) (get_or-append a.notes (new ∷ []) no_note j r))
          go false g =
              let r : j ≡ length a.notes = omega (arith, q, size, ltb-false j (length a.notes) g) in
              let last : (get_or (a.notes ++ (new ∷ [])) j no_note).name ≡ name =
              ap (λ (n : Note). n.name) (get_or_at a.notes new [] no_note j (sym r)) in
              not_named name (names_of a.notes) e i (omega (arith, p, r, names-length a.notes))
              (name-at a.notes i ∙ sym (ap (λ (n : Note). n.name) first) ∙ f ∙ last)

  -- a noted list, and the first of the notes
  first_good : (kept : List (List ℕ)) (k : ℕ) → Good kept → GoodLedger (record { kept = kept; notes = take k a.notes })
  first_good kept k g = record {
    kept = g;
    notes = notes-first k a.notes h.notes;
    most = omega (arith, few, h.most);
    distinct = λ i j x y f. h.distinct i j x (omega (arith, y, few))
        (sym (ap (λ (n : Note). n.name) (at i (omega (arith, x, y)))) ∙ f ∙ ap (λ (n : Note). n.name) (at j y));
  }
    where
      few : length (take k a.notes) ≤ length a.notes
      few = omega (arith, length-take k a.notes)

      at : (i : ℕ) → i < length (take k a.notes) → get_or (take k a.notes) i no_note ≡ get_or a.notes i no_note
      at i l = get_or-take k a.notes i no_note (omega (arith, l, length-take k a.notes))

  taken-up-good : (name : ℕ) → is_among name (names_of a.notes) ≡ true → GoodLedger (taken_up a name)
  taken-up-good name e =
      let p : place_of_note a name < length a.notes =
      rw (names-length a.notes) at (ltb-true (place_of_note a name) (length (names_of a.notes)) e) in
      subst GoodLedger (sym (taken-up-is a name))
      (first_good (get_or a.notes (place_of_note a name) no_note).list (suc (place_of_note a name)) (note-at (place_of_note a name) a.notes h.notes p).list)

  with-mark-good : (m : MarkLine) → 1 ≤ m.name → mark_refusal (kept_by a.notes) m ≡ 0 → GoodLedger (with_mark a m)
  with-mark-good m l e = ⊎_elim
      (λ (b, n). rw b (taken-up-good m.name n))
      (λ (b, n, f). rw b (noted-good m.name l n (leb-false most_marks (length a.notes) f)))
      (taken-mark (kept_by a.notes) m e)

-- The ledger that a line leaves, taken or not
pub accept-good : (t : Terms) (a : Accepted) (s : List ℕ) → GoodLedger a → GoodLedger (accept t a s)
unfolding refusal_for content_kind
accept-good t a s h = go (eqb (refusal_of t a s) 0) refl
  where
    of_either : {c : Content} → HeldMark c → line_content (line_of s) ≡ c → refusal_of t a s ≡ 0 → GoodLedger (of_mark (with_mark a) (added a s) c)
    of_either (a_mark m) f e =
        let r : MarkRanges m = subst Ranged f (ranged s) in
        with-mark-good a h m r.name_least
        (subst (λ (c : Content). refusal_for (basis_of t a.kept) (counts_in a.kept) (kept_by a.notes) (content_kind (line_refusal (line_of s)) c) ≡ 0) f e)
    of_either {c} (no_mark k) f e = rw (k Accepted (with_mark a) (added a s))
        (added-good t a s e (λ A g x. ap (of_mark g x) f ∙ k A g x) h)

    go : (test : Bool) → eqb (refusal_of t a s) 0 ≡ test → GoodLedger (accept t a s)
    go true e =
        let z = eqb-true (refusal_of t a s) 0 e in
        subst GoodLedger (sym (accepts t a s z)) (of_either (held-mark (line_content (line_of s))) refl z)
    go false e = subst GoodLedger (sym (leaves t a s (eqb-false (refusal_of t a s) 0 e))) h

pub none-good : Good []
unfolding Settled
none-good = record { plain = λ s m. absurd (Memᴰ.not-nil m); settled = tt; once = λ s i m c. absurd (Memᴰ.not-nil m) }

-- Every history's ledger is such.
pub ledger-of : (past : History) → GoodLedger (accepted_of past)
unfolding accepted_of GoodNotes
ledger-of (opened sheet first) = record { kept = none-good; notes = tt; most = omega arith; distinct = λ i j x y f. omega (arith, y) }
ledger-of (fed past line) = accept-good (terms_of past) (accepted_of past) line (ledger-of past)

pub good_of : (past : History) → Good (lines_taken past)
good_of past = (ledger-of past).kept
