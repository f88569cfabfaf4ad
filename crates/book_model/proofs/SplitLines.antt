-- Index lines and the others of a list of lines: what either adds to sums. Assumes nothing.
use mathlib.Core.Path.{◌≡◌, refl, sym, ◌∙◌, ap, ap₂}
use mathlib.Core.Bool.{Bool, true, false, false≢true, true≢false}
use mathlib.Core.List.Memᴰ
use mathlib.Core.List.{List, [], ◌∷◌, ◌++◌, map, map-append, Memᴰ, Permᴰ}
use Prim.Native.Nat.{ℕ, ◌+◌}
use native.Mathlib.Omega.{arith}
use Rattle.exact.specs.Choice.{pick}
use Rattle.line_forms.specs.declared.IndexValue.{IndexValue}
use Rattle.line_forms.specs.declared.Loan.{Loan}
use Rattle.line_forms.specs.declared.Content.{Content}
use Rattle.line_forms.specs.declared.Content.TheVariants.{Index as index}
use Rattle.line_forms.specs.Claims.{line_content}
use Rattle.line_forms.specs.Readings.{line_of}
use Rattle.figures.specs.Sums.{no_sums, plus, sum_of}
use Rattle.figures.proofs.SumsLaws.{sum-append as sums-appended, sum-permuted as sums-permuted, none-plus}
use Rattle.book_model.specs.Cells.{loan_or}
use Rattle.book_model.specs.History.{sums_by}
use Rattle.book_model.specs.HouseIndex.{of_index}
use Rattle.book_model.specs.Joining.{is_index_line, index_lines, other_lines}
use Rattle.book_model.specs.LineKinds.{sum_by}
use Rattle.book_model.specs.Share.{share}
use Rattle.book_model.specs.Terms.{Basis}
use Rattle.book_model.proofs.Demand3.{permuted-map}
use Rattle.book_model.proofs.IndexTables.{HeldIndex, an_index, no_index, held-index}

-- A line is an index line, or what is asked of an index value is what stands for none.
pub data Which (s : List ℕ) : Bool → Type 1 where
  index_line_law : (i : IndexValue) → line_content (line_of s) ≡ index i → Which s true
  other_line : ((A : Type 0) (f : IndexValue → A) (x : A) → of_index f x (line_content (line_of s)) ≡ x) → Which s false

pub which : (s : List ℕ) → Which s (is_index_line s)
which s = go (held-index (line_content (line_of s))) refl
  where
    go : {c : Content} → HeldIndex c → line_content (line_of s) ≡ c → Which s (of_index (λ i. true) false c)
    go (an_index i) e = index_line_law i e
    go (no_index n) e = rw (n Bool (λ i. true) false) (other_line (λ A f x. ap (of_index f x) e ∙ n A f x))

-- Sums of a number over lines

pub sum-append : (f : Content → ℕ) (xs ys : List (List ℕ)) → sum_by f (xs ++ ys) ≡ sum_by f xs + sum_by f ys
unfolding sum_by
sum-append f [] ys = omega arith
sum-append f (x ∷ xs) ys = omega (arith, sum-append f xs ys)

-- both parts together
pub sum-split : (f : Content → ℕ) (kept : List (List ℕ)) → sum_by f (index_lines kept) + sum_by f (other_lines kept) ≡ sum_by f kept
unfolding sum_by index_lines other_lines
sum-split f [] = omega arith
sum-split f (s ∷ kept) = go (is_index_line s) (sum-split f kept)
  where
    go : (t : Bool) → sum_by f (index_lines kept) + sum_by f (other_lines kept) ≡ sum_by f kept →
        sum_by f (pick t (s ∷ index_lines kept) (index_lines kept)) + sum_by f (pick t (other_lines kept) (s ∷ other_lines kept)) ≡
        f (line_content (line_of s)) + sum_by f kept
    go true e = omega (arith, e)
    go false e = omega (arith, e)

-- something of index values alone: the other lines add nothing
pub others-nothing : (f : IndexValue → ℕ) (kept : List (List ℕ)) → sum_by (of_index f 0) (other_lines kept) ≡ 0
unfolding sum_by other_lines
others-nothing f [] = refl
others-nothing f (s ∷ kept) = go (which s) (others-nothing f kept)
  where
    go : {t : Bool} → Which s t → sum_by (of_index f 0) (other_lines kept) ≡ 0 → sum_by (of_index f 0) (pick t (other_lines kept) (s ∷ other_lines kept)) ≡ 0
    go (index_line_law i e) r = r
    go (other_line n) r = omega (arith, n ℕ f 0, r)

-- something of loans alone: the index lines add nothing
pub index-nothing : (f : Loan → ℕ) (kept : List (List ℕ)) → sum_by (loan_or f 0) (index_lines kept) ≡ 0
unfolding sum_by index_lines
index-nothing f [] = refl
index-nothing f (s ∷ kept) = go (which s) (index-nothing f kept)
  where
    go : {t : Bool} → Which s t → sum_by (loan_or f 0) (index_lines kept) ≡ 0 → sum_by (loan_or f 0) (pick t (s ∷ index_lines kept) (index_lines kept)) ≡ 0
    go (index_line_law i e) r = omega (arith, ap (loan_or f 0) e, r)
    go (other_line n) r = r

-- Sums of books

pub sums-both : (g : Basis) (xs ys : List (List ℕ)) → sums_by g (xs ++ ys) ≡ plus (sums_by g xs) (sums_by g ys)
unfolding sums_by
sums-both g xs ys =
    ap sum_of (map-append (λ s. share g (line_content (line_of s))) xs ys)
    ∙ sums-appended (map (λ s. share g (line_content (line_of s))) xs) (map (λ s. share g (line_content (line_of s))) ys)

pub sums-reordered : (g : Basis) {xs ys : List (List ℕ)} → Permᴰ xs ys → sums_by g xs ≡ sums_by g ys
unfolding sums_by
sums-reordered g p = sums-permuted (permuted-map (λ s. share g (line_content (line_of s))) p)

-- an index line adds nothing
pub sums-index : (g : Basis) (kept : List (List ℕ)) → sums_by g (index_lines kept) ≡ no_sums
unfolding sums_by sum_of index_lines share
sums-index g [] = refl
sums-index g (s ∷ kept) = go (which s) (sums-index g kept)
  where
    go : {t : Bool} → Which s t → sums_by g (index_lines kept) ≡ no_sums → sums_by g (pick t (s ∷ index_lines kept) (index_lines kept)) ≡ no_sums
    go (index_line_law i e) r = ap₂ plus (ap (share g) e) r
    go (other_line n) r = r

pub sums-others : (g : Basis) (kept : List (List ℕ)) → sums_by g (other_lines kept) ≡ sums_by g kept
unfolding sums_by sum_of other_lines share
sums-others g [] = refl
sums-others g (s ∷ kept) = go (which s) (sums-others g kept)
  where
    go : {t : Bool} → Which s t → sums_by g (other_lines kept) ≡ sums_by g kept →
        sums_by g (pick t (other_lines kept) (s ∷ other_lines kept)) ≡ plus (share g (line_content (line_of s))) (sums_by g kept)
    go (index_line_law i e) r = r ∙ sym (ap (λ (c : Content). plus (share g c) (sums_by g kept)) e ∙ none-plus (sums_by g kept))
    go (other_line n) r = ap (plus (share g (line_content (line_of s)))) r

-- Members

abbrev IsIndex : List ℕ → Type 0
IsIndex s = (i : IndexValue) × (line_content (line_of s) ≡ index i)

abbrev NoIndex : List ℕ → Type 0
NoIndex s = (i : IndexValue) → line_content (line_of s) ≡ index i → ⊥

pub among-index : (kept : List (List ℕ)) (s : List ℕ) → Memᴰ s (index_lines kept) → Memᴰ s kept × ((i : IndexValue) × (line_content (line_of s) ≡ index i))
unfolding index_lines
among-index [] s m = absurd (Memᴰ.not-nil m)
among-index (r ∷ kept) s m = go (which r) m (among-index kept s)
  where
    go : {t : Bool} → Which r t → Memᴰ s (pick t (r ∷ index_lines kept) (index_lines kept)) →
        (Memᴰ s (index_lines kept) → Memᴰ s kept × IsIndex s) → Memᴰ s (r ∷ kept) × IsIndex s
    go (index_line_law i e) (Memᴰ.head f) rest = (Memᴰ.head f, (i, ap (λ (x : List ℕ). line_content (line_of x)) f ∙ e))
    go (index_line_law i e) (Memᴰ.tail m) rest = let (k, x) = rest m in (Memᴰ.tail k, x)
    go (other_line n) m rest = let (k, x) = rest m in (Memᴰ.tail k, x)

-- a list of index lines has no others
pub no-others : (lines : List (List ℕ)) → ((s : List ℕ) → Memᴰ s lines → IsIndex s) → other_lines lines ≡ []
unfolding other_lines
no-others [] h = refl
no-others (s ∷ lines) h = go (which s) (no-others lines (λ r m. h r (Memᴰ.tail m)))
  where
    go : {t : Bool} → Which s t → other_lines lines ≡ [] → pick t (other_lines lines) (s ∷ other_lines lines) ≡ []
    go (index_line_law i e) r = r
    go (other_line n) r =
        let (i, e) = h s (Memᴰ.head refl) in
        absurd (false≢true (sym (n Bool (λ i. true) false) ∙ ap (of_index (λ i. true) false) e))

pub among-others : (kept : List (List ℕ)) (s : List ℕ) → Memᴰ s (other_lines kept) → Memᴰ s kept × ((i : IndexValue) → line_content (line_of s) ≡ index i → ⊥)
unfolding other_lines
among-others [] s m = absurd (Memᴰ.not-nil m)
among-others (r ∷ kept) s m = go (which r) m (among-others kept s)
  where
    go : {t : Bool} → Which r t → Memᴰ s (pick t (other_lines kept) (r ∷ other_lines kept)) →
        (Memᴰ s (other_lines kept) → Memᴰ s kept × NoIndex s) → Memᴰ s (r ∷ kept) × NoIndex s
    go (index_line_law i e) m rest = let (k, x) = rest m in (Memᴰ.tail k, x)
    go (other_line n) (Memᴰ.head f) rest = (
      Memᴰ.head f,
      λ i c. true≢false (sym (ap (of_index (λ x. true) false) (sym (ap (λ (x : List ℕ). line_content (line_of x)) f) ∙ c)) ∙ n Bool (λ x. true) false),
    )
    go (other_line n) (Memᴰ.tail m) rest = let (k, x) = rest m in (Memᴰ.tail k, x)
