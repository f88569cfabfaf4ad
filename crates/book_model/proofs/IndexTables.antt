-- The table of index values that feeding keeps is that of the lines taken: each place is a sum over the lines. Assumes nothing.
use mathlib.Core.Path.{◌≡◌, refl, sym, ◌∙◌, ap}
use mathlib.Core.Bool.{Bool, true, false, ◌&&◌, true≢false, false≢true}
use mathlib.Core.List.{List, [], ◌∷◌, ◌++◌}
use Prim.Native.Nat.{ℕ, zero, suc, ◌+◌, ◌≤◌, ◌<◌}
use native.Mathlib.Omega.{arith}
use lib.Dec.{eqb}
use lib.ListN.{length, get_or, set, length-set, replicate}
use lib.Seq.{ext_get_or, get_or-set_same, get_or-set_other}
use borrow.Author.Tests.{eqb-true, eqb-false, eq-eqb, ne_eqb}
use Rattle.exact.specs.Choice.{pick}
use Rattle.line_forms.specs.declared.IndexValue.{IndexValue}
use Rattle.line_forms.specs.declared.Loan.{Loan}
use Rattle.line_forms.specs.declared.Content.{Content}
use Rattle.line_forms.specs.declared.Content.TheVariants.{Header as header, Loan as loan, Policy as policy, Derivative as derivative, Asset as asset}
use Rattle.line_forms.specs.declared.Content.TheVariants.{Amount as amount, Index as index, Mark as mark, NoForm}
use Rattle.line_forms.specs.Claims.{line_content}
use Rattle.line_forms.specs.Readings.{line_of}
use Rattle.book_model.specs.HouseIndex.{InTable, is_indexed_lem, of_index, set_by, values_in, place_for, values_at, empty_index, index_with, index_line, set_places}
use Rattle.book_model.specs.HouseIndex.{IndexSound}
use Rattle.book_model.specs.LineKinds.{sum_by}
use Rattle.book_model.specs.Ranges.{LoanRanges, IndexRanges, Ranged}
use Rattle.book_model.proofs.Adjustments.{indexed-months}
use Rattle.book_model.proofs.Cells.{zeros}
use Rattle.book_model.proofs.LineSums.{sum_alike, sum_more}
use Rattle.book_model.proofs.Ranged.{ranged}
use Rattle.book_model.proofs.Tables.{tabulate, tabulate-length, tabulate-at, zeros-tabulated}

-- A line holds an index value, or whatever is asked of its value is what stands for none.
pub data HeldIndex : Content → Type 1 where
  an_index : (i : IndexValue) → HeldIndex (index i)
  no_index : {c : Content} → ((A : Type 0) (f : IndexValue → A) (x : A) → of_index f x c ≡ x) → HeldIndex c

pub held-index : (c : Content) → HeldIndex c
held-index (header h) = no_index (λ A f x. refl)
held-index (loan l) = no_index (λ A f x. refl)
held-index (policy p) = no_index (λ A f x. refl)
held-index (derivative d) = no_index (λ A f x. refl)
held-index (asset a) = no_index (λ A f x. refl)
held-index (amount a) = no_index (λ A f x. refl)
held-index (index i) = an_index i
held-index (mark m) = no_index (λ A f x. refl)
held-index NoForm = no_index (λ A f x. refl)

-- Places

pub place-below : (area month : ℕ) → InTable area month → place_for area month < 1584
place-below area month h = omega (arith, h.area_most, h.least, h.most, h.month_least, h.month_most)

-- the months of a loan that goes by the index
pub loan-months : (l : Loan) → LoanRanges l → is_indexed_lem l ≡ true → InTable l.area l.from × InTable l.area 201512
loan-months l r e =
    let (low, high) = (indexed-months l).0 e in (
      record { area_most = r.area; least = low; most = omega (arith, high); month_least = r.month_least; month_most = r.month_most },
      record { area_most = r.area; least = omega arith; most = omega arith; month_least = omega arith; month_most = omega arith },
    )

-- no two share a place
place-area : (area month other since : ℕ) → InTable area month → InTable other since → place_for area month ≡ place_for other since → area ≡ other
place-area area month other since h k e =
    omega (arith, e, h.least, h.most, h.month_least, h.month_most, k.least, k.most, k.month_least, k.month_most)

place-month : (area month other since : ℕ) → InTable area month → InTable other since → place_for area month ≡ place_for other since → month ≡ since
place-month area month other since h k e =
    omega (arith, e, h.least, h.most, h.month_least, h.month_most, k.least, k.most, k.month_least, k.month_most, place-area area month other since h k e)

-- The table

-- what the data of a line sets at the place i
unfoldable pub set_at : ℕ → Content → ℕ
set_at i c = of_index (λ v. pick (eqb i (place_for v.area v.month)) v.value 0) 0 c

-- the table of the lines taken
unfoldable pub index_of : List (List ℕ) → List ℕ
index_of kept = tabulate 1584 0 (λ i. sum_by (set_at i) kept)

pub index-length : (kept : List (List ℕ)) → length (index_of kept) ≡ 1584
unfolding index_of
index-length kept = tabulate-length 1584 0 (λ i. sum_by (set_at i) kept)

index_at : (kept : List (List ℕ)) (i : ℕ) → i < 1584 → get_or (index_of kept) i 0 ≡ sum_by (set_at i) kept
unfolding index_of
index_at kept i h = tabulate-at 1584 0 (λ i. sum_by (set_at i) kept) i h ∙ ap (λ (j : ℕ). sum_by (set_at j) kept) (omega arith)

pub none-set : empty_index ≡ index_of []
unfolding empty_index index_of sum_by
none-set = zeros-tabulated 1584 0

-- At the place of an area and month a line sets what it sets for them.
both : (a b : Bool) → (a && b) ≡ true → (a ≡ true) × (b ≡ true)
both true true e = (refl, refl)
both true false e = absurd (false≢true e)
both false b e = absurd (false≢true e)

pub same-both : (i : IndexValue) (area month : ℕ) → (eqb i.area area && eqb i.month month) ≡ true → (i.area ≡ area) × (i.month ≡ month)
same-both i area month e =
    let (x, y) = both (eqb i.area area) (eqb i.month month) e in
    (eqb-true i.area area x, eqb-true i.month month y)

same_test : (i : IndexValue) (area month : ℕ) → IndexRanges i → InTable area month →
    eqb (place_for area month) (place_for i.area i.month) ≡ (eqb i.area area && eqb i.month month)
same_test i area month r h = go (eqb i.area area && eqb i.month month) refl
  where
    go : (t : Bool) → (eqb i.area area && eqb i.month month) ≡ t → eqb (place_for area month) (place_for i.area i.month) ≡ t
    go true e =
        let (x, y) = same-both i area month e in
        eq-eqb (place_for area month) (place_for i.area i.month) (rw (x, y) refl)
    go false e =
        ne_eqb (place_for area month) (place_for i.area i.month)
        (λ p.
        let x = place-area area month i.area i.month h r.place p in
        let y = place-month area month i.area i.month h r.place p in
        true≢false (sym (rw (eq-eqb i.area area (sym x), eq-eqb i.month month (sym y)) refl) ∙ e))

same_set : (c : Content) → Ranged c → (area month : ℕ) → InTable area month → set_at (place_for area month) c ≡ set_by area month c
unfolding set_at
same_set c r area month h = go (held-index c) r
  where
    go : {c : Content} → HeldIndex c → Ranged c → set_at (place_for area month) c ≡ set_by area month c
    go (an_index i) r = ap (λ (t : Bool). pick t i.value 0) (same_test i area month r h)
    go (no_index n) r =
        n ℕ (λ v. pick (eqb (place_for area month) (place_for v.area v.month)) v.value 0) 0
        ∙ sym (n ℕ (λ v. pick (eqb v.area area && eqb v.month month) v.value 0) 0)

-- The table has the values that the lines set.
pub values-are : (kept : List (List ℕ)) (area month : ℕ) → InTable area month → values_at (index_of kept) area month ≡ values_in kept area month
unfolding values_in
values-are kept area month h =
    index_at kept (place_for area month) (place-below area month h)
    ∙ sum_alike (set_at (place_for area month)) (set_by area month) (λ s. same_set (line_content (line_of s)) (ranged s) area month h) kept

-- One line more

-- a place that was not set
set-at : (l : List ℕ) (at x i : ℕ) → at < length l → get_or l at 0 ≡ 0 → get_or (set l at x) i 0 ≡ get_or l i 0 + pick (eqb i at) x 0
set-at l at x i h z = go (eqb i at) refl
  where
    go : (t : Bool) → eqb i at ≡ t → get_or (set l at x) i 0 ≡ get_or l i 0 + pick t x 0
    go true e = let f : i ≡ at = eqb-true i at e in rw (f, get_or-set_same l at x 0 h, z) (omega arith)
    go false e = rw (get_or-set_other l at i x 0 (eqb-false i at e)) (omega arith)

-- data that sets no value a second time
abbrev pub Unset : (table : List ℕ) → Content → Type 0
Unset table c = (i : IndexValue) → c ≡ index i → values_at table i.area i.month ≡ 0

module _ (kept : List (List ℕ)) where
  with-line : (c : Content) → Ranged c → Unset (index_of kept) c →
      (length (index_with c (index_of kept)) ≡ 1584) × ((i : ℕ) → get_or (index_with c (index_of kept)) i 0 ≡ get_or (index_of kept) i 0 + set_at i c)
  unfolding index_with set_at
  with-line c r u = go (held-index c) r u
    where
      go : {c : Content} → HeldIndex c → Ranged c → Unset (index_of kept) c →
          (length (index_with c (index_of kept)) ≡ 1584) × ((i : ℕ) → get_or (index_with c (index_of kept)) i 0 ≡ get_or (index_of kept) i 0 + set_at i c)
      go (an_index v) r u = (
        length-set (index_of kept) (place_for v.area v.month) v.value ∙ index-length kept,
        λ i. set-at (index_of kept) (place_for v.area v.month) v.value i
            (omega (arith, index-length kept, place-below v.area v.month r.place)) (u v refl),
      )
      go (no_index n) r u = (
        rw (n (List ℕ) (λ v. set (index_of kept) (place_for v.area v.month) v.value) (index_of kept)) (index-length kept),
        λ i. rw (
          n (List ℕ) (λ v. set (index_of kept) (place_for v.area v.month) v.value) (index_of kept),
          n ℕ (λ v. pick (eqb i (place_for v.area v.month)) v.value 0) 0,
        )
            (omega arith),
      )

  pub index-more : (s : List ℕ) → Unset (index_of kept) (line_content (line_of s)) → index_with (line_content (line_of s)) (index_of kept) ≡ index_of (kept ++ (s ∷ []))
  index-more s u =
      let c = line_content (line_of s) in
      let w = with-line c (ranged s) u in
      ext_get_or 0 (index_with c (index_of kept)) (index_of (kept ++ (s ∷ []))) (w.0 ∙ sym (index-length (kept ++ (s ∷ []))))
      (λ i h.
      let k : i < 1584 = omega (arith, w.0) in
      w.1 i ∙ rw (index_at kept i k, index_at (kept ++ (s ∷ [])) i k) (sym (sum_more (set_at i) kept s)))

-- What opening and feeding assure of the table

zeros-length : (n : ℕ) → length {A = ℕ} (replicate n 0) ≡ n
zeros-length zero = refl
zeros-length (suc n) = ap suc (zeros-length n)

none-counted : (n : ℕ) → set_places (replicate n 0) ≡ 0
unfolding set_places
none-counted zero = refl
none-counted (suc n) = omega (arith, none-counted n)

pub none-sound : IndexSound empty_index 0
unfolding empty_index
none-sound = record {
  size = zeros-length 1584;
  each = λ i. omega (arith, zeros 1584 i);
  counted = sym (none-counted 1584);
}

-- a value set where none was
set-counted : (l : List ℕ) (at x : ℕ) → at < length l → get_or l at 0 ≡ 0 → 1 ≤ x → set_places (set l at x) ≡ set_places l + 1
unfolding set_places
set-counted [] at x h z k = absurd (omega arith)
set-counted (y ∷ l) zero x h z k = rw (ne_eqb x 0 (λ e. omega (arith, e)), z) (omega arith)
set-counted (y ∷ l) (suc at) x h z k = omega (arith, set-counted l at x (omega arith) z k)

set-each : (l : List ℕ) (at x i : ℕ) → x ≤ 1000000 → get_or l i 0 ≤ 1000000 → at < length l → get_or (set l at x) i 0 ≤ 1000000
set-each l at x i k m h = go (eqb i at) refl
  where
    go : (t : Bool) → eqb i at ≡ t → get_or (set l at x) i 0 ≤ 1000000
    go true e = let f : i ≡ at = eqb-true i at e in rw (f, get_or-set_same l at x 0 h) k
    go false e = rw (get_or-set_other l at i x 0 (eqb-false i at e)) m

pub index-sound : {table : List ℕ} {indexed : ℕ} (c : Content) → Ranged c → Unset table c → IndexSound table indexed →
    IndexSound (index_with c table) (indexed + index_line c)
unfolding index_with
index-sound {table} {indexed} c r u h = go (held-index c) r u
  where
    go : {c : Content} → HeldIndex c → Ranged c → Unset table c → IndexSound (index_with c table) (indexed + index_line c)
    go (an_index v) r u =
        let room : place_for v.area v.month < length table = omega (arith, h.size, place-below v.area v.month r.place) in
        record {
          size = length-set table (place_for v.area v.month) v.value ∙ h.size;
          each = λ i. set-each table (place_for v.area v.month) v.value i r.value_most (h.each i) room;
          counted =
              omega (arith, h.counted, set-counted table (place_for v.area v.month) v.value room (u v refl) r.value_least);
        }
    go (no_index n) r u =
        rw (n (List ℕ) (λ v. set table (place_for v.area v.month) v.value) table, n ℕ (λ v. 1) 0)
        (record { size = h.size; each = h.each; counted = omega (arith, h.counted) })
