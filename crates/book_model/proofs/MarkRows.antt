-- Rows of marks: a row gives back what was put in it; names and their places. Assumes nothing.
use mathlib.Core.Path.{◌≡◌, refl, sym, ◌∙◌, ap, ap₂}
use mathlib.Core.Bool.{Bool, true, false}
use mathlib.Core.List.{List, [], ◌∷◌, ◌++◌, map}
use Prim.Native.Nat.{ℕ, zero, suc, ◌+◌, ◌-◌, ◌≤◌, ◌<◌}
use native.Mathlib.Omega.{arith}
use lib.Dec.{eqb, ltb}
use lib.ListN.{length, get_or, take, replicate, length-append, length-map, length-replicate, get_or-append, get_or-map}
use lib.Seq.{take_at, drop_at, take_all, length-take-le, get_or-take, get_or-append-add}
use borrow.Author.Tests.{eqb-true, ltb-true, ltb-false, lt-ltb, le-ltb}
use Rattle.exact.specs.Choice.{pick}
use Rattle.line_forms.specs.declared.MarkLine.{MarkLine}
use Rattle.line_forms.specs.declared.Content.{Content}
use Rattle.line_forms.specs.declared.Content.TheVariants.{Header as header, Loan as loan, Policy as policy, Derivative as derivative, Asset as asset}
use Rattle.line_forms.specs.declared.Content.TheVariants.{Amount as amount, Index as index, Mark as mark, NoForm}
use Rattle.book_model.specs.declared.Book.{Book}
use Rattle.book_model.specs.LineKinds.{of_mark}
use Rattle.book_model.specs.Marks.{place_among, is_among, row_of, name_in, book_in_lem, cells_in, index_in, empty_row, no_marks, names_in}
use Rattle.book_model.specs.Marks.{first_marks}

-- A line holds a mark or return, or whatever is asked of it is what stands for none.
pub data HeldMark : Content → Type 1 where
  a_mark : (m : MarkLine) → HeldMark (mark m)
  no_mark : {c : Content} → ((A : Type 0) (f : MarkLine → A) (x : A) → of_mark f x c ≡ x) → HeldMark c

pub held-mark : (c : Content) → HeldMark c
held-mark (header h) = no_mark (λ A f x. refl)
held-mark (loan l) = no_mark (λ A f x. refl)
held-mark (policy p) = no_mark (λ A f x. refl)
held-mark (derivative d) = no_mark (λ A f x. refl)
held-mark (asset a) = no_mark (λ A f x. refl)
held-mark (amount a) = no_mark (λ A f x. refl)
held-mark (index i) = no_mark (λ A f x. refl)
held-mark (mark m) = a_mark m
held-mark NoForm = no_mark (λ A f x. refl)

-- What was put in a row

pub name_back : (name : ℕ) (b : Book) (cells values : List ℕ) → name_in (row_of name b cells values) ≡ name
unfolding name_in row_of
name_back name b cells values = refl

pub book-back : (name : ℕ) (b : Book) (cells values : List ℕ) → book_in_lem b.header (row_of name b cells values) ≡ b
unfolding book_in_lem row_of
book-back name b cells values = refl

pub cells-back : (name : ℕ) (b : Book) (cells values : List ℕ) → length cells ≡ 240 → cells_in (row_of name b cells values) ≡ cells
unfolding cells_in row_of
cells-back name b cells values e = take_at cells values 240 e

pub index_back : (name : ℕ) (b : Book) (cells values : List ℕ) → length cells ≡ 240 → length values ≡ 1584 → index_in (row_of name b cells values) ≡ values
unfolding index_in row_of
index_back name b cells values e f = ap (take 1584) (drop_at cells values 240 e) ∙ take_all 1584 values (omega (arith, f))

pub row-length : (name : ℕ) (b : Book) (cells values : List ℕ) → length cells ≡ 240 → length values ≡ 1584 → length (row_of name b cells values) ≡ 1844
unfolding row_of
row-length name b cells values e f = omega (arith, length-append cells values, e, f)

-- where no mark is kept
pub no_name : name_in empty_row ≡ 0
unfolding name_in empty_row
no_name = refl

-- Places of names

pub place-most : (n : ℕ) (xs : List ℕ) → place_among n xs ≤ length xs
unfolding place_among
place-most n [] = omega arith
place-most n (x ∷ xs) = go (eqb x n) (place-most n xs)
  where
    go : (t : Bool) → place_among n xs ≤ length xs → pick t 0 (suc (place_among n xs)) ≤ suc (length xs)
    go true h = omega arith
    go false h = omega arith

-- one that is among the first
pub place-left : (n : ℕ) (xs ys : List ℕ) → place_among n xs < length xs → place_among n (xs ++ ys) ≡ place_among n xs
unfolding place_among
place-left n [] ys h = absurd (omega arith)
place-left n (x ∷ xs) ys h = go (eqb x n) h (place-left n xs ys)
  where
    go : (t : Bool) → pick t 0 (suc (place_among n xs)) < suc (length xs) → (place_among n xs < length xs → place_among n (xs ++ ys) ≡ place_among n xs) →
        pick t 0 (suc (place_among n (xs ++ ys))) ≡ pick t 0 (suc (place_among n xs))
    go true h r = refl
    go false h r = ap suc (r (omega arith))

-- one that is not
pub place-right : (n : ℕ) (xs ys : List ℕ) → place_among n xs ≡ length xs → place_among n (xs ++ ys) ≡ length xs + place_among n ys
unfolding place_among
place-right n [] ys e = omega arith
place-right n (x ∷ xs) ys e = go (eqb x n) e (place-right n xs ys)
  where
    go : (t : Bool) → pick t 0 (suc (place_among n xs)) ≡ suc (length xs) →
        (place_among n xs ≡ length xs → place_among n (xs ++ ys) ≡ length xs + place_among n ys) →
        pick t 0 (suc (place_among n (xs ++ ys))) ≡ suc (length xs) + place_among n ys
    go true e r = absurd (omega arith)
    go false e r = omega (arith, r (omega arith))

-- 0 stands where no mark is kept, and no name is 0
pub place-zeros : (n k : ℕ) → 1 ≤ n → place_among n (replicate k 0) ≡ k
unfolding place_among
place-zeros n zero h = refl
place-zeros n (suc k) h = go (eqb 0 n) refl (place-zeros n k h)
  where
    go : (t : Bool) → eqb 0 n ≡ t → place_among n (replicate k 0) ≡ k → pick t 0 (suc (place_among n (replicate k 0))) ≡ suc k
    go true e r = absurd (omega (arith, eqb-true 0 n e, h))
    go false e r = ap suc r

pub zero-first : (k : ℕ) → place_among 0 (replicate k 0) ≡ 0
unfolding place_among
zero-first zero = refl
zero-first (suc k) = refl

-- among names and places without one
pub among-padded : (n : ℕ) (xs : List ℕ) (k : ℕ) → 1 ≤ n → is_among n (xs ++ replicate k 0) ≡ is_among n xs
among-padded n xs k h = go (ltb (place_among n xs) (length xs)) refl
  where
    total : length (xs ++ replicate k 0) ≡ length xs + k
    total = length-append xs (replicate k 0) ∙ ap (λ (m : ℕ). length xs + m) (length-replicate k 0)

    go : (t : Bool) → ltb (place_among n xs) (length xs) ≡ t → is_among n (xs ++ replicate k 0) ≡ t
    go true e =
        let f : place_among n xs < length xs = ltb-true (place_among n xs) (length xs) e in
        let p = place-left n xs (replicate k 0) f in
        lt-ltb (place_among n (xs ++ replicate k 0)) (length (xs ++ replicate k 0)) (omega (arith, p, total, f))
    go false e =
        let f : length xs ≤ place_among n xs = ltb-false (place_among n xs) (length xs) e in
        let p = place-right n xs (replicate k 0) (omega (arith, f, place-most n xs)) in
        le-ltb (place_among n (xs ++ replicate k 0)) (length (xs ++ replicate k 0)) (omega (arith, p, place-zeros n k h, total))

-- Rows without a mark

pub unnamed : (k i : ℕ) → name_in (get_or (replicate k empty_row) i []) ≡ 0
unfolding name_in
unnamed zero i = refl
unnamed (suc k) zero = no_name
unnamed (suc k) (suc i) = unnamed k i

pub names-none : (k : ℕ) → map name_in (replicate k empty_row) ≡ replicate k 0
names-none zero = refl
names-none (suc k) = ap₂ (λ (x : ℕ) (l : List ℕ). x ∷ l) no_name (names-none k)

pub no-marks-length : length no_marks ≡ 8
unfolding no_marks
no-marks-length = length-replicate 8 empty_row

-- the name of a row
pub name_of : (marks : List (List ℕ)) (i : ℕ) → get_or (names_in marks) i 0 ≡ name_in (get_or marks i [])
unfolding names_in name_in
name_of marks i = get_or-map name_in marks i []

pub names-length : (marks : List (List ℕ)) → length (names_in marks) ≡ length marks
unfolding names_in
names-length marks = length-map marks name_in

-- The first marks alone: each of them, and none after them.
module _ (n : ℕ) (marks : List (List ℕ)) (h : n ≤ length marks) where
  pub first-length : length marks ≡ 8 → length (first_marks n marks) ≡ 8
  unfolding first_marks
  first-length e =
      length-append (take n marks) (replicate (8 - n) empty_row)
      ∙ omega (arith, length-take-le n marks h, length-replicate (8 - n) empty_row, h, e)

  pub first-at : (i : ℕ) → i < n → get_or (first_marks n marks) i [] ≡ get_or marks i []
  unfolding first_marks
  first-at i k =
      get_or-append (take n marks) (replicate (8 - n) empty_row) [] i (omega (arith, k, length-take-le n marks h)) ∙ get_or-take n marks i [] k

  pub first-after : (i : ℕ) → n ≤ i → name_in (get_or (first_marks n marks) i []) ≡ 0
  unfolding first_marks
  first-after i k =
      let e : length (take n marks) + (i - n) ≡ i = omega (arith, k, length-take-le n marks h) in
      ap (λ (j : ℕ). name_in (get_or (take n marks ++ replicate (8 - n) empty_row) j [])) (sym e)
      ∙ ap name_in (get_or-append-add (take n marks) (replicate (8 - n) empty_row) (i - n) []) ∙ unnamed (8 - n) (i - n)
