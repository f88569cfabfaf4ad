-- 02, L6: marks in a long book. A mark keeps the book as it is under a name, a return makes it so again.
use Rattle.std.specs.Prelude.{ℕ, suc, ◌-◌, Bool, List, [], ◌∷◌, ◌++◌, map, ltb, leb, eqb, length, get_or, take, drop, replicate}
use Rattle.exact.specs.Choice.{pick}
use Rattle.line_forms.specs.declared.Header.{Header}
use Rattle.line_forms.specs.declared.MarkLine.{MarkLine}
use Rattle.book_model.specs.declared.Book.{Book}

-- at most so many marks are kept at a time
abbrev pub most_marks : ℕ
most_marks = 8

-- the place of a name among names, their number where it is none of them
unfoldable pub place_among : ℕ → List ℕ → ℕ
place_among n [] = 0
place_among n (x ∷ names) = pick (eqb x n) 0 (suc (place_among n names))

abbrev pub is_among : ℕ → List ℕ → Bool
is_among n names = ltb (place_among n names) (length names)

-- What marks are kept: of which names, and how many.
pub record Kept : Type 0 where
  pub named : ℕ → Bool
  pub count : ℕ

-- 13: a name already kept, then 14: a ninth mark. 15: a return to a name not kept.
abbrev pub mark_refusal : Kept → MarkLine → ℕ
mark_refusal k m = pick m.back (pick (k.named m.name) 0 15) (pick (k.named m.name) 13 (pick (leb most_marks k.count) 14 0))

-- The table lent with a book: eight rows, a mark kept in each of the first ones, in the order in which they were set.

-- A row: the mark's name, as a number from 1 on; the count of index lines and the sums of the book; its table of cells; its index values.
abbrev pub numbers_of : ℕ → Book → List ℕ
numbers_of name b =
    name ∷ b.indexed ∷
    b.sums.counts.loans ∷ b.sums.counts.unscored ∷ b.sums.counts.fresh ∷ b.sums.counts.other ∷
    b.sums.total.plus ∷ b.sums.total.minus ∷ b.sums.supplement.plus ∷ b.sums.supplement.minus ∷
    b.sums.rest.cents ∷ b.sums.rest.parts ∷ b.sums.moved.cents ∷ b.sums.moved.parts ∷
    b.sums.equity.plus ∷ b.sums.equity.minus ∷ b.sums.aoci.plus ∷ b.sums.aoci.minus ∷
    b.sums.b ∷ b.sums.c ∷ []

unfoldable pub row_of : ℕ → Book → (cells index : List ℕ) → List ℕ
row_of name b cells index = numbers_of name b ++ (cells ++ index)

-- what a row keeps
unfoldable pub name_in : List ℕ → ℕ
name_in row = get_or row 0 0

unfoldable pub book_in_lem : Header → List ℕ → Book
book_in_lem h row = record {
  header = h;
  sums = record {
    counts = record { loans = get_or row 2 0; unscored = get_or row 3 0; fresh = get_or row 4 0; other = get_or row 5 0 };
    total = record { plus = get_or row 6 0; minus = get_or row 7 0 };
    supplement = record { plus = get_or row 8 0; minus = get_or row 9 0 };
    rest = record { cents = get_or row 10 0; parts = get_or row 11 0 };
    moved = record { cents = get_or row 12 0; parts = get_or row 13 0 };
    equity = record { plus = get_or row 14 0; minus = get_or row 15 0 };
    aoci = record { plus = get_or row 16 0; minus = get_or row 17 0 };
    b = get_or row 18 0;
    c = get_or row 19 0;
  };
  indexed = get_or row 1 0;
}

unfoldable pub cells_in : List ℕ → List ℕ
cells_in row = take 240 (drop 20 row)

unfoldable pub index_in : List ℕ → List ℕ
index_in row = take 1584 (drop 260 row)

-- where no mark is kept; its name is 0
unfoldable pub empty_row : List ℕ
empty_row = replicate 1844 0

unfoldable pub no_marks : List (List ℕ)
no_marks = replicate most_marks empty_row

unfoldable pub names_in : List (List ℕ) → List ℕ
names_in marks = map name_in marks

-- the first row without a mark, which is how many are kept
abbrev pub free_row : List (List ℕ) → ℕ
free_row marks = place_among 0 (names_in marks)

abbrev pub kept_in : List (List ℕ) → Kept
kept_in marks = record { named = λ n. is_among n (names_in marks); count = free_row marks }

-- the first n marks alone
unfoldable pub first_marks : ℕ → List (List ℕ) → List (List ℕ)
first_marks n marks = take n marks ++ replicate (most_marks - n) empty_row
