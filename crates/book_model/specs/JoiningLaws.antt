-- 02, L9: joining in any grouping. Equal books are equal in every number, those of all four tables included. Proved in proofs/JoiningLaws.antt,
-- and through the calls themselves in the crate histories.
use Rattle.std.specs.Prelude.{◌≡◌, ℕ}
use mathlib.Core.List.{List, [], ◌∷◌, ◌++◌, Memᴰ, Permᴰ}
use Rattle.exact.specs.Text.{text}
use Rattle.figures.specs.Sums.{no_sums}
use Rattle.book_model.specs.Calls.{State, Answer, state_at, Sound}
use Rattle.book_model.specs.Cells.{empty_cells}
use Rattle.book_model.specs.GivenState.{state_given, IsOpened}
use Rattle.book_model.specs.History.{History, opened, all_fed, sheet_of, terms_of, accepted_of, lines_taken}
use Rattle.book_model.specs.Joining.{SameFactors, joining, index_lines, other_lines}
use Rattle.book_model.specs.Marks.{no_marks}
use Rattle.book_model.specs.Terms.{zero_header}

-- joining is not refused, and gives this book
abbrev pub joined_to : State → Answer
joined_to s = record { refusal = 0; state = s }

-- a book, its marks dropped
abbrev pub without_marks : State → State
without_marks s = state_at s.book s.rates s.cells s.index no_marks

-- "a book under the same sheet and index values with a zero header and no other lines": z, beside a book a
pub record ChangesNothing (a z : State) : Type 0 where
  pub factors : SameFactors a z
  pub index : a.index ≡ z.index
  pub header : z.book.header ≡ zero_header
  pub sums : z.book.sums ≡ no_sums
  pub cells : z.cells ≡ empty_cells

-- the same by what the calls were handed: of the lines still standing in it every one is an index line
pub record OnlyIndexLines (h k : History) : Type 0 where
  pub sheet : sheet_of h ≡ sheet_of k
  pub index : (state_given h).index ≡ (state_given k).index
  pub header : (terms_of k).header ≡ zero_header
  pub lines : other_lines (lines_taken k) ≡ []

-- such a book: opened under the sheet of another with a zero header, and fed index lines
abbrev pub index_alone : History → (first : List (List ℕ)) → History
index_alone h first = all_fed (opened (sheet_of h) (text "(book (loans 0) (unscored 0) (fresh 0) (held 0))")) first

-- A way to join a list of books, and the book that it gives: one book as it is, or the books of two groups joined where that is not refused.
pub data Grouping : List State → State → Type 0 where
  alone : (s : State) → Grouping (s ∷ []) s
  together : {xs ys : List State} {a b : State} → Grouping xs a → Grouping ys b → (joining a b).refusal ≡ 0 → Grouping (xs ++ ys) (joining a b).state

-- An order of books in which those whose headers count unscored loans stand before those whose headers count none
unfoldable pub UnscoredFirst : List State → Type 0
UnscoredFirst [] = Unit {0}
UnscoredFirst (s ∷ books) =
    (s.book.header.unscored ≡ 0 → (u : State) → Memᴰ u books → u.book.header.unscored ≡ 0) × UnscoredFirst books

abbrev pub AllSound : List State → Type 0
AllSound books = (s : State) → Memᴰ s books → Sound s

pub record JoiningLaws : Type 0 where
  -- "joining commutes", where it is refused too. Books may have marks here: joining drops those of both.
  pub commutes : (a b : State) → Sound a → Sound b → joining a b ≡ joining b a
  -- "a book under the same sheet and index values with a zero header and no other lines changes nothing" in a book without marks, from either
  -- side, and is never refused; in one with marks it changes nothing else.
  pub neutral : (a z : State) → Sound a → Sound z → a.marks ≡ no_marks → ChangesNothing a z → (joining a z ≡ joined_to a) × (joining z a ≡ joined_to a)
  pub neutral_marked : (a z : State) → Sound a → Sound z → ChangesNothing a z →
      (joining a z ≡ joined_to (without_marks a)) × (joining z a ≡ joined_to (without_marks a))
  -- Such books, and books without marks, by the lines that made them.
  pub neutral_lines : {h k : History} → IsOpened h → IsOpened k → OnlyIndexLines h k → ChangesNothing (state_given h) (state_given k)
  pub unmarked : (h : History) → (accepted_of h).notes ≡ [] → (state_given h).marks ≡ no_marks
  -- Every book has such a one: fed the index lines of the other, in whatever order, it has their values and no other line.
  pub neutral_made : {h : History} {first : List (List ℕ)} → IsOpened h → Permᴰ first (index_lines (lines_taken h)) →
      IsOpened (index_alone h first) × OnlyIndexLines h (index_alone h first)
  -- "two groupings of three that both succeed give equal books", with marks or without. With `commutes` also (a c) b.
  pub grouped : (a b c : State) → (joining a b).refusal ≡ 0 → (joining (joining a b).state c).refusal ≡ 0 → (joining b c).refusal ≡ 0 →
      (joining a (joining b c).state).refusal ≡ 0 → joining (joining a b).state c ≡ joining a (joining b c).state
  -- So any two ways to join the same books, however many, in whatever order and grouping, that both succeed give the same book.
  pub any_grouping : {xs ys : List State} {a b : State} → AllSound xs → Permᴰ xs ys → Grouping xs a → Grouping ys b → a ≡ b
  -- One way may be refused where another is not (JoiningExamples, `one_way`). Books that can be joined in some way can be joined one after another
  -- with those first whose headers count unscored loans: the next one is never refused, however those before it were joined.
  pub unscored_first : (before : List State) (u : State) (after : List State) {xs : List State} {a s : State} → AllSound xs → Grouping xs a →
      Permᴰ xs (before ++ (u ∷ after)) → UnscoredFirst (before ++ (u ∷ after)) → Grouping before s → (joining s u).refusal ≡ 0
