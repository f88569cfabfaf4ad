-- The parts of a joined book: headers, cells and whole states form a commutative monoid as sums do, as far as the books agree. Assumes nothing.
use mathlib.Core.Path.{◌≡◌, sym, ◌∙◌, ap}
use mathlib.Core.List.{List}
use mathlib.Core.Logic.Iff
use Prim.Native.Nat.{ℕ, ◌+◌, ◌<◌}
use native.Mathlib.Omega.{arith}
use lib.ListN.{length, get_or}
use Rattle.line_forms.specs.declared.Header.{Header}
use Rattle.figures.specs.Sums.{no_sums, plus}
use Rattle.figures.proofs.SumsLaws.{plus_comm, plus_assoc, plus_none}
use Rattle.book_model.specs.Calls.{State, Answer, state_at, Sound}
use Rattle.book_model.specs.Cells.{empty_cells}
use Rattle.book_model.specs.HouseIndex.{set_places}
use Rattle.book_model.specs.Joining.{added_header_lem, KeepsChoices, SameFactors, added_cells, joined_state, joining}
use Rattle.book_model.specs.JoiningLaws.{joined_to, without_marks}
use Rattle.book_model.specs.Marks.{no_marks}
use Rattle.book_model.specs.Terms.{zero_header}
use Rattle.book_model.proofs.Cells.{zeros}
use Rattle.book_model.proofs.Joining.{test_zero, joined-when}
use Rattle.book_model.proofs.Places.{places-at, places-are, places-length}

-- Headers

-- two headers are equal when their fields are
record SameHeader (g h : Header) : Type 0 where
  loans : g.loans ≡ h.loans
  unscored : g.unscored ≡ h.unscored
  fresh : g.fresh ≡ h.fresh
  held : g.held ≡ h.held

same-header : {g h : Header} → SameHeader g h → g ≡ h
same-header s = λ i. record { loans = s.loans i; unscored = s.unscored i; fresh = s.fresh i; held = s.held i }

pub header-comm : (g h : Header) → added_header_lem g h ≡ added_header_lem h g
header-comm g h = same-header (omega arith)

header-assoc : (f g h : Header) → added_header_lem (added_header_lem f g) h ≡ added_header_lem f (added_header_lem g h)
header-assoc f g h = same-header (omega arith)

pub header-zero : (h : Header) → added_header_lem h zero_header ≡ h
header-zero h = same-header (omega arith)

pub keeps-own : (h : Header) → KeepsChoices h h
keeps-own h = record { column = λ l. Iff.rfl; factor = λ l u. Iff.rfl }

-- Tables of cells

added-length : (xs ys : List ℕ) → length (added_cells xs ys) ≡ 240
unfolding added_cells
added-length xs ys = places-length 240 (λ i. get_or xs i 0 + get_or ys i 0)

added-at : (xs ys : List ℕ) (i : ℕ) → i < 240 → get_or (added_cells xs ys) i 0 ≡ get_or xs i 0 + get_or ys i 0
unfolding added_cells
added-at xs ys i h = places-at 240 (λ i. get_or xs i 0 + get_or ys i 0) i h

added_is : (xs ys zs : List ℕ) → length zs ≡ 240 → ((i : ℕ) → i < 240 → get_or xs i 0 + get_or ys i 0 ≡ get_or zs i 0) → added_cells xs ys ≡ zs
unfolding added_cells
added_is xs ys zs e h = places-are 240 (λ i. get_or xs i 0 + get_or ys i 0) zs e h

cells-comm : (xs ys : List ℕ) → added_cells xs ys ≡ added_cells ys xs
cells-comm xs ys = added_is xs ys (added_cells ys xs) (added-length ys xs) (λ i h. omega (arith, added-at ys xs i h))

cells-assoc : (xs ys zs : List ℕ) → added_cells (added_cells xs ys) zs ≡ added_cells xs (added_cells ys zs)
cells-assoc xs ys zs = added_is (added_cells xs ys) zs (added_cells xs (added_cells ys zs)) (added-length xs (added_cells ys zs))
    (λ i h. omega (arith, added-at xs ys i h, added-at xs (added_cells ys zs) i h, added-at ys zs i h))

pub cells-none : (xs : List ℕ) → length xs ≡ 240 → added_cells xs empty_cells ≡ xs
unfolding empty_cells
cells-none xs e = added_is xs empty_cells xs e (λ i h. omega (arith, zeros 240 i))

-- Whole states

-- what must be the same in two books: what they were opened under beside their headers, and the index values with their count
pub record Agrees (a b : State) : Type 0 where
  pub factors : SameFactors a b
  pub index : a.index ≡ b.index
  pub indexed : a.book.indexed ≡ b.book.indexed

-- equal index tables have as many values set
pub same_count : {a b : State} → Sound a → Sound b → a.index ≡ b.index → a.book.indexed ≡ b.book.indexed
same_count x y e = x.index.counted ∙ ap set_places e ∙ sym y.index.counted

pub state-comm : {a b : State} → Agrees a b → joined_state a b ≡ joined_state b a
state-comm {a} {b} s = λ i. state_at
    (record {
      header = header-comm a.book.header b.book.header i;
      sums = plus_comm a.book.sums b.book.sums i;
      indexed = s.indexed i;
    })
    (s.factors i) (cells-comm a.cells b.cells i) (s.index i) no_marks

pub state-assoc : (a b c : State) → joined_state (joined_state a b) c ≡ joined_state a (joined_state b c)
state-assoc a b c = λ i. state_at
    (record {
      header = header-assoc a.book.header b.book.header c.book.header i;
      sums = plus_assoc a.book.sums b.book.sums c.book.sums i;
      indexed = a.book.indexed;
    })
    a.rates (cells-assoc a.cells b.cells c.cells i) a.index no_marks

-- joined with a book of a zero header that has no loans and no other lines
pub state-none : (a z : State) → length a.cells ≡ 240 → z.book.header ≡ zero_header → z.book.sums ≡ no_sums → z.cells ≡ empty_cells →
    joined_state a z ≡ without_marks a
state-none a z l h s c = λ i. state_at
    (record {
      header = (ap (added_header_lem a.book.header) h ∙ header-zero a.book.header) i;
      sums = (ap (plus a.book.sums) s ∙ plus_none a.book.sums) i;
      indexed = a.book.indexed;
    })
    a.rates ((ap (added_cells a.cells) c ∙ cells-none a.cells l) i) a.index no_marks

pub no-marks : (a : State) → a.marks ≡ no_marks → without_marks a ≡ a
no-marks a m = λ i. state_at a.book a.rates a.cells a.index (sym m i)

-- what a joining that is not refused gives
pub joined_is : (a b : State) → (joining a b).refusal ≡ 0 → joining a b ≡ joined_to (joined_state a b)
joined_is a b z = joined-when a b (test_zero a b z)

pub joined-state : (a b : State) → (joining a b).refusal ≡ 0 → (joining a b).state ≡ joined_state a b
joined-state a b z = ap (λ (x : Answer). x.state) (joined_is a b z)
