-- 02, L8 and L9, of the call `join` itself: books that calls gave are joined. That demands 1 to 3 and the other requests hold of a joined
-- book needs no further word here: it is one of the states of `Given`. Proved in proofs/Joinings.antt.
use Rattle.std.specs.Prelude.{◌≡◌, ◌↔◌, ◌⊎◌, ℕ}
use mathlib.Core.List.{List, [], ◌∷◌, ◌++◌, Permᴰ}
use Rattle.book_model.specs.Calls.{Closed, State, Answer}
use Rattle.book_model.specs.Demand1.{refused_state}
use Rattle.book_model.specs.Demand2.{CountsReached}
use Rattle.book_model.specs.GivenState.{IsOpened}
use Rattle.book_model.specs.History.{History, sheet_of, terms_of, accepted_of, lines_taken}
use Rattle.book_model.specs.Joining.{added_header_lem, SameFactors, joined_state, index_lines, one_book, standing_in_both, joined, LinesOfBoth, JoiningAnswer}
use Rattle.book_model.specs.JoiningLaws.{joined_to, without_marks, OnlyIndexLines, index_alone, UnscoredFirst}
use Rattle.book_model.specs.Terms.{under}
use Rattle.histories.specs.Given.{CloseCall, CellsCall, JoinCall, Given}

-- `join` was handed two books that calls gave, and did not refuse
pub record JoinedCall (h k : History) (s u : State) (a : Answer) : Type 0 where
  pub first : Given h s
  pub second : Given k u
  pub call : JoinCall s u a
  pub joins : a.refusal ≡ 0

pub record CallsJoining : Type 0 where
  -- The answer is 0 exactly where the books may be joined, and 16 exactly where a condition is wanting.
  pub answers : {h k : History} {s u : State} → Given h s → Given k u → {a : Answer} → JoinCall s u a → JoiningAnswer s u a.refusal
  -- Two books are under the same factors exactly where they were opened under the same sheet.
  pub same_factors : {h k : History} {s u : State} → Given h s → Given k u → SameFactors s u ↔ (sheet_of h ≡ sheet_of k)
  -- Refused, it gives a refused opening's value, every place of the four tables included;
  pub refused : {s u : State} {a : Answer} → JoinCall s u a → (a.refusal ≡ 0 → ⊥) → a ≡ record { refusal = 16; state = refused_state }
  -- else held, counts, sums and header counts are added, index lines counted once and no mark kept.
  pub joins : {s u : State} {a : Answer} → JoinCall s u a → a.refusal ≡ 0 → a.state ≡ joined_state s u
  -- Its counts are reached, so that closing is not refused with 6, exactly where those of both books are.
  pub reached : {h k : History} {s u : State} {a : Answer} → JoinedCall h k s u a → CountsReached a.state.book.header a.state.book.sums.counts ↔
      (CountsReached s.book.header s.book.sums.counts × CountsReached u.book.header u.book.sums.counts)
  -- The book that it counts as is under the added header and the same factors, and takes every line still standing in both, index lines once
  -- and first;
  pub terms : {h k : History} {s u : State} {a : Answer} → JoinedCall h k s u a →
      terms_of (joined h k) ≡ under (added_header_lem s.book.header u.book.header) s.rates
  pub taken : {h k : History} {s u : State} {a : Answer} → JoinedCall h k s u a → accepted_of (joined h k) ≡ record { kept = standing_in_both h k; notes = [] }
  -- and whatever calls opened one book with the added header and fed it these lines, the index lines first, in whatever order else, gave the
  -- same book, its tables included:
  pub as_one_book : {h k : History} {s u : State} {a : Answer} → JoinedCall h k s u a → {first rest : List (List ℕ)} → LinesOfBoth h k first rest →
      {v : State} → Given (one_book h k (first ++ rest)) v → a.state ≡ v
  -- closing the joined book gives its report, or its refusal, and the table of cells.
  pub closes : {h k : History} {s u : State} {a : Answer} → JoinedCall h k s u a → {first rest : List (List ℕ)} → LinesOfBoth h k first rest →
      {v : State} → Given (one_book h k (first ++ rest)) v → {buffer after other : List ℕ} {r q : Closed} → CloseCall a.state.book buffer r after →
      CloseCall v.book buffer q other → (r ≡ q) × (after ≡ other)
  pub closes_cells : {h k : History} {s u : State} {a : Answer} → JoinedCall h k s u a → {first rest : List (List ℕ)} → LinesOfBoth h k first rest →
      {v : State} → Given (one_book h k (first ++ rest)) v → {buffer after other : List ℕ} {r q : Closed} →
      CellsCall a.state.book a.state.cells buffer r after → CellsCall v.book v.cells buffer q other → (r ≡ q) × (after ≡ other)

-- A way to join a list of books by calls, and the book that it gives: one book that calls gave, or the books of two groups joined by a call that was
-- not refused.
pub data GroupedCalls : List State → State → Type 0 where
  alone : {h : History} {s : State} → Given h s → GroupedCalls (s ∷ []) s
  together : {xs ys : List State} {s u : State} → GroupedCalls xs s → GroupedCalls ys u → {a : Answer} → JoinCall s u a → a.refusal ≡ 0 →
      GroupedCalls (xs ++ ys) a.state

-- 02, L9. Equal answers and equal books are equal in every number, those of all four tables included. Only where a book is to come back as it was
-- need it have no marks: joining drops them.
pub record CallsJoiningLaws : Type 0 where
  -- "joining commutes", where it is refused too.
  pub commutes : {h k : History} {s u : State} → Given h s → Given k u → {a b : Answer} → JoinCall s u a → JoinCall u s b → a ≡ b
  -- "a book under the same sheet and index values with a zero header and no other lines changes nothing", first or second, and is not refused:
  pub neutral : {h k : History} {s z : State} → Given h s → Given k z → OnlyIndexLines h k → (accepted_of h).notes ≡ [] → {a : Answer} →
      JoinCall s z a ⊎ JoinCall z s a → a ≡ joined_to s
  -- in a book with marks nothing else;
  pub neutral_marked : {h k : History} {s z : State} → Given h s → Given k z → OnlyIndexLines h k → {a : Answer} → JoinCall s z a ⊎ JoinCall z s a →
      a ≡ joined_to (without_marks s)
  -- and every book has such a one: under its sheet a zero header opens it, and fed its index lines, in whatever order, it has their values and no other line.
  pub neutral_made : {h : History} {s : State} → Given h s → {first : List (List ℕ)} → Permᴰ first (index_lines (lines_taken h)) →
      IsOpened (index_alone h first) × OnlyIndexLines h (index_alone h first)
  -- "two groupings of three that both succeed give equal books"
  pub grouped : {s u v : State} {su suv uv both : Answer} → JoinCall s u su → su.refusal ≡ 0 → JoinCall su.state v suv → suv.refusal ≡ 0 →
      JoinCall u v uv → uv.refusal ≡ 0 → JoinCall s uv.state both → both.refusal ≡ 0 → suv ≡ both
  -- Any two ways to join the same books, however many, in whatever order and grouping, that both succeed give the same book,
  pub any_grouping : {xs ys : List State} {s u : State} → GroupedCalls xs s → GroupedCalls ys u → Permᴰ xs ys → s ≡ u
  -- and so the same report and the same table of cells, byte for byte, or the same refusal.
  pub closes : {xs ys : List State} {s u : State} → GroupedCalls xs s → GroupedCalls ys u → Permᴰ xs ys → {buffer after other : List ℕ} {r q : Closed} →
      CloseCall s.book buffer r after → CloseCall u.book buffer q other → (r ≡ q) × (after ≡ other)
  pub closes_cells : {xs ys : List State} {s u : State} → GroupedCalls xs s → GroupedCalls ys u → Permᴰ xs ys →
      {buffer after other : List ℕ} {r q : Closed} → CellsCall s.book s.cells buffer r after → CellsCall u.book u.cells buffer q other →
      (r ≡ q) × (after ≡ other)
  -- Where books can be joined in some way, joining them one after another with those first whose headers count unscored loans is never refused.
  pub unscored_first : (before : List State) (u : State) (after : List State) {xs : List State} {w s : State} → GroupedCalls xs w →
      Permᴰ xs (before ++ (u ∷ after)) → UnscoredFirst (before ++ (u ∷ after)) → GroupedCalls before s → {a : Answer} → JoinCall s u a →
      a.refusal ≡ 0
