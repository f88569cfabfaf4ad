-- Joining over the definitions. Assumes nothing.
use mathlib.Core.Path.{◌≡◌, refl, sym, ◌∙◌, ap, ap₂, subst}
use mathlib.Core.Bool.{Bool, true, false, ◌&&◌}
use mathlib.Core.List.Permᴰ
use mathlib.Core.List.{List, ◌++◌}
use mathlib.Core.Logic.{◌↔◌}
use Prim.Native.Nat.{ℕ, ◌+◌, ◌*◌, ◌≤◌, ◌<◌}
use native.Mathlib.Omega.{arith}
use lib.Dec.{eqb, ltb}
use lib.ListN.{length, get_or, get_or-eq_default}
use borrow.Author.Tests.{eqb-true, eqb-false, leb-true, le-leb, ltb-true, ltb-false}
use Rattle.line_forms.specs.declared.Header.{Header}
use Rattle.line_forms.specs.Contents.{header_in_range, on_aged_table_lem, in_range}
use Rattle.line_forms.proofs.Bytes.{and_both, within-bounds}
use Rattle.line_forms.proofs.HeaderCounts.{first-serves}
use Rattle.figures.proofs.SumsLaws.{plus-bounded}
use Rattle.book_model.specs.Accepted.{most_other}
use Rattle.book_model.specs.Calls.{state_at, State, Answer, closing, closed, closing_cells, closed_cells, Sound}
use Rattle.book_model.specs.Cells.{CellsBounded}
use Rattle.book_model.specs.Demand1.{refused_state}
use Rattle.book_model.specs.Demand2.{CountsReached}
use Rattle.book_model.specs.GivenState.{state_given}
use Rattle.book_model.specs.History.{History, terms_of, accepted_of, lines_taken}
use Rattle.book_model.specs.Marks.{no_marks}
use Rattle.book_model.specs.Joining.{joined_header, KeepsChoices, MayJoin, alike, many_unscored_lem, keeps_choices_lem, same_factors_lem, same_index_lem, may_join_lem, places, added_cells}
use Rattle.book_model.specs.Joining.{joined_state, joining, index_lines, other_lines, one_book, standing_in_both, LinesOfBoth, JoinedBooks, ClosedAlike}
use Rattle.book_model.specs.Joining.{JoiningAnswer, Joining}
use Rattle.book_model.proofs.AsOneBook.{header-in-range, state-given, opens_one, all-taken, one-book}
use Rattle.book_model.proofs.ChargedAlike.{below, same-column, same-many}
use Rattle.book_model.proofs.Feeding.{refused-sound, no-marks-sound}
use Rattle.book_model.proofs.FreshScores.{taken-sound}
use Rattle.book_model.proofs.Places.{places-length, places-at, same_tables}
use Rattle.book_model.proofs.Steps.{state_of}
use Rattle.book_model.proofs.TakenWhole.{unmarked}

-- The test is that of the conditions

both_true : {a b : Bool} → a ≡ true → b ≡ true → (a && b) ≡ true
both_true e f = rw (e, f) refl

alike-true : (x y : Bool) → (alike x y ≡ true) ↔ (x ≡ y)
alike-true true true = (λ e. refl, λ e. refl)
alike-true true false = (λ e. sym e, λ e. sym e)
alike-true false true = (λ e. e, λ e. e)
alike-true false false = (λ e. refl, λ e. refl)

-- two tests that are equal hold alike
tests-alike : {x y : Bool} {v : Bool} {P Q : Type 0} → ((x ≡ v) ↔ P) → ((y ≡ v) ↔ Q) → x ≡ y → P ↔ Q
tests-alike a b e = (λ p. b.0 (sym e ∙ a.1 p), λ q. a.0 (e ∙ b.1 q))

pub keeps-test : (own j : Header) → (keeps_choices_lem own j ≡ true) ↔ KeepsChoices own j
unfolding keeps_choices_lem many_unscored_lem
keeps-test own j = (λ e. go e (eqb own.loans 0) refl (eqb own.unscored 0) refl, λ k. back k (eqb own.loans 0) refl (eqb own.unscored 0) refl)
  where
    column : on_aged_table_lem own ≡ on_aged_table_lem j → (9 * own.loans ≤ 10 * own.fresh) ↔ (9 * j.loans ≤ 10 * j.fresh)
    column e = tests-alike (first-serves own) (first-serves j) e

    factor : ltb own.loans (20 * own.unscored) ≡ ltb j.loans (20 * j.unscored) → (own.loans < 20 * own.unscored) ↔ (j.loans < 20 * j.unscored)
    factor e = tests-alike (below own.loans (20 * own.unscored)) (below j.loans (20 * j.unscored)) e

    go : keeps_choices_lem own j ≡ true → (x : Bool) → eqb own.loans 0 ≡ x → (y : Bool) → eqb own.unscored 0 ≡ y → KeepsChoices own j
    go e true p y q = record {
      column = λ l. absurd (omega (arith, l, eqb-true own.loans 0 p));
      factor = λ l u. absurd (omega (arith, l, eqb-true own.loans 0 p));
    }
    go e false p true q =
        let (a, b) = and_both _ _ (rw (p, q) at e) in
        record {
          column = λ l. column ((alike-true (on_aged_table_lem own) (on_aged_table_lem j)).0 a);
          factor = λ l u. absurd (omega (arith, u, eqb-true own.unscored 0 q));
        }
    go e false p false q =
        let (a, b) = and_both _ _ (rw (p, q) at e) in
        record {
          column = λ l. column ((alike-true (on_aged_table_lem own) (on_aged_table_lem j)).0 a);
          factor = λ l u. factor ((alike-true (ltb own.loans (20 * own.unscored)) (ltb j.loans (20 * j.unscored))).0 b);
        }

    back : KeepsChoices own j → (x : Bool) → eqb own.loans 0 ≡ x → (y : Bool) → eqb own.unscored 0 ≡ y → keeps_choices_lem own j ≡ true
    back k true p y q = rw p refl
    back k false p true q =
        let l : 1 ≤ own.loans = omega (arith, eqb-false own.loans 0 p) in
        rw (p, q) (both_true ((alike-true (on_aged_table_lem own) (on_aged_table_lem j)).1 (same-column own j (k.column l))) refl)
    back k false p false q =
        let l : 1 ≤ own.loans = omega (arith, eqb-false own.loans 0 p) in
        let u : 1 ≤ own.unscored = omega (arith, eqb-false own.unscored 0 q) in
        rw (p, q) (both_true ((alike-true (on_aged_table_lem own) (on_aged_table_lem j)).1 (same-column own j (k.column l)))
        ((alike-true (ltb own.loans (20 * own.unscored)) (ltb j.loans (20 * j.unscored))).1 (same-many own j (k.factor l u))))

module _ (a b : State) (x : Sound a) (y : Sound b) where
  pub may-forth : may_join_lem a b ≡ true → MayJoin a b
  unfolding may_join_lem same_factors_lem same_index_lem header_in_range
  may-forth e =
      let (e5, second) = and_both _ _ e in
      let (e4, first) = and_both _ _ e5 in
      let (e3, lines) = and_both _ _ e4 in
      let (e2, range) = and_both _ _ e3 in
      let (factors, index) = and_both _ _ e2 in
      let (loans, held) = and_both _ _ range in
      record {
        factors = (same_tables 66 a.rates b.rates x.rates_size y.rates_size).0 factors;
        index = (same_tables 1584 a.index b.index x.index.size y.index.size).0 index;
        loans = (within-bounds 0 1000000 (joined_header a b).loans loans).1;
        held = (within-bounds 0 10000000000000 (joined_header a b).held held).1;
        lines = leb-true _ most_other lines;
        first = (keeps-test a.book.header (joined_header a b)).0 first;
        second = (keeps-test b.book.header (joined_header a b)).0 second;
      }

  pub may-back : MayJoin a b → may_join_lem a b ≡ true
  unfolding may_join_lem same_factors_lem same_index_lem in_range
  may-back c =
      both_true (both_true (both_true (both_true (both_true
      ((same_tables 66 a.rates b.rates x.rates_size y.rates_size).1 c.factors)
      ((same_tables 1584 a.index b.index x.index.size y.index.size).1 c.index))
      (header-in-range (joined_header a b) c.loans c.held))
      (le-leb _ most_other c.lines))
      ((keeps-test a.book.header (joined_header a b)).1 c.first))
      ((keeps-test b.book.header (joined_header a b)).1 c.second)

-- The answer, case by case

pub joined-when : (a b : State) → may_join_lem a b ≡ true → joining a b ≡ record { refusal = 0; state = joined_state a b }
unfolding joining
joined-when a b e = rw e refl

pub refused-when : (a b : State) → may_join_lem a b ≡ false → joining a b ≡ record { refusal = 16; state = refused_state }
unfolding joining
refused-when a b e = rw e refl

pub number : {a b : Answer} → a ≡ b → a.refusal ≡ b.refusal
number e = ap (λ (x : Answer). x.refusal) e

pub test_zero : (a b : State) → (joining a b).refusal ≡ 0 → may_join_lem a b ≡ true
test_zero a b z = go (may_join_lem a b) refl
  where
    go : (t : Bool) → may_join_lem a b ≡ t → t ≡ true
    go true e = refl
    go false e = absurd (omega (arith, sym (number (refused-when a b e)) ∙ z))

test-other : (a b : State) → ((joining a b).refusal ≡ 0 → ⊥) → may_join_lem a b ≡ false
test-other a b n = go (may_join_lem a b) refl
  where
    go : (t : Bool) → may_join_lem a b ≡ t → t ≡ false
    go true e = absurd (n (number (joined-when a b e)))
    go false e = refl

answers : (a b : State) → Sound a → Sound b → JoiningAnswer a b (joining a b).refusal
answers a b x y = record {
  joins = (λ z. may-forth a b x y (test_zero a b z), λ c. number (joined-when a b (may-back a b x y c)));
  number_16 = (
    λ z c. omega (arith, sym (number (joined-when a b (may-back a b x y c))) ∙ z),
    λ n. number (refused-when a b (test-other a b (λ z. n (may-forth a b x y (test_zero a b z))))),
  );
}

-- What a joining gives is sound

cells-bounded : (xs ys : List ℕ) (m n : ℕ) → length xs ≡ 240 → length ys ≡ 240 → CellsBounded xs (4 * m) → CellsBounded ys (4 * n) →
    CellsBounded (added_cells xs ys) (4 * (m + n))
unfolding added_cells
cells-bounded xs ys m n e f x y = record { each = λ i. go i (ltb i 240) refl }
  where
    go : (i : ℕ) (t : Bool) → ltb i 240 ≡ t → get_or (places 240 (λ i. get_or xs i 0 + get_or ys i 0)) i 0 ≤ 300000000 * (4 * (m + n))
    go i true h = omega (arith, places-at 240 (λ i. get_or xs i 0 + get_or ys i 0) i (ltb-true i 240 h), x.each i, y.each i)
    go i false h =
        omega (
          arith,
          get_or-eq_default (places 240 (λ i. get_or xs i 0 + get_or ys i 0)) 0 {n = i}
              (omega (arith, ltb-false i 240 h, places-length 240 (λ i. get_or xs i 0 + get_or ys i 0))),
        )

joined-sound : (a b : State) → Sound a → Sound b → MayJoin a b → Sound (joined_state a b)
unfolding added_cells
joined-sound a b x y c = record {
  book = record {
    bounded = plus-bounded x.book.bounded y.book.bounded;
    loans = omega (arith, x.book.loans, y.book.loans);
    unscored = omega (arith, x.book.unscored, y.book.unscored);
    fresh = omega (arith, x.book.fresh, y.book.fresh);
    other = c.lines;
    header_loans = c.loans;
    header_scores = omega (arith, x.book.header_scores, y.book.header_scores);
    held = c.held;
  };
  rates = x.rates;
  rates_size = x.rates_size;
  cells = cells-bounded a.cells b.cells a.book.sums.counts.loans b.book.sums.counts.loans x.cells_size_law y.cells_size_law
      x.cells y.cells;
  cells_size_law = places-length 240 (λ i. get_or a.cells i 0 + get_or b.cells i 0);
  index = x.index;
  marks = no-marks-sound (joined_header a b);
}

pub joining-sound : (a b : State) → Sound a → Sound b → Sound (joining a b).state
joining-sound a b x y = go (may_join_lem a b) refl
  where
    go : (t : Bool) → may_join_lem a b ≡ t → Sound (joining a b).state
    go true e = subst (λ (r : Answer). Sound r.state) (sym (joined-when a b e)) (joined-sound a b x y (may-forth a b x y e))
    go false e = subst (λ (r : Answer). Sound r.state) (sym (refused-when a b e)) refused-sound

-- no count is short in both together exactly where none is in either
reached : (a b : State) → Sound a → Sound b → CountsReached (joined_header a b) (joined_state a b).book.sums.counts ↔
    (CountsReached a.book.header a.book.sums.counts × CountsReached b.book.header b.book.sums.counts)
reached a b x y = (
  λ (l, u, f). (
    (omega (arith, l, y.book.loans), omega (arith, u, y.book.unscored), omega (arith, f, y.book.fresh)),
    (omega (arith, l, x.book.loans), omega (arith, u, x.book.unscored), omega (arith, f, x.book.fresh)),
  ),
  λ ((l, u, f), (m, v, g)). (omega (arith, l, m), omega (arith, u, v), omega (arith, f, g)),
)

-- As one book

given-sound : (past : History) → Sound (state_given past)
given-sound past = subst Sound (sym (state-given past)) (taken-sound past)

module _ {h k : History} (j : JoinedBooks h k) where
  pub conditions : MayJoin (state_of (terms_of h) (accepted_of h)) (state_of (terms_of k) (accepted_of k))
  conditions = subst (λ (s : State). MayJoin s (state_of (terms_of k) (accepted_of k))) (state-given h)
      (subst (MayJoin (state_given h)) (state-given k)
      (may-forth (state_given h) (state_given k) (given-sound h) (given-sound k) (test_zero (state_given h) (state_given k) j.joins)))

  joins-is : (joining (state_given h) (state_given k)).state ≡ joined_state (state_given h) (state_given k)
  joins-is = ap (λ (r : Answer). r.state) (joined-when (state_given h) (state_given k) (test_zero (state_given h) (state_given k) j.joins))

  module _ {first rest : List (List ℕ)} (l : LinesOfBoth h k first rest) where
    taken_in_order : accepted_of (one_book h k (first ++ rest)) ≡ unmarked (first ++ rest)
    taken_in_order = all-taken h k j.first j.second conditions first rest l.index l.others

    pub as_one_book : (joining (state_given h) (state_given k)).state ≡ state_given (one_book h k (first ++ rest))
    as_one_book =
        joins-is ∙ ap₂ joined_state (state-given h) (state-given k) ∙ one-book h k j.first j.second conditions first rest l.index l.others
        ∙ sym (state-given (one_book h k (first ++ rest)))

as-they-stand : (h k : History) → LinesOfBoth h k (index_lines (lines_taken h)) (other_lines (lines_taken h) ++ other_lines (lines_taken k))
as-they-stand h k = record { index = Permᴰ.refl _; others = Permᴰ.refl _ }

closed-alike : {s u : State} → s ≡ u → ClosedAlike s u
closed-alike e = record {
  answers = λ size. ap (λ (s : State). closing s.book size) e;
  writes = λ buffer. ap (λ (s : State). closed s.book buffer) e;
  cells_answers = λ size. ap (λ (s : State). closing_cells s.book s.cells size) e;
  cells_writes = λ buffer. ap (λ (s : State). closed_cells s.book s.cells buffer) e;
}

pub joining-holds : Joining
joining-holds = record {
  answers = answers;
  joins = λ a b z. ap (λ (r : Answer). r.state) (joined-when a b (test_zero a b z));
  refused = λ a b n. refused-when a b (test-other a b n);
  sound = joining-sound;
  reached = reached;
  opens = λ {h} {k} j. opens_one h k j.first j.second (conditions j) (standing_in_both h k);
  taken = λ {h} {k} j. taken_in_order j (as-they-stand h k);
  counts_as = λ {h} {k} j. as_one_book j (as-they-stand h k);
  taken_in_order = λ j l. taken_in_order j l;
  as_one_book = λ j l. as_one_book j l;
  closes = λ j l. closed-alike (as_one_book j l);
}

-- a sound book is sound without its marks
pub without-marks-sound : {s : State} → Sound s → Sound (state_at s.book s.rates s.cells s.index no_marks)
without-marks-sound {s} h = record {
  book = h.book;
  rates = h.rates;
  rates_size = h.rates_size;
  cells = h.cells;
  cells_size_law = h.cells_size_law;
  index = h.index;
  marks = no-marks-sound s.book.header;
}
