-- Joining of books that calls gave. Assumes nothing.
use mathlib.Core.Path.{◌≡◌, refl, sym, ◌∙◌, ap, ap₂, subst}
use mathlib.Core.List.Memᴰ
use mathlib.Core.List.{List, [], ◌∷◌, ◌++◌, Permᴰ}
use mathlib.Core.Logic.{◌↔◌, ◌⊎◌, ⊎_elim}
use Prim.Native.Nat.{ℕ}
use native.Mathlib.Omega.{arith}
use lib.ListN.{length, get_or, drop}
use Rattle.loan_charge.specs.CreditFactor.{rates_of_lem}
use Rattle.book_model.specs.Calls.{Closed, State, Answer, Sound, terms_in, closing, closed, closing_cells, closed_cells}
use Rattle.book_model.specs.Demand2.{CountsReached}
use Rattle.book_model.specs.GivenState.{state_given}
use Rattle.book_model.specs.History.{History, sheet_of, terms_of, accepted_of}
use Rattle.book_model.specs.Joining.{added_header_lem, SameFactors, joined_state, joining, one_book, joined, LinesOfBoth, JoinedBooks}
use Rattle.book_model.specs.JoiningLaws.{joined_to, ChangesNothing, OnlyIndexLines, Grouping, alone as one-alone, together as both-together, AllSound}
use Rattle.book_model.specs.Marks.{no_marks}
use Rattle.book_model.specs.Terms.{under}
use Rattle.book_model.proofs.Joining.{number, joining-holds}
use Rattle.book_model.proofs.JoiningLaws.{joining_laws}
use Rattle.histories.specs.Given.{CloseCall, CellsCall, JoinCall, Given, by_joining}
use Rattle.histories.specs.Joinings.{JoinedCall, CallsJoining, GroupedCalls, alone, together, CallsJoiningLaws}
use Rattle.histories.proofs.Demands.{joined_by, given-opened, joined-books, given, sound, under-sheet, closed-by, cells-by}

-- a joining that was not refused of books that calls gave, by their histories
module _ {h k : History} {s u : State} {a : Answer} (j : JoinedCall h k s u a) where
  made : a ≡ joining s u
  made = joined_by j.call

  after : a.state ≡ joined_state s u
  after = ap (λ (r : Answer). r.state) made ∙ joining-holds.joins s u (sym (number made) ∙ j.joins)

  books : JoinedBooks h k
  books = joined-books (given-opened j.first) (given-opened j.second) j.call j.joins

  -- the terms of a history are those of its state
  terms : terms_of (joined h k) ≡ under (added_header_lem s.book.header u.book.header) s.rates
  terms = sym (ap terms_in (given (by_joining j.first j.second a j.call j.joins))) ∙ ap terms_in after

  reached : CountsReached a.state.book.header a.state.book.sums.counts ↔
      (CountsReached s.book.header s.book.sums.counts × CountsReached u.book.header u.book.sums.counts)
  reached = rw after (joining-holds.reached s u (sound j.first) (sound j.second))

  one-book : {first rest : List (List ℕ)} → LinesOfBoth h k first rest → {v : State} → Given (one_book h k (first ++ rest)) v → a.state ≡ v
  one-book l o =
      ap (λ (r : Answer). r.state) (made ∙ ap₂ joining (given-opened j.first).0 (given-opened j.second).0)
      ∙ joining-holds.as_one_book books l ∙ sym (given-opened o).0

-- sheets with the same rates are the same
same-sheets : (xs ys : List ℕ) → rates_of_lem xs ≡ rates_of_lem ys → xs ≡ ys
same-sheets [] [] e = refl
same-sheets [] (y ∷ ys) e = absurd (omega (arith, ap length e))
same-sheets (x ∷ xs) [] e = absurd (omega (arith, ap length e))
same-sheets (x ∷ xs) (y ∷ ys) e =
    let head : x ≡ y = omega (arith, ap (λ (l : List ℕ). get_or l 0 0) e) in
    ap₂ (λ (n : ℕ) (l : List ℕ). n ∷ l) head (same-sheets xs ys (ap (drop 1) e))

same_factors : {h k : History} {s u : State} → Given h s → Given k u → SameFactors s u ↔ (sheet_of h ≡ sheet_of k)
same_factors {h} {k} g f =
    let (_, x) = under-sheet g in
    let (_, y) = under-sheet f in
    (λ e. same-sheets (sheet_of h) (sheet_of k) (sym x ∙ e ∙ y), λ e. x ∙ ap rates_of_lem e ∙ sym y)

-- equal books are closed alike
closes-alike : {s v : State} → s ≡ v → {buffer after other : List ℕ} {r q : Closed} → CloseCall s.book buffer r after →
    CloseCall v.book buffer q other → (r ≡ q) × (after ≡ other)
closes-alike e {buffer} c d =
    let (x, y) = closed-by c in
    let (z, w) = closed-by d in
    (x ∙ ap (λ (s : State). closing s.book (length buffer)) e ∙ sym z, y ∙ ap (λ (s : State). closed s.book buffer) e ∙ sym w)

cells-alike : {s v : State} → s ≡ v → {buffer after other : List ℕ} {r q : Closed} → CellsCall s.book s.cells buffer r after →
    CellsCall v.book v.cells buffer q other → (r ≡ q) × (after ≡ other)
cells-alike e {buffer} c d =
    let (x, y) = cells-by c in
    let (z, w) = cells-by d in (
      x ∙ ap (λ (s : State). closing_cells s.book s.cells (length buffer)) e ∙ sym z,
      y ∙ ap (λ (s : State). closed_cells s.book s.cells buffer) e ∙ sym w,
    )

pub calls-joining : CallsJoining
calls-joining = record {
  answers = λ {h} {k} {s} {u} g f {a} c. rw (joined_by c) (joining-holds.answers s u (sound g) (sound f));
  same_factors = same_factors;
  refused = λ {s} {u} {a} c n. joined_by c ∙ joining-holds.refused s u (λ z. n (number (joined_by c) ∙ z));
  joins = λ {s} {u} {a} c e.
      ap (λ (r : Answer). r.state) (joined_by c) ∙ joining-holds.joins s u (sym (number (joined_by c)) ∙ e);
  reached = λ j. reached j;
  terms = λ j. terms j;
  taken = λ j. joining-holds.taken (books j);
  as_one_book = λ j l o. one-book j l o;
  closes = λ j l o x y. closes-alike (one-book j l o) x y;
  closes_cells = λ j l o x y. cells-alike (one-book j l o) x y;
}

-- Joining in any grouping

-- a book that changes nothing, by the calls that gave it
changes-nothing : {h k : History} {s z : State} → Given h s → Given k z → OnlyIndexLines h k → ChangesNothing s z
changes-nothing {h} {k} {s} {z} g f n =
    let (p, o) = given-opened g in
    let (q, e) = given-opened f in
    subst (λ (x : State). ChangesNothing x z) (sym p) (subst (ChangesNothing (state_given h)) (sym q) (joining_laws.neutral_lines o e n))

-- from either side
either_side : {s z : State} {a b : Answer} → (joining s z ≡ b) × (joining z s ≡ b) → JoinCall s z a ⊎ JoinCall z s a → a ≡ b
either_side (x, y) c = ⊎_elim (λ d. joined_by d ∙ x) (λ d. joined_by d ∙ y) c

neutral : {h k : History} {s z : State} → Given h s → Given k z → OnlyIndexLines h k → (accepted_of h).notes ≡ [] → {a : Answer} →
    JoinCall s z a ⊎ JoinCall z s a → a ≡ joined_to s
neutral {h} {k} {s} {z} g f n m c =
    let e : s.marks ≡ no_marks = ap (λ (x : State). x.marks) (given-opened g).0 ∙ joining_laws.unmarked h m in
    either_side (joining_laws.neutral s z (sound g) (sound f) e (changes-nothing g f n)) c

grouped : {s u v : State} {su suv uv both : Answer} → JoinCall s u su → su.refusal ≡ 0 → JoinCall su.state v suv → suv.refusal ≡ 0 →
    JoinCall u v uv → uv.refusal ≡ 0 → JoinCall s uv.state both → both.refusal ≡ 0 → suv ≡ both
grouped {s} {u} {v} {su} {suv} {uv} {both} c z d y f x i w =
    let a : su ≡ joining s u = joined_by c in
    let b : uv ≡ joining u v = joined_by f in
    let p : suv ≡ joining (joining s u).state v = joined_by d ∙ ap (λ (r : Answer). joining r.state v) a in
    let q : both ≡ joining s (joining u v).state = joined_by i ∙ ap (λ (r : Answer). joining s r.state) b in
    p ∙ joining_laws.grouped s u v (sym (number a) ∙ z) (sym (number p) ∙ y) (sym (number b) ∙ x) (sym (number q) ∙ w) ∙ sym q

-- the same way over the definitions, of sound books
all_sound : {xs : List State} {s : State} → GroupedCalls xs s → AllSound xs
all_sound (alone {h} {s} g) u m = subst Sound (sym (Memᴰ.eq_of_singleton m)) (sound g)
all_sound (together {xs} {ys} g f c z) u m = ⊎_elim (λ k. all_sound g u k) (λ k. all_sound f u k) (Memᴰ.append_cases xs m)

grouping : {xs : List State} {s : State} → GroupedCalls xs s → Grouping xs s
grouping (alone {h} {s} g) = one-alone s
grouping (together {xs} {ys} {s} {u} g f {a} c z) =
    subst (λ (r : Answer). Grouping (xs ++ ys) r.state) (sym (joined_by c)) (both-together (grouping g) (grouping f) (sym (number (joined_by c)) ∙ z))

any_grouping : {xs ys : List State} {s u : State} → GroupedCalls xs s → GroupedCalls ys u → Permᴰ xs ys → s ≡ u
any_grouping g f p = joining_laws.any_grouping (all_sound g) p (grouping g) (grouping f)

pub calls-joining-laws : CallsJoiningLaws
calls-joining-laws = record {
  commutes = λ {h} {k} {s} {u} g f c d. joined_by c ∙ joining_laws.commutes s u (sound g) (sound f) ∙ sym (joined_by d);
  neutral = neutral;
  neutral_marked = λ {h} {k} {s} {z} g f n c. either_side (joining_laws.neutral_marked s z (sound g) (sound f) (changes-nothing g f n)) c;
  neutral_made = λ g p. joining_laws.neutral_made (given-opened g).1 p;
  grouped = grouped;
  any_grouping = any_grouping;
  closes = λ g f p x y. closes-alike (any_grouping g f p) x y;
  closes_cells = λ g f p x y. cells-alike (any_grouping g f p) x y;
  unscored_first = λ before u after g p o f c. number (joined_by c) ∙ joining_laws.unscored_first before u after (all_sound g) (grouping g) p o (grouping f);
}
