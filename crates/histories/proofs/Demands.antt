-- Demands 1 to 3 of the calls, and requests L1 and L3 to L6, from the theorems about the definitions that their contracts cite. Assumes nothing.
use mathlib.Core.Path.{◌≡◌, refl, sym, ◌∙◌, ap, ap₂, subst}
use mathlib.Core.Bool.{Bool, true, false}
use mathlib.Core.List.Memᴰ
use mathlib.Core.List.{List, [], ◌∷◌, Memᴰ}
use Prim.Native.Nat.{ℕ, ◌≤◌}
use lib.Dec.{eqb}
use lib.ListN.{length, take}
use borrow.Author.Tests.{eqb-true, eqb-false}
use Rattle.loan_charge.specs.CreditFactor.{built_in_sheet, rates_of_lem}
use Rattle.sheet.specs.Sheet.{SheetRules}
use Rattle.line_forms.specs.declared.Header.{Header}
use Rattle.report.specs.Line.{onto}
use Rattle.book_model.specs.declared.Book.{Book}
use Rattle.book_model.specs.Accepted.{Accepted, counts_in, refusal_of}
use Rattle.book_model.specs.Calls.{State, Answer, Closed, state_at, terms_in, opening, feeding, closing, closed, closing_cells, SoundBook, Sound}
use Rattle.book_model.specs.Calls.{report_size, cells_size, closed_cells}
use Rattle.book_model.specs.Demand2.{IsReturn}
use Rattle.book_model.specs.Demand3.{Writes, Closes, SameTexts, SameReports}
use Rattle.book_model.specs.FreshScores.{CountsKept, CountsMet}
use Rattle.book_model.specs.History.{History, fed, all_fed, header_line, sheet_of, terms_of, accepted_of, lines_taken}
use Rattle.book_model.specs.LoanTable.{WritesCells, SameTables}
use Rattle.book_model.specs.GivenState.{state_given, IsOpened}
use Rattle.book_model.specs.Joining.{may_join_lem, joining, JoinedBooks}
use Rattle.book_model.specs.HouseIndex.{InTable, values_in, values_at}
use Rattle.book_model.specs.Marks.{no_marks, names_in}
use Rattle.book_model.specs.Standing.{SameBook}
use Rattle.book_model.specs.Terms.{Terms, basis_of, under}
use Rattle.book_model.proofs.AdjustedValues.{adjusted_values}
use Rattle.book_model.proofs.Alone.{alone, alone-state}
use Rattle.book_model.proofs.AsOneBook.{state-given, sheet-of}
use Rattle.book_model.proofs.Demand1.{demand1}
use Rattle.book_model.proofs.Demand2.{openings, feeding-answer, closing-answer}
use Rattle.book_model.proofs.Demand3.{terms-in-range, closes-of, measured-of, same-reports}
use Rattle.book_model.proofs.FreshScores.{taken-sound, fresh_scores}
use Rattle.book_model.proofs.Joining.{joining-holds, without-marks-sound}
use Rattle.book_model.proofs.LoanTable.{cell-is, cell-sums, cells-written, same_tables}
use Rattle.book_model.proofs.IndexTables.{values-are}
use Rattle.book_model.proofs.Ledger.{ledger-of, good_of}
use Rattle.book_model.proofs.SetValues.{not_set}
use Rattle.book_model.proofs.Standing.{standing, marks, returned-to, line-fed}
use Rattle.book_model.proofs.Steps.{state_of, names-are}
use Rattle.histories.specs.Demands.{CallsDemand1, CallsDemand2, CallsDemand3, CallsLoanTable, CallsOwnFactors, CallsAdjustedValues}
use Rattle.histories.specs.Demands.{CallsFreshScores, CallsStanding}
use Rattle.histories.specs.Given.{OpeningCall, by_open, by_open_sheet, FeedingCall, by_feed, by_feed_with, CloseCall, CellsCall}
use Rattle.histories.specs.Given.{JoinCall, Given, by_opening, by_feeding, by_joining}
use Rattle.histories.specs.Asked.{CallsAsked}

-- What each call gave, by its contract

opened-by : {sheet line : List ℕ} {a : Answer} → OpeningCall sheet line a → a ≡ opening sheet line
opened-by (by_open c) = sym c.gave ∙ c.learnt.0 ∙ ap (opening built_in_sheet) c.lent
opened-by (by_open_sheet c) = sym c.gave ∙ c.learnt.0 ∙ ap₂ opening c.factors c.lent

fed_by : {s : State} {line : List ℕ} {a : Answer} → FeedingCall s line a → a ≡ feeding s line
fed_by (by_feed c) = sym c.gave ∙ c.learnt.0 ∙ ap₂ feeding c.handed c.lent
fed_by (by_feed_with c) = sym c.gave ∙ c.learnt.0 ∙ ap₂ feeding c.handed c.lent

pub closed-by : {b : Book} {buffer after : List ℕ} {r : Closed} → CloseCall b buffer r after → (r ≡ closing b (length buffer)) × (after ≡ closed b buffer)
closed-by c = (
  sym c.gave ∙ c.learnt.0 ∙ ap₂ (λ (x : Book) (l : List ℕ). closing x (length l)) c.handed c.lent,
  sym c.left ∙ c.learnt.1 ∙ ap₂ (λ (x : Book) (l : List ℕ). closed x l) c.handed c.lent,
)

pub cells-by : {b : Book} {cells buffer after : List ℕ} {r : Closed} → CellsCall b cells buffer r after → (r ≡ closing_cells b cells (length buffer))
    × (after ≡ closed_cells b cells buffer)
cells-by c = (
  sym c.gave ∙ c.learnt.0 ∙ (λ i. closing_cells (c.handed i) (c.table i) (length (c.lent i))),
  sym c.left ∙ c.learnt.1 ∙ (λ i. closed_cells (c.handed i) (c.table i) (c.lent i)),
)

-- joining does not look at marks
marks-unseen : (a b : State) → joining (state_at a.book a.rates a.cells a.index no_marks) (state_at b.book b.rates b.cells b.index no_marks) ≡
    joining a b
unfolding joining may_join_lem
marks-unseen a b = refl

pub joined_by : {s u : State} {a : Answer} → JoinCall s u a → a ≡ joining s u
joined_by {s} {u} c =
    sym c.gave ∙ c.learnt.0
    ∙ ap₂ (λ (a b : State). joining (state_at a.book a.rates a.cells a.index no_marks) (state_at b.book b.rates b.cells b.index no_marks))
    c.first c.second
    ∙ marks-unseen s u

-- the states of two opened histories whose joining was not refused
pub joined-books : {h k : History} {s u : State} → (s ≡ state_given h) × IsOpened h → (u ≡ state_given k) × IsOpened k → {a : Answer} → JoinCall s u a →
    a.refusal ≡ 0 → JoinedBooks h k
joined-books (x, o) (y, p) c e =
    record { first = o; second = p; joins = sym (ap (λ (r : Answer). r.refusal) (joined_by c ∙ ap₂ joining x y)) ∙ e }

-- The state that the calls gave is that of their history, whose opening was not refused.
pub given-opened : {h : History} {s : State} → Given h s → (s ≡ state_given h) × IsOpened h
unfolding state_given sheet_of header_line
given-opened (by_opening sheet line a c e) =
    (ap (λ (x : Answer). x.state) (opened-by c), sym (ap (λ (x : Answer). x.refusal) (opened-by c)) ∙ e)
given-opened (by_feeding {h} {s} g line a c) =
    let (f, o) = given-opened g in
    (ap (λ (x : Answer). x.state) (fed_by c) ∙ ap (λ (x : State). (feeding x line).state) f, o)
given-opened (by_joining {h} {k} {s} {u} g f a c e) =
    let (x, o) = given-opened g in
    let (y, p) = given-opened f in
    let same : a ≡ joining (state_given h) (state_given k) = joined_by c ∙ ap₂ joining x y in
    let j : JoinedBooks h k = joined-books (x, o) (y, p) c e in
    (ap (λ (r : Answer). r.state) same ∙ joining-holds.counts_as j, joining-holds.opens j)

opens : {h : History} {s : State} → Given h s → (opening (sheet_of h) (header_line h)).refusal ≡ 0
opens g = (given-opened g).1

-- The state that the calls gave is that of the lines taken.
pub given : {h : History} {s : State} → Given h s → s ≡ state_of (terms_of h) (accepted_of h)
given {h} g = (given-opened g).0 ∙ state-given h

closes : {h : History} {s : State} → Given h s → Closes (terms_of h) (accepted_of h) s
closes {h} g = rw (given g) (closes-of (terms_of h) (accepted_of h) (ledger-of h))

closes_cells : {h : History} {s : State} → Given h s → WritesCells (terms_of h) (accepted_of h) s
closes_cells {h} g = rw (given g) (cells-written (terms_of h) (accepted_of h))

pub sound : {h : History} {s : State} → Given h s → Sound s
sound {h} g = subst Sound (sym (given g)) (taken-sound h)

joining_numbers : {s u : State} {a : Answer} → JoinCall s u a → Memᴰ a.refusal (0 ∷ 16 ∷ [])
joining_numbers {s} {u} {a} c = go (eqb a.refusal 0) refl
  where
    go : (t : Bool) → eqb a.refusal 0 ≡ t → Memᴰ a.refusal (0 ∷ 16 ∷ [])
    go true e = Memᴰ.head (eqb-true a.refusal 0 e)
    go false e = Memᴰ.tail (Memᴰ.head (ap (λ (r : Answer). r.refusal)
        (joined_by c ∙ joining-holds.refused s u (λ z. eqb-false a.refusal 0 e (ap (λ (r : Answer). r.refusal) (joined_by c) ∙ z)))))

pub calls-demand1 : CallsDemand1
calls-demand1 = record {
  opening_numbers = λ {sheet} {line} {a} c. rw (opened-by c) (demand1.opening_numbers sheet line);
  feeding_numbers = λ {s} {line} {a} c. rw (fed_by c) (demand1.feeding_numbers s line);
  joining_numbers = joining_numbers;
  closing_numbers = λ {b} {buffer} {after} {r} c. rw (closed-by c).0 (demand1.closing_numbers b (length buffer));
  cells_numbers = λ {b} {cells} {buffer} {after} {r} c. rw (cells-by c).0 (demand1.cells_numbers b cells (length buffer));
  refused_opening = λ {sheet} {line} {a} c n.
      ap (λ (x : Answer). x.state) (opened-by c) ∙ demand1.refused_opening sheet line (λ z. n (ap (λ (x : Answer). x.refusal) (opened-by c) ∙ z));
  refused_feeding = λ {s} {line} {a} c n.
      ap (λ (x : Answer). x.state) (fed_by c) ∙ demand1.refused_feeding s line (λ z. n (ap (λ (x : Answer). x.refusal) (fed_by c) ∙ z));
  refused_closing = λ {b} {buffer} {after} {r} c n.
      (closed-by c).1 ∙ demand1.refused_closing b buffer (λ z. n (ap (λ (x : Closed). x.refusal) (closed-by c).0 ∙ z));
  refused_cells = λ {b} {cells} {buffer} {after} {r} c n.
      (cells-by c).1 ∙ demand1.refused_cells b cells buffer (λ z. n (ap (λ (x : Closed). x.refusal) (cells-by c).0 ∙ z));
  sound = sound;
}

-- the number that a call gave
fed-number : {s : State} {line : List ℕ} {a : Answer} → FeedingCall s line a → a.refusal ≡ (feeding s line).refusal
fed-number c = ap (λ (x : Answer). x.refusal) (fed_by c)

closed-number : {b : Book} {buffer after : List ℕ} {r : Closed} → CloseCall b buffer r after → r.refusal ≡ (closing b (length buffer)).refusal
closed-number c = ap (λ (x : Closed). x.refusal) (closed-by c).0

cells-number : {b : Book} {cells buffer after : List ℕ} {r : Closed} → CellsCall b cells buffer r after →
    r.refusal ≡ (closing_cells b cells (length buffer)).refusal
cells-number c = ap (λ (x : Closed). x.refusal) (cells-by c).0

pub calls-demand2 : CallsDemand2
calls-demand2 = record {
  openings = λ {sheet} {line} {a} c. rw (opened-by c) (openings sheet line);
  feedings = λ {h} {s} g {line} {a} c. rw (fed-number c ∙ (closes g).answers line) (feeding-answer (terms_of h) (accepted_of h) line);
  closings = λ {h} {s} g {buffer} {after} {r} c. rw (closed-number c
      ∙ (closes g).report.refusal (length buffer)) (closing-answer report_size (terms_of h) (accepted_of h) (length buffer));
  cells_closings = λ {h} {s} g {buffer} {after} {r} c. rw (cells-number c
      ∙ (closes_cells g).refusal (length buffer)) (closing-answer cells_size (terms_of h) (accepted_of h) (length buffer));
}

-- What a closing by a call wrote: r and `after` are its answer and the buffer as it left it.
written-by : {least : ℕ} {t : Terms} {a : Accepted} {text : List ℕ} {answer : ℕ → Closed} {left : List ℕ → List ℕ} → Writes least t a text answer left →
    {buffer after : List ℕ} {r : Closed} → (r ≡ answer (length buffer)) × (after ≡ left buffer) → r.refusal ≡ 0 →
    (after ≡ onto buffer text) × (r.length ≡ length text)
written-by w {buffer} (e, f) z =
    let n = sym (ap (λ (x : Closed). x.refusal) e) ∙ z in
    (f ∙ w.written buffer n, ap (λ (x : Closed). x.length) e ∙ w.told (length buffer) n)

-- and that two of them wrote the same
same_by : (answer other : ℕ → Closed) (left left_other : List ℕ → List ℕ) → SameTexts answer left other left_other →
    (x y : List ℕ) {after-x after-y : List ℕ} {r q : Closed} → (r ≡ answer (length x)) × (after-x ≡ left x) →
    (q ≡ other (length y)) × (after-y ≡ left_other y) →
    r.refusal ≡ 0 → q.refusal ≡ 0 → (r.length ≡ q.length) × (take r.length after-x ≡ take q.length after-y)
same_by answer other left left_other t x y (e, f) (g, h) z w =
    rw (e, g, f, h) (t x y (sym (ap (λ (c : Closed). c.refusal) e) ∙ z) (sym (ap (λ (c : Closed). c.refusal) g) ∙ w))

-- two states under equal terms
same-terms : (h : History) {k : History} {u : State} → Given k u → terms_of h ≡ terms_of k → u ≡ state_of (terms_of h) (accepted_of k)
same-terms h {k} f e = given f ∙ ap (λ (t : Terms). state_of t (accepted_of k)) (sym e)

pub calls-demand3 : CallsDemand3
calls-demand3 = record {
  takes = λ {h} {s} g {line} {a} c. rw (fed-number c) ((closes g).taken line);
  leaves = λ {h} {s} g {line} {a} c n. (closes g).left line (λ z. n (fed-number c ∙ z));
  writes = λ {h} {s} g {buffer} {after} {r} c e. written-by (closes g).report (closed-by c) e;
  measured = λ {h} {s} g. measured-of (terms_of h) (terms-in-range h) (lines_taken h) (good_of h);
  alike = λ {h} {k} {s} {u} g f e p {x} {y} {after-x} {after-y} {r} {q} c d z w.
      let t : SameReports s.book u.book = rw (given g, same-terms h f e) (same-reports (terms_of h) p) in
      same_by (closing s.book) (closing u.book) (closed s.book) (closed u.book) t x y (closed-by c) (closed-by d) z w;
}

pub calls-loan-table : CallsLoanTable
calls-loan-table = record {
  cells = λ {h} {s} g. rw (given g) (cell-is (basis_of (terms_of h) (lines_taken h)) (lines_taken h));
  sums = λ {h} {s} g. cell-sums (terms_of h) (lines_taken h);
  writes = λ {h} {s} g {buffer} {after} {r} c e. written-by (closes_cells g) (cells-by c) e;
  alike = λ {h} {k} {s} {u} g f e p {x} {y} {after-x} {after-y} {r} {q} c d z w.
      let t : SameTables s u = rw (given g, same-terms h f e) (same_tables (terms_of h) (accepted_of h) (accepted_of k) p) in
      same_by (closing_cells s.book s.cells) (closing_cells u.book u.cells) (closed_cells s.book s.cells) (closed_cells u.book u.cells) t
      x y (cells-by c) (cells-by d) z w;
}

-- the sheet, which every feeding and joining leaves
pub under-sheet : {h : History} {s : State} → Given h s → SheetRules (sheet_of h) × (s.rates ≡ rates_of_lem (sheet_of h))
under-sheet {h} g =
    let (r, k) = sheet-of h (opens g) in
    (r, ap (λ (x : State). x.rates) (given g) ∙ k)

terms-given : {h : History} {s : State} → Given h s → terms_of h ≡ terms_in s
terms-given g = sym (ap terms_in (given g))

pub calls-own-factors : CallsOwnFactors
calls-own-factors = record {
  without = λ c d. opened-by (by_open c) ∙ sym (opened-by (by_open_sheet d));
  rules = λ g. (under-sheet g).0;
  keeps = λ g. (under-sheet g).1;
  terms = λ {h} {s} g. terms-given g ∙ ap (under s.book.header) (under-sheet g).1;
}

-- the table has the values that the lines taken set
table_is : {h : History} {s : State} → Given h s → (area month : ℕ) → InTable area month → values_at s.index area month ≡ values_in (lines_taken h) area month
table_is {h} g area month k = ap (λ (x : State). values_at x.index area month) (given g) ∙ values-are (lines_taken h) area month k

-- one feeding leaves a value that is set
stays : (h : History) (line : List ℕ) → (IsReturn line → ⊥) → (area month : ℕ) → 1 ≤ values_in (lines_taken h) area month →
    values_in (lines_taken (fed h line)) area month ≡ values_in (lines_taken h) area month
unfolding all_fed
stays h line n = adjusted_values.stays h (line ∷ []) (λ s m. only m)
  where
    only : {s : List ℕ} → Memᴰ s (line ∷ []) → IsReturn s → ⊥
    only (Memᴰ.head e) r = n (subst IsReturn e r)
    only (Memᴰ.tail m) r = Memᴰ.not-nil m

pub calls-adjusted-values : CallsAdjustedValues
calls-adjusted-values = record {
  set = λ {h} {s} g area month value k. rw (table_is g area month k) (adjusted_values.values h area month value);
  unset = λ {h} {s} g area month k. rw (table_is g area month k) (not_set (lines_taken h) area month);
  stays = λ {h} {s} g {line} {a} c r area month k n.
      let before = table_is g area month k in
      table_is (by_feeding g line a c) area month k ∙ stays h line r area month (rw before at n) ∙ sym before;
  settled = λ {h} {s} g. adjusted_values.settled h;
}

-- the header of a state is the one its history was opened under
header-given : {h : History} {s : State} → Given h s → (terms_of h).header ≡ s.book.header
header-given g = ap (λ (t : Terms). t.header) (terms-given g)

met-given : {h : History} {s : State} → Given h s → {buffer after : List ℕ} {r : Closed} → CloseCall s.book buffer r after → r.refusal ≡ 0 →
    CountsMet (terms_of h).header (counts_in (lines_taken h))
met-given {h} g c e = fresh_scores.met h ((calls-demand2.closings g c).writes.0 e).0

pub calls-fresh-scores : CallsFreshScores
calls-fresh-scores = record {
  kept = λ {h} {s} g. subst (λ (x : Header). CountsKept x (counts_in (lines_taken h))) (header-given g) (fresh_scores.kept h);
  met = λ {h} {s} g c e. subst (λ (x : Header). CountsMet x (counts_in (lines_taken h))) (header-given g) (met-given g c e);
  cells_met = λ {h} {s} g c e. subst (λ (x : Header). CountsMet x (counts_in (lines_taken h))) (header-given g)
      (fresh_scores.met h ((calls-demand2.cells_closings g c).writes.0 e).0);
  first_column = λ {h} {s} g c e l number age.
      let (a, b, f) = met-given g c e in
      rw (calls-own-factors.terms g, sym (header-given g))
      (fresh_scores.first_column (sheet_of h) (under-sheet g).0 (terms_of h).header (rw (a, f) at l) number age);
  aged_table = λ {h} {s} g c e l number age.
      let (a, b, f) = met-given g c e in
      rw (calls-own-factors.terms g, sym (header-given g))
      (fresh_scores.aged_table (sheet_of h) (under-sheet g).0 (terms_of h).header (rw (a, f) at l) number age);
  one_header = λ {h} {k} {s} {u} g f e p c d z w.
      fresh_scores.one_header h k (opens g) (opens f) (ap (λ (x : Header). x.held) (header-given g) ∙ e ∙ sym (ap (λ (x : Header). x.held) (header-given f)))
      p ((calls-demand2.closings g c).writes.0 z).0 ((calls-demand2.closings f d).writes.0 w).0;
}

pub calls-standing : CallsStanding
calls-standing = record {
  names = λ {h} {s} g. ap (λ (x : State). names_in x.marks) (given g) ∙ names-are (terms_of h) (accepted_of h).notes;
  most = λ {h} {s} g. standing.most h;
  alone = λ {h} {k} {s} {u} g f e.
      (ap lines_taken e ∙ ap (λ (a : Accepted). a.kept) (alone h), rw (given f, given g, e) (alone-state h));
  marks = λ {s} {line} {a} c name m. subst (λ (x : Answer). SameBook x.state s) (sym (fed_by c)) (marks s line name m);
  again = λ {h} {k} {s} {u} g {line} {a} c e name m f t more n {back} {b} r d.
      let gave : a ≡ record { refusal = refusal_of (terms_of h) (accepted_of h) line; state = state_of (terms_of h) (accepted_of (fed h line)) } =
      fed_by c ∙ ap (λ (x : State). feeding x line) (given g) ∙ line-fed h line in
      let zero = sym (ap (λ (x : Answer). x.refusal) gave) ∙ e in
      let back-gave = fed_by d ∙ ap (λ (x : State). feeding x back) (given f) ∙ returned-to h k line back name more t m r zero n in
      (ap (λ (x : Answer). x.refusal) back-gave, ap (λ (x : Answer). x.state) back-gave ∙ sym (ap (λ (x : Answer). x.state) gave));
}

pub calls-asked : CallsAsked
calls-asked = record {
  opening = λ lifetimes args. tt;
  opening_sheet = λ lifetimes args. tt;
  closing_cells_law = λ lifetimes args. tt;
  feeding = λ g lifetimes args e. subst Sound (sym e) (sound g);
  feeding_with = λ g lifetimes args e f. (subst Sound (sym e) (sound g), f);
  joining = λ g f lifetimes args d e. (without-marks-sound (subst Sound (sym d) (sound g)), without-marks-sound (subst Sound (sym e) (sound f)));
  closing = λ g lifetimes args e. subst SoundBook (sym e) (sound g).book;
}
