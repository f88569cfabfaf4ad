-- Joining in any grouping. Assumes nothing.
use mathlib.Core.Path.{◌≡◌, refl, sym, ◌∙◌, ap, subst}
use mathlib.Core.Bool.{Bool, true, false, true≢false}
use mathlib.Core.List.{List, []}
use Prim.Native.Nat.{ℕ}
use native.Mathlib.Omega.{arith}
use Rattle.line_forms.specs.declared.Header.{Header}
use Rattle.figures.specs.declared.Sums.{Sums}
use Rattle.loan_charge.specs.CreditFactor.{rates_of_lem}
use Rattle.cell_report.specs.CellReport.{place_of}
use Rattle.book_model.specs.Calls.{State, Sound}
use Rattle.book_model.specs.Cells.{empty_cells, loan_band, loan_ltv, loan_cell}
use Rattle.book_model.specs.GivenState.{state_given, IsOpened}
use Rattle.book_model.specs.History.{History, sheet_of, terms_of, accepted_of, lines_taken}
use Rattle.book_model.specs.Joining.{added_header_lem, joined_header, KeepsChoices, MayJoin, may_join_lem, joined_state, joining, other_lines}
use Rattle.book_model.specs.JoiningLaws.{joined_to, without_marks, ChangesNothing, OnlyIndexLines, JoiningLaws}
use Rattle.book_model.specs.LineKinds.{sum_by}
use Rattle.book_model.specs.Marks.{no_marks}
use Rattle.book_model.specs.Terms.{Terms, Basis, basis_of, zero_header}
use Rattle.book_model.proofs.AsOneBook.{state-given, sheet-of}
use Rattle.book_model.proofs.EmptyBook.{no-sums, neutral_made}
use Rattle.book_model.proofs.Groupings.{any_grouping}
use Rattle.book_model.proofs.JoinedParts.{keeps-own, header-comm, header-zero, same_count, state-comm, state-assoc}
use Rattle.book_model.proofs.JoinedParts.{state-none, no-marks, joined_is, joined-state}
use Rattle.book_model.proofs.Joining.{may-forth, may-back, joined-when, refused-when}
use Rattle.book_model.proofs.JoiningOrder.{unscored_first}
use Rattle.book_model.proofs.SplitLines.{sum-split, index-nothing}
use Rattle.book_model.proofs.Steps.{marks_of, no-notes}
use Rattle.book_model.proofs.Tables.{tabulate, placed, placed_by, cells_of, zeros-tabulated}

-- Joining commutes

turned : (a b : State) → Sound a → Sound b → MayJoin a b → MayJoin b a
turned a b x y c = record {
  factors = sym c.factors;
  index = sym c.index;
  loans = omega (arith, c.loans);
  held = omega (arith, c.held);
  lines = omega (arith, c.lines, same_count x y c.index);
  first = subst (KeepsChoices b.book.header) (header-comm a.book.header b.book.header) c.second;
  second = subst (KeepsChoices a.book.header) (header-comm a.book.header b.book.header) c.first;
}

commutes : (a b : State) → Sound a → Sound b → joining a b ≡ joining b a
commutes a b x y = go (may_join_lem a b) refl (may_join_lem b a) refl
  where
    same : MayJoin a b → joined_state a b ≡ joined_state b a
    same c = state-comm {a = a} {b = b} (record { factors = c.factors; index = c.index; indexed = same_count x y c.index })

    go : (t : Bool) → may_join_lem a b ≡ t → (u : Bool) → may_join_lem b a ≡ u → joining a b ≡ joining b a
    go true e true f = joined-when a b e ∙ ap (λ (s : State). joined_to s) (same (may-forth a b x y e)) ∙ sym (joined-when b a f)
    go true e false f = absurd (true≢false (sym (may-back b a y x (turned a b x y (may-forth a b x y e))) ∙ f))
    go false e true f = absurd (true≢false (sym (may-back a b x y (turned b a y x (may-forth b a y x f))) ∙ e))
    go false e false f = refused-when a b e ∙ sym (refused-when b a f)

-- A book that changes nothing

keeps-none : (h : Header) → KeepsChoices zero_header h
keeps-none h = record { column = λ l. absurd (omega (arith, l)); factor = λ l u. absurd (omega (arith, l)) }

module _ (a z : State) (x : Sound a) (y : Sound z) (n : ChangesNothing a z) where
  header-same : joined_header a z ≡ a.book.header
  header-same = ap (added_header_lem a.book.header) n.header ∙ header-zero a.book.header

  may-neutral : MayJoin a z
  may-neutral = record {
    factors = n.factors;
    index = n.index;
    loans = omega (arith, x.book.header_loans, ap (λ (h : Header). h.loans) header-same);
    held = omega (arith, x.book.held, ap (λ (h : Header). h.held) header-same);
    lines = omega (arith, x.book.other, ap (λ (s : Sums). s.counts.other) n.sums);
    first = subst (KeepsChoices a.book.header) (sym header-same) (keeps-own a.book.header);
    second = subst (λ (h : Header). KeepsChoices h (joined_header a z)) (sym n.header) (keeps-none (joined_header a z));
  }

  neutral_marked : (joining a z ≡ joined_to (without_marks a)) × (joining z a ≡ joined_to (without_marks a))
  neutral_marked =
      let e : joining a z ≡ joined_to (without_marks a) =
      joined-when a z (may-back a z x y may-neutral) ∙ ap (λ (s : State). joined_to s) (state-none a z x.cells_size_law n.header n.sums n.cells) in
      (e, commutes z a y x ∙ e)

  neutral : a.marks ≡ no_marks → (joining a z ≡ joined_to a) × (joining z a ≡ joined_to a)
  neutral m =
      let e : joined_to (without_marks a) ≡ joined_to a = ap (λ (s : State). joined_to s) (no-marks a m) in
      (neutral_marked.0 ∙ e, neutral_marked.1 ∙ e)

-- lines of which all are index lines add nothing to the cells
module _ (t : Terms) (kept : List (List ℕ)) (e : other_lines kept ≡ []) where
  no_loans : (g : Basis) (i : ℕ) → sum_by (placed_by g i) kept ≡ 0
  unfolding placed_by sum_by
  no_loans g i = omega (
    arith,
    sum-split (placed_by g i) kept,
    index-nothing (λ l. placed i (place_of (loan_band l) (loan_ltv g.index l)) (loan_cell g l)) kept,
    ap (sum_by (placed_by g i)) e,
  )

  no_cells : (g : Basis) → cells_of g kept ≡ empty_cells
  unfolding cells_of empty_cells
  no_cells g = ap (tabulate 240 0) (λ j i. no_loans g i j) ∙ sym (zeros-tabulated 240 0)

rates-given : (h : History) → IsOpened h → (state_given h).rates ≡ rates_of_lem (sheet_of h)
rates-given h o = ap (λ (s : State). s.rates) (state-given h) ∙ (sheet-of h o).1

neutral_lines : {h k : History} → IsOpened h → IsOpened k → OnlyIndexLines h k → ChangesNothing (state_given h) (state_given k)
neutral_lines {h} {k} o p n = record {
  factors = rates-given h o ∙ ap rates_of_lem n.sheet ∙ sym (rates-given k p);
  index = n.index;
  header = ap (λ (s : State). s.book.header) (state-given k) ∙ n.header;
  sums = ap (λ (s : State). s.book.sums) (state-given k) ∙ no-sums (terms_of k) (lines_taken k) n.lines;
  cells = ap (λ (s : State). s.cells) (state-given k) ∙ no_cells (terms_of k) (lines_taken k) n.lines (basis_of (terms_of k) (lines_taken k));
}

unmarked : (h : History) → (accepted_of h).notes ≡ [] → (state_given h).marks ≡ no_marks
unmarked h e = ap (λ (s : State). s.marks) (state-given h) ∙ ap (marks_of (terms_of h)) e ∙ sym (no-notes (terms_of h))

-- Three books

grouped : (a b c : State) → (joining a b).refusal ≡ 0 → (joining (joining a b).state c).refusal ≡ 0 → (joining b c).refusal ≡ 0 →
    (joining a (joining b c).state).refusal ≡ 0 → joining (joining a b).state c ≡ joining a (joining b c).state
grouped a b c p q r s =
    joined_is (joining a b).state c q ∙ ap (λ (x : State). joined_to (joined_state x c)) (joined-state a b p)
    ∙ ap (λ (x : State). joined_to x) (state-assoc a b c)
    ∙ sym (joined_is a (joining b c).state s ∙ ap (λ (x : State). joined_to (joined_state a x)) (joined-state b c r))

pub joining_laws : JoiningLaws
joining_laws = record {
  commutes = commutes;
  neutral = λ a z x y m n. neutral a z x y n m;
  neutral_marked = neutral_marked;
  neutral_lines = neutral_lines;
  neutral_made = λ {h} {first} o p. neutral_made h o first p;
  unmarked = unmarked;
  grouped = grouped;
  any_grouping = any_grouping;
  unscored_first = unscored_first;
}
