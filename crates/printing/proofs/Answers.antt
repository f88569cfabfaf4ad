-- What is printed where the lines end, by cases. Assumes nothing.
use mathlib.Core.Path.{◌≡◌, refl, sym, ◌∙◌, ap}
use mathlib.Core.Bool.{Bool, true, false}
use mathlib.Core.List.{List, ◌++◌}
use Prim.Native.Nat.{ℕ, ◌+◌, ◌*◌, ◌-◌, ◌≤◌, ◌<◌}
use native.Mathlib.Omega.{arith}
use lib.ListN.{length, take, drop}
use borrow.Author.Tests.{eq-eqb, ne_eqb, le-ltb}
use Rattle.std.specs.Prelude.{Result, Ok, Err}
use Rattle.std.specs.Result.{result_unwrap_or}
use Rattle.exact.specs.Choice.{pick}
use Rattle.exact.specs.Text.{text}
use Rattle.line_forms.specs.declared.refusal.Refusal.{Refusal}
use Rattle.report.specs.Decimal.{digits}
use Rattle.report.specs.Line.{refusal_line, Written}
use Rattle.report.proofs.Decimal.{digits-length}
use Rattle.report.proofs.Lines.{two-length}
use Rattle.report.proofs.Onto.{written-more}
use Rattle.cell_report.proofs.Laws.{cells_fit}
use Rattle.book_model.specs.declared.Book.{Book}
use Rattle.book_model.specs.Calls.{Closed, closed_by, lacks_lines, closing_with, closing, closed, report_size, report_of, cells_size, cells_text_of, closing_cells, closed_cells}
use Rattle.book_model.specs.Calls.{SoundBook}
use Rattle.book_model.specs.Cells.{CellsBounded}
use Rattle.book_model.proofs.Closings.{not-refused, untouched, writes, tells}
use Rattle.book_model.proofs.Demand1.{demand1}
use Rattle.printing.specs.AtEnd.{with_table, printed_at_end, printed_with}

-- a refusal's line fits any buffer for a report
pub refusal-room : (refusal number size : ℕ) → refusal < 18446744073709551616 → number < 18446744073709551616 → report_size ≤ size →
    length (refusal_line refusal number) ≤ size
refusal-room refusal number size h k room =
    omega (arith, two-length (text "refused") (digits refusal) (digits number), digits-length 19 refusal (omega arith), digits-length 19 number (omega arith))

module _ (asked : Bool) (refusal number : ℕ) (b : Book) (cells : List ℕ) where
  pub printed-refused : (refusal ≡ 0 → ⊥) → printed_with asked refusal number b cells ≡ refusal_line refusal number
  unfolding printed_with
  printed-refused h = rw (ne_eqb refusal 0 h) refl

  pub printed-empty : refusal ≡ 0 → number ≡ 1 → printed_with asked refusal number b cells ≡ refusal_line 2 1
  unfolding printed_with
  printed-empty e f = rw (eq-eqb refusal 0 e, eq-eqb number 1 f) refl

  pub printed-end : refusal ≡ 0 → (number ≡ 1 → ⊥) → printed_with asked refusal number b cells ≡ printed_at_end asked b cells number
  unfolding printed_with
  printed-end e f = rw (eq-eqb refusal 0 e, ne_eqb number 1 f) refl

-- a report is short enough to leave the table its room
pub report-room : (b : Book) → SoundBook b → (out : List ℕ) {c : Closed} → c ≡ closing b (length out) → c.refusal ≡ 0 → c.length ≤ report_size
report-room b sound out e h =
    let n = tells report_size b (report_of b) (length out) (sym (ap (λ (x : Closed). x.refusal) e) ∙ h) in
    omega (arith, ap (λ (x : Closed). x.length) e ∙ n, demand1.report_fits b sound)

-- a table fits the room that its closing asks for
pub table-room : (b : Book) → SoundBook b → (cells : List ℕ) → CellsBounded cells (4 * b.sums.counts.loans) → length (cells_text_of cells) ≤ cells_size
table-room b sound cells few = cells_fit cells (λ i. omega (arith, few.each i, sound.loans, sound.header_loans))

-- Closing a book with room for both texts, which is refused by 6 or not at all.
module _ (asked : Bool) (b : Book) (cells out : List ℕ) (room : report_size + cells_size ≤ length out) where
  by-six : (t : Bool) → lacks_lines b.header b.sums.counts ≡ t → (closing b (length out)).refusal ≡ pick t 6 0
  unfolding closing_with
  by-six t e = rw (e, le-ltb (length out) report_size (omega arith)) refl

  pub closing-refused : {c : Closed} {after : List ℕ} → c ≡ closing b (length out) → after ≡ closed b out → (c.refusal ≡ 0 → ⊥) → (after ≡ out)
      × ((n : ℕ) → printed_at_end asked b cells n ≡ refusal_line c.refusal n)
  unfolding printed_at_end
  closing-refused {c} {after} e f h = (
    f ∙ untouched report_size b (report_of b) out (λ z. h (ap (λ (x : Closed). x.refusal) e ∙ z)),
    λ n. go n (lacks_lines b.header b.sums.counts) refl,
  )
    where
      go : (n : ℕ) (t : Bool) → lacks_lines b.header b.sums.counts ≡ t →
          pick t (refusal_line 6 n) (with_table asked (report_of b) (cells_text_of cells)) ≡ refusal_line c.refusal n
      go n true k = ap (λ (m : ℕ). refusal_line m n) (sym (ap (λ (x : Closed). x.refusal) e ∙ by-six true k))
      go n false k = absurd (h (ap (λ (x : Closed). x.refusal) e ∙ by-six false k))

  -- not refused: there are enough loans, and the report is written, with room for the table after it
  module _ {c : Closed} {after : List ℕ} (e : c ≡ closing b (length out)) (f : after ≡ closed b out) (h : c.refusal ≡ 0) where
    zero : (closing b (length out)).refusal ≡ 0
    zero = sym (ap (λ (x : Closed). x.refusal) e) ∙ h

    pub closing-enough : lacks_lines b.header b.sums.counts ≡ false
    closing-enough = go (lacks_lines b.header b.sums.counts) refl
      where
        go : (t : Bool) → lacks_lines b.header b.sums.counts ≡ t → t ≡ false
        go true k = absurd (omega (arith, zero, by-six true k))
        go false k = refl

    report-written : Written out (report_of b) c.length after
    report-written = record {
      count = ap (λ (x : Closed). x.length) e ∙ tells report_size b (report_of b) (length out) zero;
      bytes = f ∙ writes report_size b (report_of b) out zero;
    }

    at-end : (n : ℕ) → printed_at_end asked b cells n ≡ with_table asked (report_of b) (cells_text_of cells)
    unfolding printed_at_end
    at-end n = rw closing-enough refl

    pub report-alone : asked ≡ false → (n : ℕ) → Written out (printed_at_end asked b cells n) c.length after
    report-alone q n = rw (at-end n, q) report-written

    -- the table is written to what remains after the report
    pub report-and-table : asked ≡ true → (n : ℕ) {r : ℕ} {ys : List ℕ} →
        Written (take (length after - c.length) (drop c.length after)) (cells_text_of cells) r ys →
        Written out (printed_at_end asked b cells n) (c.length + r) (take c.length after ++ (ys ++ drop (length after - c.length) (drop c.length after)))
    report-and-table q n w = rw (at-end n, q) (written-more report-written w)

-- the second closing is not refused where there are enough loans and room
pub table-written : (b : Book) (cells out : List ℕ) → lacks_lines b.header b.sums.counts ≡ false → cells_size ≤ length out → {c : Closed} {after : List ℕ} →
    c ≡ closing_cells b cells (length out) → after ≡ closed_cells b cells out → Written out (cells_text_of cells) c.length after
table-written b cells out few room e f =
    let z : (closing_cells b cells (length out)).refusal ≡ 0 = not-refused cells_size b (cells_text_of cells) (length out) few room in
    record {
      count = ap (λ (x : Closed). x.length) e ∙ tells cells_size b (cells_text_of cells) (length out) z;
      bytes = f ∙ writes cells_size b (cells_text_of cells) out z;
    }

-- a closing's length, where none is told 0
pub length-told : (r : Result ℕ Refusal) → result_unwrap_or r 0 ≡ (closed_by r).length
length-told (Ok n) = refl
length-told (Err q) = refl
