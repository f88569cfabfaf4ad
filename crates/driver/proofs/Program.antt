-- What the program prints of every input. Assumes nothing.
use mathlib.Core.Path.{◌≡◌, refl, sym, ◌∙◌, ap, ap₂}
use mathlib.Core.Bool.{Bool, true, false}
use mathlib.Core.List.{List, [], ◌∷◌, ◌++◌, append_assoc, append-nil, Memᴰ, Permᴰ}
use Prim.Native.Nat.{ℕ, ◌+◌, ◌<◌}
use native.Mathlib.Omega.{arith}
use lib.Dec.{eqb, ltb}
use lib.ListN.{length, take, get_or, length-append, get_or-append}
use lib.Seq.{take_at, take-append-le, get_or_at}
use borrow.Author.Tests.{ltb-true, ltb-false, eqb-true, eqb-false, eq-eqb}
use Rattle.exact.specs.Choice.{pick}
use Rattle.exact.specs.Decimal.{leading, digits}
use Rattle.exact.specs.Text.{text}
use Rattle.report.specs.Line.{refusal_line}
use Rattle.loan_charge.specs.CreditFactor.{built_in_sheet}
use Rattle.line_forms.specs.declared.MarkLine.{MarkLine}
use Rattle.line_forms.specs.declared.Content.TheVariants.{Mark as mark}
use Rattle.line_forms.specs.Claims.{ShowsInRange}
use Rattle.figures.specs.declared.Counts.{Counts}
use Rattle.book_model.specs.Accepted.{Accepted, counts_in, refusal_of, added, accept}
use Rattle.book_model.specs.Calls.{State, opening, feeding, lacks_lines}
use Rattle.book_model.specs.Demand3.{report_for}
use Rattle.book_model.specs.Examples.{worked_header, worked_lines, worked_report}
use Rattle.book_model.specs.History.{History, opened, fed, all_fed, terms_of, accepted_of}
use Rattle.book_model.specs.LoanTable.{cells_for}
use Rattle.book_model.specs.Terms.{Terms}
use Rattle.book_model.proofs.Demand2.{openings, feeding-answer}
use Rattle.book_model.proofs.Demand3.{one_more, opened-is, terms-stay, unmarked-added, report-is, report-permuted, measured-of, terms-in-range}
use Rattle.book_model.proofs.Examples.{twelve, counts-none}
use Rattle.book_model.proofs.FreshScores.{one-header-line}
use Rattle.book_model.proofs.Ledger.{ledger-of, good_of}
use Rattle.book_model.proofs.LoanTable.{cells-text, cell-sums, cells-permuted}
use Rattle.book_model.proofs.Steps.{state_of, counts, step}
use Rattle.book_model.proofs.Tests.{closing-test}
use Rattle.printing.specs.AtEnd.{with_table, printed_at_end}
use Rattle.driver.specs.Printed.{last_of, lines_from, lines_of, printed_feeding, printed_lines, printed}
use Rattle.driver.specs.Program.{ledger_after, standing, AllTaken, Outcome, no_line, not_opened, not_taken, too_few, report, Reports, worked_input, Program}
use Rattle.driver.proofs.Law.{stops}

-- Taking lines one after the other

fed-more : (past : History) (lines : List (List ℕ)) (line : List ℕ) → all_fed past (lines ++ (line ∷ [])) ≡ fed (all_fed past lines) line
unfolding all_fed
fed-more past [] line = refl
fed-more past (s ∷ lines) line = fed-more (fed past s) lines line

module _ (sheet header : List ℕ) where
  abbrev t : Terms
  t = terms_of (opened sheet header)

  -- the ledger with one line more
  ledger-more : (before : List (List ℕ)) (line : List ℕ) → accept t (ledger_after sheet header before) line ≡ ledger_after sheet header (before ++ (line ∷ []))
  ledger-more before line =
      ap (λ (u : Terms). accept u (ledger_after sheet header before) line) (sym (terms-stay (opened sheet header) before))
      ∙ (one_more (all_fed (opened sheet header) before) line).1 ∙ sym (ap accepted_of (fed-more (opened sheet header) before line))

  -- lines that are all taken meet no refusal, and the other way round
  none-refused : {lines : List (List ℕ)} → AllTaken sheet header lines → (n : ℕ) → n < length lines →
      refusal_of t (ledger_after sheet header (take n lines)) (get_or lines n []) ≡ 0
  none-refused {lines} h n k = (feeding-answer t (ledger_after sheet header (take n lines)) (get_or lines n [])).taken.1 (h.taken n k)

  all-taken : (lines : List (List ℕ)) → (opening sheet header).refusal ≡ 0 →
      ((n : ℕ) → n < length lines → refusal_of t (ledger_after sheet header (take n lines)) (get_or lines n []) ≡ 0) → AllTaken sheet header lines
  all-taken lines o f = record {
    opens = o;
    taken = λ n k. (feeding-answer t (ledger_after sheet header (take n lines)) (get_or lines n [])).taken.0 (f n k);
  }

  -- all lines before are taken, and so is this one
  taken_more : (before : List (List ℕ)) (line : List ℕ) → AllTaken sheet header before → refusal_of t (ledger_after sheet header before) line ≡ 0 →
      AllTaken sheet header (before ++ (line ∷ []))
  taken_more before line h e = all-taken (before ++ (line ∷ [])) h.opens (λ n k. go n (ltb n (length before)) refl k)
    where
      refusal : List (List ℕ) → List ℕ → ℕ
      refusal lines s = refusal_of t (ledger_after sheet header lines) s

      go : (n : ℕ) (test : Bool) → ltb n (length before) ≡ test → n < length (before ++ (line ∷ [])) →
          refusal_of t (ledger_after sheet header (take n (before ++ (line ∷ [])))) (get_or (before ++ (line ∷ [])) n []) ≡ 0
      go n true f k =
          let l : n < length before = ltb-true n (length before) f in
          ap₂ refusal (take-append-le n before (line ∷ []) (omega (arith, l))) (get_or-append before (line ∷ []) [] n l) ∙ none-refused h n l
      go n false f k =
          let l : length before ≡ n = omega (arith, k, length-append before (line ∷ []), ltb-false n (length before) f) in
          ap₂ refusal (take_at before (line ∷ []) n l) (get_or_at before line [] [] n l) ∙ e

  -- a line among lines that are all taken
  taken_at : (before : List (List ℕ)) (line : List ℕ) (lines : List (List ℕ)) → AllTaken sheet header (before ++ (line ∷ lines)) →
      refusal_of t (ledger_after sheet header before) line ≡ 0
  taken_at before line lines h =
      ap₂ (λ (x : List (List ℕ)) (s : List ℕ). refusal_of t (ledger_after sheet header x) s) (sym (take_at before (line ∷ lines) (length before) refl))
      (sym (get_or_at before line lines [] (length before) refl))
      ∙ none-refused h (length before) (omega (arith, length-append before (line ∷ lines)))

  none-taken : (opening sheet header).refusal ≡ 0 → AllTaken sheet header []
  none-taken e = all-taken [] e (λ n k. absurd (omega (arith, k)))

  -- the state of lines fed, whose lines still standing are in it
  unfoldable state_for : List (List ℕ) → State
  state_for lines = state_of t (ledger_after sheet header lines)

  -- an opened book has no line taken
  opened-state : (opening sheet header).state ≡ state_for []
  unfolding state_for all_fed
  opened-state = opened-is sheet header

  -- with one line more
  fed-line : (before : List (List ℕ)) (line : List ℕ) → feeding (state_for before) line ≡
      record { refusal = refusal_of t (ledger_after sheet header before) line; state = state_for (before ++ (line ∷ [])) }
  unfolding state_for
  fed-line before line =
      step t (ledger_after sheet header before) (ledger-of (all_fed (opened sheet header) before)) line
      ∙ (λ i. record { refusal = refusal_of t (ledger_after sheet header before) line; state = state_of t (ledger-more before line i) })

  -- what is printed at their end, from the lines still standing alone
  abbrev at_end : Bool → List (List ℕ) → ℕ → List ℕ
  at_end asked kept number = pick (lacks_lines t.header (counts_in kept)) (refusal_line 6 number) (with_table asked (report_for t kept) (cells_for t kept))

  end_is : (asked : Bool) (lines : List (List ℕ)) (number : ℕ) →
      printed_at_end asked (state_for lines).book (state_for lines).cells number ≡ at_end asked (standing sheet header lines) number
  unfolding printed_at_end state_for
  end_is asked lines number =
      let kept : List (List ℕ) = standing sheet header lines in
      ap₂ (λ (c : Counts) (r : List ℕ). pick (lacks_lines t.header c) (refusal_line 6 number) r) (counts t kept)
      (ap₂ (with_table asked) (report-is t kept) (cells-text t kept))

  at-end : (asked : Bool) (lines : List (List ℕ)) → AllTaken sheet header lines →
      Outcome asked sheet (header ∷ lines) (at_end asked (standing sheet header lines) (2 + length lines))
  at-end asked lines h = go (lacks_lines t.header (counts_in kept)) refl
    where
      kept : List (List ℕ)
      kept = standing sheet header lines

      go : (b : Bool) → lacks_lines t.header (counts_in kept) ≡ b →
          Outcome asked sheet (header ∷ lines) (pick b (refusal_line 6 (2 + length lines)) (with_table asked (report_for t kept) (cells_for t kept)))
      go true e = too_few header lines h ((closing-test t.header (counts_in kept)).holds.0 e)
      go false e =
          report header lines h ((closing-test t.header (counts_in kept)).fails.0 e)
          (measured-of t (terms-in-range (opened sheet header)) kept (good_of (all_fed (opened sheet header) lines))) (cell-sums t kept)

  -- and of lines after those
  feeding-on : (asked : Bool) (before lines : List (List ℕ)) → AllTaken sheet header before → (number : ℕ) → number ≡ 2 + length before →
      Outcome asked sheet (header ∷ (before ++ lines)) (printed_feeding asked (state_for before) number lines)
  unfolding printed_feeding
  feeding-on asked before [] h number e = rw (append-nil before, e, end_is asked before (2 + length before)) (at-end asked before h)
  feeding-on asked before (line ∷ lines) h number e =
      rw (fed-line before line) (go (eqb n 0) refl (feeding-on asked (before ++ (line ∷ [])) lines))
    where
      n : ℕ
      n = refusal_of t (ledger_after sheet header before) line

      go : (b : Bool) → eqb n 0 ≡ b →
          (AllTaken sheet header (before ++ (line ∷ [])) → (k : ℕ) → k ≡ 2 + length (before ++ (line ∷ [])) →
          Outcome asked sheet (header ∷ ((before ++ (line ∷ [])) ++ lines)) (printed_feeding asked (state_for (before ++ (line ∷ []))) k lines)) →
          Outcome asked sheet (header ∷ (before ++ (line ∷ lines)))
          (pick b (printed_feeding asked (state_for (before ++ (line ∷ []))) (number + 1) lines) (refusal_line n number))
      go true f ih =
          let m : length (before ++ (line ∷ [])) ≡ length before + 1 = length-append before (line ∷ []) in
          rw (append_assoc before (line ∷ []) lines) at (ih (taken_more before line h (eqb-true n 0 f)) (number + 1) (omega (arith, e, m)))
      go false f ih = rw e (not_taken header before line lines n (eqb-false n 0 f) h (feeding-answer t (ledger_after sheet header before) line))

  -- Lines that are all taken print what stands at their end.
  all-fed : (asked : Bool) (before lines : List (List ℕ)) (number : ℕ) → AllTaken sheet header (before ++ lines) → number ≡ 2 + length before →
      printed_feeding asked (state_for before) number lines ≡
      printed_at_end asked (state_for (before ++ lines)).book (state_for (before ++ lines)).cells (2 + length (before ++ lines))
  unfolding printed_feeding
  all-fed asked before [] number k e = rw (append-nil before, e) refl
  all-fed asked before (line ∷ lines) number k e =
      let z : refusal_of t (ledger_after sheet header before) line ≡ 0 = taken_at before line lines k in
      let m : length (before ++ (line ∷ [])) ≡ length before + 1 = length-append before (line ∷ []) in
      let same : (before ++ (line ∷ [])) ++ lines ≡ before ++ (line ∷ lines) = append_assoc before (line ∷ []) lines in
      let ih : AllTaken sheet header ((before ++ (line ∷ [])) ++ lines) → number + 1 ≡ 2 + length (before ++ (line ∷ [])) →
      printed_feeding asked (state_for (before ++ (line ∷ []))) (number + 1) lines ≡
      printed_at_end asked (state_for ((before ++ (line ∷ [])) ++ lines)).book (state_for ((before ++ (line ∷ [])) ++ lines)).cells
      (2 + length ((before ++ (line ∷ [])) ++ lines)) = all-fed asked (before ++ (line ∷ [])) lines (number + 1) in
      rw (fed-line before line, eq-eqb (refusal_of t (ledger_after sheet header before) line) 0 z)
      (ih (rw same k) (omega (arith, e, m))
      ∙ ap (λ (l : List (List ℕ)). printed_at_end asked (state_for l).book (state_for l).cells (2 + length l)) same)

  -- An input that gives a report prints it.
  reported : (asked : Bool) (lines : List (List ℕ)) → Reports sheet header lines →
      printed_lines asked sheet (header ∷ lines) ≡ with_table asked (report_for t (standing sheet header lines)) (cells_for t (standing sheet header lines))
  unfolding printed_lines
  reported asked lines r =
      rw (eq-eqb (opening sheet header).refusal 0 r.all.opens)
      (ap (λ (s : State). printed_feeding asked s 2 lines) opened-state ∙ all-fed asked [] lines 2 r.all refl
      ∙ end_is asked lines (2 + length lines) ∙ rw ((closing-test t.header (counts_in (standing sheet header lines))).fails.1 r.reached) refl)

outcome : (asked : Bool) (sheet : List ℕ) (lines : List (List ℕ)) → Outcome asked sheet lines (printed_lines asked sheet lines)
unfolding printed_lines
outcome asked sheet [] = no_line
outcome asked sheet (header ∷ lines) = rw (opened-state sheet header) (go (eqb (opening sheet header).refusal 0) refl)
  where
    go : (b : Bool) → eqb (opening sheet header).refusal 0 ≡ b →
        Outcome asked sheet (header ∷ lines) (pick b (printed_feeding asked (state_for sheet header []) 2 lines) (refusal_line (opening sheet header).refusal 1))
    go true e = feeding-on sheet header asked [] lines (none-taken sheet header (eqb-true (opening sheet header).refusal 0 e)) 2 refl
    go false e = not_opened header lines (opening sheet header).refusal (eqb-false (opening sheet header).refusal 0 e) refl (openings sheet header)

-- Lines without marks and returns are all standing.
unmarked : (sheet header : List ℕ) (lines : List (List ℕ)) → AllTaken sheet header lines →
    ((s : List ℕ) → Memᴰ s lines → (m : MarkLine) → ShowsInRange s (mark m) → ⊥) → standing sheet header lines ≡ lines
unfolding accepted_of all_fed
unmarked sheet header lines h none = ap (λ (a : Accepted). a.kept) (go [] lines h refl none)
  where
    go : (before rest : List (List ℕ)) → AllTaken sheet header (before ++ rest) → ledger_after sheet header before ≡ record { kept = before; notes = [] } →
        ((s : List ℕ) → Memᴰ s rest → (m : MarkLine) → ShowsInRange s (mark m) → ⊥) →
        ledger_after sheet header (before ++ rest) ≡ record { kept = before ++ rest; notes = [] }
    go before [] h e none = rw (append-nil before) e
    go before (s ∷ rest) h e none =
        let z = taken_at sheet header before s rest h in
        let same = append_assoc before (s ∷ []) rest in
        let more : ledger_after sheet header (before ++ (s ∷ [])) ≡ record { kept = before ++ (s ∷ []); notes = [] } =
        sym (ledger-more sheet header before s) ∙ unmarked-added (terms_of (opened sheet header)) (ledger_after sheet header before) s z
        (none s (Memᴰ.head refl))
        ∙ ap (λ (a : Accepted). added a s) e in
        rw same at (go (before ++ (s ∷ [])) rest (rw same h) more (λ x m. none x (Memᴰ.tail m)))

same_text : (asked : Bool) (t : Terms) {lines others : List (List ℕ)} → Permᴰ lines others →
    with_table asked (report_for t lines) (cells_for t lines) ≡ with_table asked (report_for t others) (cells_for t others)
same_text asked t {lines} {others} p =
    ap₂ (with_table asked) (sym (report-is t lines) ∙ report-permuted t p ∙ report-is t others) (cells-permuted t p)

-- the lines decide the header line
one_line : (sheet header other : List ℕ) {lines others : List (List ℕ)} → (terms_of (opened sheet header)).header.held ≡
    (terms_of (opened sheet other)).header.held →
    Reports sheet header lines → Reports sheet other others → Permᴰ (standing sheet header lines) (standing sheet other others) → header ≡ other
one_line sheet header other {lines} {others} e r q p =
    one-header-line sheet header other lines others r.all.opens q.all.opens e p r.reached q.reached

alike : (asked : Bool) (sheet header other : List ℕ) (lines others : List (List ℕ)) (x y : List ℕ) →
    lines_of x ≡ header ∷ lines → lines_of y ≡ other ∷ others → (terms_of (opened sheet header)).header.held ≡ (terms_of (opened sheet other)).header.held →
    Reports sheet header lines → Reports sheet other others → Permᴰ (standing sheet header lines) (standing sheet other others) →
    (header ≡ other) × (printed asked sheet x ≡ printed asked sheet y)
alike asked sheet header other lines others x y e f held r q p =
    let same : header ≡ other = one_line sheet header other held r q p in (
      same,
      ap (printed_lines asked sheet) e ∙ reported sheet header asked lines r ∙ same_text asked (terms_of (opened sheet header)) p
          ∙ ap (λ (h : List ℕ). with_table asked (report_for (terms_of (opened sheet h)) (standing sheet other others))
          (cells_for (terms_of (opened sheet h)) (standing sheet other others))) same
          ∙ sym (reported sheet other asked others q) ∙ sym (ap (printed_lines asked sheet) f),
    )

-- document 01's worked input
worked-reports : Reports built_in_sheet worked_header worked_lines
worked-reports =
    record {
      all = all-taken built_in_sheet worked_header worked_lines twelve.opens12 twelve.fed12;
      reached = counts-none (counts_in (standing built_in_sheet worked_header worked_lines));
    }

worked-lines : lines_of worked_input ≡ worked_header ∷ worked_lines
unfolding lines_from last_of
worked-lines = refl

worked : printed false built_in_sheet worked_input ≡ worked_report
worked =
    ap (printed_lines false built_in_sheet) worked-lines ∙ reported built_in_sheet worked_header false worked_lines worked-reports ∙ twelve.example12

empty : (asked : Bool) (sheet : List ℕ) → printed asked sheet [] ≡ text "(refused 2 1)\n"
unfolding printed_lines lines_from last_of digits leading
empty asked sheet = refl

pub program : Program
program = record {
  prints = λ asked sheet input. outcome asked sheet (lines_of input);
  alike = alike;
  unmarked = unmarked;
  stops = stops;
  empty = empty;
  worked = worked;
}
