-- Demand 2: each refusal when and only when its condition holds. Assumes nothing.
use mathlib.Core.Path.{◌≡◌, refl, sym, ap, ◌∙◌, subst}
use mathlib.Core.Bool.{Bool, true, false, true≢false}
use mathlib.Core.List.{List}
use mathlib.Core.Logic.{◌↔◌, ◌⊎◌, ⊎_elim}
use Prim.Native.Nat.{ℕ, ◌+◌, ◌≤◌, ◌<◌}
use native.Mathlib.Omega.{arith}
use lib.Dec.{leb, eqb}
use lib.ListN.{length}
use borrow.Author.Tests.{leb-true, leb-false, le-leb, lt-leb, eqb-true, eqb-false, eq-eqb, ne_eqb}
use Rattle.exact.specs.Choice.{pick}
use Rattle.loan_charge.specs.declared.Score.TheVariants.{Unscored}
use Rattle.sheet.specs.Sheet.{SheetRules, sheet_passes}
use Rattle.sheet.proofs.Rules.{rules, passes}
use Rattle.line_forms.specs.declared.Header.{Header}
use Rattle.line_forms.specs.declared.IndexValue.{IndexValue}
use Rattle.line_forms.specs.declared.Loan.{Loan}
use Rattle.line_forms.specs.declared.MarkLine.{MarkLine}
use Rattle.line_forms.specs.declared.Content.{Content}
use Rattle.line_forms.specs.declared.Content.TheVariants.{Header as header, Loan as loan, Policy as policy, Derivative as derivative, Asset as asset}
use Rattle.line_forms.specs.declared.Content.TheVariants.{Amount as amount, Index as index, Mark as mark, NoForm}
use Rattle.line_forms.specs.declared.Line.{Line}
use Rattle.line_forms.specs.declared.Line.TheVariants.{Loan as LoanLine, Policy as PolicyLine, Derivative as DerivativeLine, Asset as AssetLine}
use Rattle.line_forms.specs.declared.Line.TheVariants.{Amount as AmountLine, Index as IndexLine, Mark as MarkRead, Refusal}
use Rattle.line_forms.specs.declared.refusal.Refusal.{Refusal as Reason}
use Rattle.std.specs.Prelude.{Result, Ok, Err}
use Rattle.line_forms.specs.Refusals.{number_of}
use Rattle.line_forms.specs.Readings.{line_of, header_of}
use Rattle.line_forms.specs.Claims.{ShowsInRange, AfterHeader, line_with, line_refusal, header_refusal, LineReading, HeaderReading}
use Rattle.line_forms.proofs.LineLaws.{line_reading, line_numbers, refused-line}
use Rattle.line_forms.proofs.HeaderLaws.{header_reading, header-accepted, header-numbers}
use Rattle.figures.specs.declared.Counts.{Counts}
use Rattle.book_model.specs.Accepted.{Note, Accepted, counts_in, most_other, loan_beyond_lem, refusal_for, names_of, kept_by, refusal_of}
use Rattle.book_model.specs.Calls.{Answer, opening_for, opening, closing_refusal_lem, report_size, cells_size}
use Rattle.book_model.specs.Demand2.{OtherForm, Fresh, Counted, Opens, OpeningAnswer, LoanFits, LoanBeyond, IsSet, ValueMissing, IsNoted, MarkFits}
use Rattle.book_model.specs.Demand2.{Fits, FeedingAnswer, ClosingAnswer, Demand2}
use Rattle.book_model.specs.History.{opened, all_fed, terms_of, accepted_of}
use Rattle.book_model.specs.HouseIndex.{adjustment_of, lacking, values_in, index_line}
use Rattle.book_model.specs.LineKinds.{LineKind, a_loan, an_index, a_mark, another, refused, content_kind, kind_of, kind_counts}
use Rattle.book_model.specs.Marks.{most_marks, is_among, Kept}
use Rattle.book_model.specs.Terms.{Terms, basis_of}
use Rattle.book_model.proofs.Closings.{closes-6, closes-9, closes-0}
use Rattle.book_model.proofs.Demand3.{demand3}
use Rattle.book_model.proofs.LoanTable.{loan_table}
use Rattle.book_model.proofs.Notes.{noted-among, among-noted, not_noted}
use Rattle.book_model.proofs.Openings.{number, opened_under, sheet-passes, sheet-fails, header-fails}
use Rattle.book_model.proofs.SetValues.{shows, read, is_set, not_set, values-set, set-has, value-missing, missing-lacks}
use Rattle.book_model.proofs.Tests.{unscored-is, fresh-is, counts-once, loan-test}
use Rattle.book_model.proofs.Openings.{Case, book_opens, sheet_refused, header_refused, case_of}

-- Lines

other_after : (c : Content) → OtherForm c → AfterHeader c
other_after (header x) a = a
other_after (loan l) a = tt
other_after (policy p) a = tt
other_after (derivative d) a = tt
other_after (asset x) a = tt
other_after (amount x) a = tt
other_after (index x) a = tt
other_after (mark m) a = absurd a
other_after NoForm a = a

-- the kinds of lines that are not loans
data OtherKind : LineKind → Type 0 where
  plain : OtherKind another
  indexed : (i : IndexValue) → OtherKind (an_index i)

other-kind : (c : Content) → OtherForm c → OtherKind (kind_of (line_with c))
unfolding content_kind
other-kind (header x) a = absurd a
other-kind (loan l) a = absurd a
other-kind (policy p) a = plain
other-kind (derivative d) a = plain
other-kind (asset x) a = plain
other-kind (amount x) a = plain
other-kind (index i) a = indexed i
other-kind (mark m) a = absurd a
other-kind NoForm a = absurd a

-- what a line of a kind shows
data Shown (s : List ℕ) : LineKind → Type 0 where
  loan_shown : (l : Loan) → ShowsInRange s (loan l) → Shown s (a_loan l)
  index_shown : (i : IndexValue) → ShowsInRange s (index i) → Shown s (an_index i)
  mark_shown : (m : MarkLine) → ShowsInRange s (mark m) → Shown s (a_mark m)
  other_shown : (c : Content) → OtherForm c → index_line c ≡ 0 → ShowsInRange s c → Shown s another
  refused_shown : (q : Reason) → line_of s ≡ Refusal q → Shown s (refused (number_of q))

module _ (s : List ℕ) where
  kind-shown : Shown s (kind_of (line_of s))
  unfolding content_kind
  kind-shown = go (line_of s) refl
    where
      go : (l : Line) → line_of s ≡ l → Shown s (kind_of l)
      go (LoanLine l) e = loan_shown l (shows s (loan l) tt e)
      go (PolicyLine p) e = other_shown (policy p) tt refl (shows s (policy p) tt e)
      go (DerivativeLine d) e = other_shown (derivative d) tt refl (shows s (derivative d) tt e)
      go (AssetLine a) e = other_shown (asset a) tt refl (shows s (asset a) tt e)
      go (AmountLine a) e = other_shown (amount a) tt refl (shows s (amount a) tt e)
      go (IndexLine i) e = index_shown i (shows s (index i) tt e)
      go (MarkRead m) e = mark_shown m (shows s (mark m) tt e)
      go (Refusal q) e = refused_shown q e

  loan-kind : (l : Loan) → ShowsInRange s (loan l) → kind_of (line_of s) ≡ a_loan l
  unfolding content_kind
  loan-kind l k = ap kind_of (read s (loan l) tt k)

  index-kind : (i : IndexValue) → ShowsInRange s (index i) → kind_of (line_of s) ≡ an_index i
  unfolding content_kind
  index-kind i k = ap kind_of (read s (index i) tt k)

  mark-kind : (m : MarkLine) → ShowsInRange s (mark m) → kind_of (line_of s) ≡ a_mark m
  unfolding content_kind
  mark-kind m k = ap kind_of (read s (mark m) tt k)

  other-is : (c : Content) → OtherForm c → ShowsInRange s c → OtherKind (kind_of (line_of s))
  other-is c o k = subst OtherKind (ap kind_of (sym (read s c (other_after c o) k))) (other-kind c o)

  refused-kind : (q : Reason) → line_of s ≡ Refusal q → kind_of (line_of s) ≡ refused (number_of q)
  unfolding content_kind
  refused-kind q e = ap kind_of e

-- What a line counts as

counted-loan : (s : List ℕ) (k : LineKind) → Shown s k → (kind_counts k).loans ≡ 1 → (l : Loan) × ShowsInRange s (loan l)
unfolding kind_counts
counted-loan s k (loan_shown l h) e = (l, h)
counted-loan s k (index_shown i h) e = absurd (omega (arith, e))
counted-loan s k (other_shown c o z h) e = absurd (omega (arith, e))
counted-loan s k (mark_shown m h) e = absurd (omega (arith, e))
counted-loan s k (refused_shown n r) e = absurd (omega (arith, e))

counted-unscored : (s : List ℕ) (k : LineKind) → Shown s k → (kind_counts k).unscored ≡ 1 → (l : Loan) × ShowsInRange s (loan l) × (l.score ≡ Unscored)
unfolding kind_counts
counted-unscored s k (loan_shown l h) e = (l, h, (unscored-is l.score).0 e)
counted-unscored s k (index_shown i h) e = absurd (omega (arith, e))
counted-unscored s k (other_shown c o z h) e = absurd (omega (arith, e))
counted-unscored s k (mark_shown m h) e = absurd (omega (arith, e))
counted-unscored s k (refused_shown n r) e = absurd (omega (arith, e))

counted-fresh : (s : List ℕ) (k : LineKind) → Shown s k → (kind_counts k).fresh ≡ 1 → (l : Loan) × ShowsInRange s (loan l) × Fresh l.score
unfolding kind_counts
counted-fresh s k (loan_shown l h) e = (l, h, (fresh-is l.score).0 e)
counted-fresh s k (index_shown i h) e = absurd (omega (arith, e))
counted-fresh s k (other_shown c o z h) e = absurd (omega (arith, e))
counted-fresh s k (mark_shown m h) e = absurd (omega (arith, e))
counted-fresh s k (refused_shown n r) e = absurd (omega (arith, e))

counted-other : (s : List ℕ) (k : LineKind) → Shown s k → (kind_counts k).other ≡ 1 → (c : Content) × OtherForm c × ShowsInRange s c
unfolding kind_counts
counted-other s k (loan_shown l h) e = absurd (omega (arith, e))
counted-other s k (index_shown i h) e = (index i, tt, h)
counted-other s k (other_shown c o z h) e = (c, o, h)
counted-other s k (mark_shown m h) e = absurd (omega (arith, e))
counted-other s k (refused_shown n r) e = absurd (omega (arith, e))

counted-once : (k : LineKind) → ((kind_counts k).loans + (kind_counts k).other ≤ 1) × ((kind_counts k).unscored + (kind_counts k).fresh ≤ (kind_counts k).loans)
unfolding kind_counts
counted-once (a_loan l) = (omega arith, counts-once l.score)
counted-once (an_index i) = (omega arith, omega arith)
counted-once (a_mark m) = (omega arith, omega arith)
counted-once another = (omega arith, omega arith)
counted-once (refused n) = (omega arith, omega arith)

other-counts : {k : LineKind} → OtherKind k → (kind_counts k).other ≡ 1
unfolding kind_counts
other-counts plain = refl
other-counts (indexed i) = refl

pub counted : (s : List ℕ) → Counted s
unfolding kind_counts
counted s = record {
  loans = (counted-loan s (kind_of (line_of s)) (kind-shown s), λ (l, h). rw (loan-kind s l h) refl);
  unscored = (counted-unscored s (kind_of (line_of s)) (kind-shown s), λ (l, h, u). rw (loan-kind s l h) ((unscored-is l.score).1 u));
  fresh = (counted-fresh s (kind_of (line_of s)) (kind-shown s), λ (l, h, f). rw (loan-kind s l h) ((fresh-is l.score).1 f));
  other = (counted-other s (kind_of (line_of s)) (kind-shown s), λ (c, o, h). other-counts (other-is s c o h));
  once = (counted-once (kind_of (line_of s))).0;
  among_loans = (counted-once (kind_of (line_of s))).1;
}

-- Feeding

-- other data keeps to the limit where there is room
other_fits : (h : Header) (a : Accepted) (c : Content) → OtherForm c → index_line c ≡ 0 → (counts_in a.kept).other < 100000 → Fits h a c
other_fits h a (header x) o z k = absurd o
other_fits h a (loan l) o z k = absurd o
other_fits h a (policy p) o z k = k
other_fits h a (derivative d) o z k = k
other_fits h a (asset x) o z k = k
other_fits h a (amount x) o z k = k
other_fits h a (index i) o z k = absurd (omega (arith, z))
other_fits h a (mark m) o z k = absurd o
other_fits h a NoForm o z k = absurd o

-- what 13, 14 and 15 say
data MarkJudged (notes : List Note) (s : List ℕ) : ℕ → Type 0 where
  thirteen : (name : ℕ) → ShowsInRange s (mark (record { back = false; name = name })) → IsNoted notes name → MarkJudged notes s 13
  fourteen : (name : ℕ) → ShowsInRange s (mark (record { back = false; name = name })) → (IsNoted notes name → ⊥) → 8 ≤ length notes →
      MarkJudged notes s 14
  fifteen : (name : ℕ) → ShowsInRange s (mark (record { back = true; name = name })) → (IsNoted notes name → ⊥) → MarkJudged notes s 15

-- The rules of feeding, one for each answer.
data Judged (t : Terms) (a : Accepted) (s : List ℕ) : ℕ → Type 0 where
  by_bytes : (q : Reason) → line_of s ≡ Refusal q → Judged t a s (number_of q)
  five : (l : Loan) → ShowsInRange s (loan l) → LoanBeyond t.header (counts_in a.kept) l.score → Judged t a s 5
  twelve : (l : Loan) → ShowsInRange s (loan l) → LoanFits t.header (counts_in a.kept) l.score → ValueMissing a.kept l → Judged t a s 12
  eight : (c : Content) → OtherForm c → ShowsInRange s c → 100000 ≤ (counts_in a.kept).other → Judged t a s 8
  eleven : (i : IndexValue) → ShowsInRange s (index i) → (counts_in a.kept).other < 100000 → IsSet a.kept i.area i.month → Judged t a s 11
  by_mark : {k : ℕ} → MarkJudged a.notes s k → Judged t a s k
  fitting : (c : Content) → ShowsInRange s c → Fits t.header a c → Judged t a s 0

module _ (t : Terms) (a : Accepted) (s : List ℕ) where
  abbrev kept : List (List ℕ)
  kept = a.kept

  abbrev n : Counts
  n = counts_in kept

  abbrev marks : Kept
  marks = kept_by a.notes

  as-mark : (m : MarkLine) → ShowsInRange s (mark m) → (back : Bool) → m.back ≡ back → ShowsInRange s (mark (record { back = back; name = m.name }))
  as-mark m h back b = subst (λ (x : Bool). ShowsInRange s (mark (record { back = x; name = m.name }))) b h

  -- the answer obeys a rule
  judged-loan : (l : Loan) → ShowsInRange s (loan l) → (b m : Bool) → loan_beyond_lem t.header n l.score ≡ b →
      lacking (adjustment_of (values_in kept) l) ≡ m → Judged t a s (pick b 5 (pick m 12 0))
  judged-loan l h true m e f = five l h ((loan-test t.header n l.score).holds.0 e)
  judged-loan l h false true e f = twelve l h ((loan-test t.header n l.score).fails.0 e) (value-missing kept l f)
  judged-loan l h false false e f = fitting (loan l) h ((loan-test t.header n l.score).fails.0 e, values-set kept l f)

  judged-index : (i : IndexValue) → ShowsInRange s (index i) → (b u : Bool) → leb most_other n.other ≡ b →
      eqb (values_in kept i.area i.month) 0 ≡ u → Judged t a s (pick b 8 (pick u 0 11))
  judged-index i h true u e f = eight (index i) tt h (leb-true most_other n.other e)
  judged-index i h false true e f =
      fitting (index i) h (leb-false most_other n.other e, (not_set kept i.area i.month).0 (eqb-true (values_in kept i.area i.month) 0 f))
  judged-index i h false false e f =
      let d : values_in kept i.area i.month ≡ 0 → ⊥ = eqb-false (values_in kept i.area i.month) 0 f in
      eleven i h (leb-false most_other n.other e) ((is_set kept i.area i.month).1 (omega arith))

  judged-other : (c : Content) → OtherForm c → index_line c ≡ 0 → ShowsInRange s c → (b : Bool) → leb most_other n.other ≡ b →
      Judged t a s (pick b 8 0)
  judged-other c o z h true e = eight c o h (leb-true most_other n.other e)
  judged-other c o z h false e = fitting c h (other_fits t.header a c o z (leb-false most_other n.other e))

  judged-mark : (m : MarkLine) → ShowsInRange s (mark m) → (back named full : Bool) → m.back ≡ back → is_among m.name (names_of a.notes) ≡ named →
      leb most_marks (length a.notes) ≡ full → Judged t a s (pick back (pick named 0 15) (pick named 13 (pick full 14 0)))
  judged-mark m h true true full b e f = fitting (mark m) h (subst (λ (x : Bool). MarkFits x a.notes m.name) (sym b) (among-noted a.notes m.name e))
  judged-mark m h true false full b e f = by_mark (fifteen m.name (as-mark m h true b) ((not_noted a.notes m.name).0 e))
  judged-mark m h false true full b e f = by_mark (thirteen m.name (as-mark m h false b) (among-noted a.notes m.name e))
  judged-mark m h false false true b e f =
      by_mark (fourteen m.name (as-mark m h false b) ((not_noted a.notes m.name).0 e) (leb-true most_marks (length a.notes) f))
  judged-mark m h false false false b e f =
      fitting (mark m) h (subst (λ (x : Bool). MarkFits x a.notes m.name) (sym b)
      ((not_noted a.notes m.name).0 e, leb-false most_marks (length a.notes) f))

  judged-kind : (k : LineKind) → Shown s k → Judged t a s (refusal_for (basis_of t kept) n marks k)
  unfolding refusal_for
  judged-kind k (loan_shown l h) = judged-loan l h (loan_beyond_lem t.header n l.score) (lacking (adjustment_of (values_in kept) l)) refl refl
  judged-kind k (index_shown i h) = judged-index i h (leb most_other n.other) (eqb (values_in kept i.area i.month) 0) refl refl
  judged-kind k (mark_shown m h) =
      judged-mark m h m.back (is_among m.name (names_of a.notes)) (leb most_marks (length a.notes)) refl refl refl
  judged-kind k (other_shown c o z h) = judged-other c o z h (leb most_other n.other) refl
  judged-kind k (refused_shown r e) = by_bytes r e

  -- a rule gives its answer
  other-answer : {k : LineKind} → OtherKind k → 100000 ≤ n.other → refusal_for (basis_of t kept) n marks k ≡ 8
  unfolding refusal_for
  other-answer plain m = rw (le-leb most_other n.other m) refl
  other-answer (indexed i) m = rw (le-leb most_other n.other m) refl

  plain-answer : (c : Content) → OtherForm c → index_line c ≡ 0 → ShowsInRange s c → n.other < 100000 →
      refusal_for (basis_of t kept) n marks (kind_of (line_of s)) ≡ 0
  unfolding refusal_for content_kind
  plain-answer (header x) o z h f = absurd o
  plain-answer (loan l) o z h f = absurd o
  plain-answer (policy p) o z h f = rw (read s (policy p) tt h, lt-leb most_other n.other f) refl
  plain-answer (derivative d) o z h f = rw (read s (derivative d) tt h, lt-leb most_other n.other f) refl
  plain-answer (asset x) o z h f = rw (read s (asset x) tt h, lt-leb most_other n.other f) refl
  plain-answer (amount x) o z h f = rw (read s (amount x) tt h, lt-leb most_other n.other f) refl
  plain-answer (index i) o z h f = absurd (omega (arith, z))
  plain-answer (mark m) o z h f = absurd o
  plain-answer NoForm o z h f = absurd o

  -- a mark or return that meets none of the three
  mark-answer : (back : Bool) (name : ℕ) → ShowsInRange s (mark (record { back = back; name = name })) → MarkFits back a.notes name →
      refusal_for (basis_of t kept) n marks (kind_of (line_of s)) ≡ 0
  unfolding refusal_for
  mark-answer true name h f = rw (mark-kind s _ h, noted-among a.notes name f) refl
  mark-answer false name h f = rw (mark-kind s _ h, (not_noted a.notes name).1 f.0, lt-leb most_marks (length a.notes) f.1) refl

  fitting-answer : (c : Content) → ShowsInRange s c → Fits t.header a c → refusal_for (basis_of t kept) n marks (kind_of (line_of s)) ≡ 0
  unfolding refusal_for
  fitting-answer (header x) h f = absurd f
  fitting-answer (loan l) h f = rw (loan-kind s l h, (loan-test t.header n l.score).fails.1 f.0, set-has kept l f.1) refl
  fitting-answer (policy p) h f = plain-answer (policy p) tt refl h f
  fitting-answer (derivative d) h f = plain-answer (derivative d) tt refl h f
  fitting-answer (asset x) h f = plain-answer (asset x) tt refl h f
  fitting-answer (amount x) h f = plain-answer (amount x) tt refl h f
  fitting-answer (index i) h f =
      rw (
        index-kind s i h,
        lt-leb most_other n.other f.0,
        eq-eqb (values_in kept i.area i.month) 0 ((not_set kept i.area i.month).1 f.1),
      )
      refl
  fitting-answer (mark m) h f = mark-answer m.back m.name h f
  fitting-answer NoForm h f = absurd f

  answers : {k : ℕ} → Judged t a s k → refusal_for (basis_of t kept) n marks (kind_of (line_of s)) ≡ k
  unfolding refusal_for
  answers (by_bytes k e) = rw (refused-kind s k e) refl
  answers (five l h b) = rw (loan-kind s l h, (loan-test t.header n l.score).holds.1 b) refl
  answers (twelve l h f m) = rw (loan-kind s l h, (loan-test t.header n l.score).fails.1 f, missing-lacks kept l m) refl
  answers (eight c o h m) = other-answer (other-is s c o h) m
  answers (eleven i h m e) =
      rw (
        index-kind s i h,
        lt-leb most_other n.other m,
        ne_eqb (values_in kept i.area i.month) 0 (λ z. omega (arith, z, (is_set kept i.area i.month).0 e)),
      )
      refl
  answers (by_mark (thirteen name h e)) = rw (mark-kind s _ h, noted-among a.notes name e) refl
  answers (by_mark (fourteen name h e m)) = rw (mark-kind s _ h, (not_noted a.notes name).1 e, le-leb most_marks (length a.notes) m) refl
  answers (by_mark (fifteen name h e)) = rw (mark-kind s _ h, (not_noted a.notes name).1 e) refl
  answers (fitting c h f) = fitting-answer c h f

-- the numbers of line reading, none of which feeding gives on other grounds
data Reading : ℕ → Type 0 where
  one : Reading 1
  two : Reading 2
  seven : Reading 7
  three : Reading 3

abbrev Apart : ℕ → Type 0
Apart m = (m ≡ 0 → ⊥) × (m ≡ 5 → ⊥) × (m ≡ 12 → ⊥) × (m ≡ 8 → ⊥) × (m ≡ 11 → ⊥) × (m ≤ 7)

apart : (m : ℕ) → m ≤ 7 → (m ≡ 0 → ⊥) → (m ≡ 5 → ⊥) → Apart m
apart m h z f = (z, f, λ e. omega (arith, e), λ e. omega (arith, e), λ e. omega (arith, e), h)

not-counts : {m : ℕ} → Reading m → Apart m
not-counts one = apart 1 (omega arith) (λ z. omega (arith, z)) (λ z. omega (arith, z))
not-counts two = apart 2 (omega arith) (λ z. omega (arith, z)) (λ z. omega (arith, z))
not-counts seven = apart 7 (omega arith) (λ z. omega (arith, z)) (λ z. omega (arith, z))
not-counts three = apart 3 (omega arith) (λ z. omega (arith, z)) (λ z. omega (arith, z))

read_answer : (t : Terms) (a : Accepted) (s : List ℕ) {m : ℕ} → Reading m → line_refusal (line_of s) ≡ m → refusal_of t a s ≡ m
read_answer t a s {m} r e =
    let (q, l, k) = refused-line (line_of s) m e (not-counts r).0 in
    answers t a s (by_bytes q l) ∙ k

-- line reading refuses with them alone
by-reading : (s : List ℕ) (q : Reason) → line_of s ≡ Refusal q → Reading (number_of q)
by-reading s q e =
    let n = number_of q in
    ⊎_elim (λ (x : n ≡ 1). subst Reading (sym x) one) (⊎_elim (λ (x : n ≡ 2). subst Reading (sym x) two)
    (⊎_elim (λ (x : n ≡ 7). subst Reading (sym x) seven) (λ (x : n ≡ 3). subst Reading (sym x) three))) (line_numbers s q e)

mark-least : {notes : List Note} {s : List ℕ} {k : ℕ} → MarkJudged notes s k → 13 ≤ k
mark-least (thirteen name h e) = omega arith
mark-least (fourteen name h e m) = omega arith
mark-least (fifteen name h e) = omega arith

module _ {t : Terms} {a : Accepted} {s : List ℕ} where
  rule-bytes : {k m : ℕ} → Reading m → Judged t a s k → k ≡ m → line_refusal (line_of s) ≡ m
  rule-bytes r (by_bytes k e) f = ap line_refusal e ∙ f
  rule-bytes r (five l h b) f = absurd ((not-counts r).1 (sym f))
  rule-bytes r (twelve l h b m) f = absurd ((not-counts r).2 (sym f))
  rule-bytes r (eight c o h b) f = absurd ((not-counts r).3 (sym f))
  rule-bytes r (eleven i h b m) f = absurd ((not-counts r).4 (sym f))
  rule-bytes r (by_mark j) f = absurd (omega (arith, f, mark-least j, (not-counts r).5))
  rule-bytes r (fitting c h b) f = absurd ((not-counts r).0 (sym f))

  rule-5 : {k : ℕ} → Judged t a s k → k ≡ 5 → (l : Loan) × ShowsInRange s (loan l) × LoanBeyond t.header (counts_in a.kept) l.score
  rule-5 (by_bytes k e) f = absurd ((not-counts (by-reading s k e)).1 f)
  rule-5 (five l h b) f = (l, h, b)
  rule-5 (twelve l h b m) f = absurd (omega (arith, f))
  rule-5 (eight c o h b) f = absurd (omega (arith, f))
  rule-5 (eleven i h b m) f = absurd (omega (arith, f))
  rule-5 (by_mark j) f = absurd (omega (arith, f, mark-least j))
  rule-5 (fitting c h b) f = absurd (omega (arith, f))

  rule-12 : {k : ℕ} → Judged t a s k → k ≡ 12 →
      (l : Loan) × ShowsInRange s (loan l) × LoanFits t.header (counts_in a.kept) l.score × ValueMissing a.kept l
  rule-12 (by_bytes k e) f = absurd ((not-counts (by-reading s k e)).2 f)
  rule-12 (five l h b) f = absurd (omega (arith, f))
  rule-12 (twelve l h b m) f = (l, h, b, m)
  rule-12 (eight c o h b) f = absurd (omega (arith, f))
  rule-12 (eleven i h b m) f = absurd (omega (arith, f))
  rule-12 (by_mark j) f = absurd (omega (arith, f, mark-least j))
  rule-12 (fitting c h b) f = absurd (omega (arith, f))

  rule-8 : {k : ℕ} → Judged t a s k → k ≡ 8 → (c : Content) × OtherForm c × ShowsInRange s c × (100000 ≤ (counts_in a.kept).other)
  rule-8 (by_bytes k e) f = absurd ((not-counts (by-reading s k e)).3 f)
  rule-8 (five l h b) f = absurd (omega (arith, f))
  rule-8 (twelve l h b m) f = absurd (omega (arith, f))
  rule-8 (eight c o h b) f = (c, o, h, b)
  rule-8 (eleven i h b m) f = absurd (omega (arith, f))
  rule-8 (by_mark j) f = absurd (omega (arith, f, mark-least j))
  rule-8 (fitting c h b) f = absurd (omega (arith, f))

  rule-11 : {k : ℕ} → Judged t a s k → k ≡ 11 →
      (i : IndexValue) × ShowsInRange s (index i) × ((counts_in a.kept).other < 100000) × IsSet a.kept i.area i.month
  rule-11 (by_bytes k e) f = absurd ((not-counts (by-reading s k e)).4 f)
  rule-11 (five l h b) f = absurd (omega (arith, f))
  rule-11 (twelve l h b m) f = absurd (omega (arith, f))
  rule-11 (eight c o h b) f = absurd (omega (arith, f))
  rule-11 (eleven i h b m) f = (i, h, b, m)
  rule-11 (by_mark j) f = absurd (omega (arith, f, mark-least j))
  rule-11 (fitting c h b) f = absurd (omega (arith, f))

  rule-0 : {k : ℕ} → Judged t a s k → k ≡ 0 → (c : Content) × ShowsInRange s c × Fits t.header a c
  rule-0 (by_bytes k e) f = absurd ((not-counts (by-reading s k e)).0 f)
  rule-0 (five l h b) f = absurd (omega (arith, f))
  rule-0 (twelve l h b m) f = absurd (omega (arith, f))
  rule-0 (eight c o h b) f = absurd (omega (arith, f))
  rule-0 (eleven i h b m) f = absurd (omega (arith, f))
  rule-0 (by_mark j) f = absurd (omega (arith, f, mark-least j))
  rule-0 (fitting c h b) f = (c, h, b)

  -- a number above 12 is that of a mark or return
  above : {k : ℕ} → Judged t a s k → 13 ≤ k → MarkJudged a.notes s k
  above (by_bytes k e) f = absurd (omega (arith, f, (not-counts (by-reading s k e)).5))
  above (five l h b) f = absurd (omega (arith, f))
  above (twelve l h b m) f = absurd (omega (arith, f))
  above (eight c o h b) f = absurd (omega (arith, f))
  above (eleven i h b m) f = absurd (omega (arith, f))
  above (by_mark j) f = j
  above (fitting c h b) f = absurd (omega (arith, f))

module _ {notes : List Note} {s : List ℕ} where
  rule-13 : {k : ℕ} → MarkJudged notes s k → k ≡ 13 → (name : ℕ) × ShowsInRange s (mark (record { back = false; name = name })) × IsNoted notes name
  rule-13 (thirteen name h e) f = (name, h, e)
  rule-13 (fourteen name h e m) f = absurd (omega (arith, f))
  rule-13 (fifteen name h e) f = absurd (omega (arith, f))

  rule-14 : {k : ℕ} → MarkJudged notes s k → k ≡ 14 →
      (name : ℕ) × ShowsInRange s (mark (record { back = false; name = name })) × (IsNoted notes name → ⊥) × (8 ≤ length notes)
  rule-14 (thirteen name h e) f = absurd (omega (arith, f))
  rule-14 (fourteen name h e m) f = (name, h, e, m)
  rule-14 (fifteen name h e) f = absurd (omega (arith, f))

  rule-15 : {k : ℕ} → MarkJudged notes s k → k ≡ 15 → (name : ℕ) × ShowsInRange s (mark (record { back = true; name = name })) × (IsNoted notes name → ⊥)
  rule-15 (thirteen name h e) f = absurd (omega (arith, f))
  rule-15 (fourteen name h e m) f = absurd (omega (arith, f))
  rule-15 (fifteen name h e) f = (name, h, e)

pub feeding-answer : (t : Terms) (a : Accepted) (s : List ℕ) → FeedingAnswer t a s (refusal_of t a s)
feeding-answer t a s =
    let r : LineReading s (line_of s) = line_reading s in
    let j : Judged t a s (refusal_of t a s) = judged-kind t a s (kind_of (line_of s)) (kind-shown s) in
    record {
      taken = (λ e. rule-0 j e, λ (c, h, f). answers t a s (fitting c h f));
      number_1 = (λ e. r.refused1.0 (rule-bytes one j e), λ e. read_answer t a s one (r.refused1.1 e));
      number_2 = (λ e. r.refused2.0 (rule-bytes two j e), λ e. read_answer t a s two (r.refused2.1 e));
      number_7 = (
        λ e. let (x, w, y) = r.refused7.0 (rule-bytes seven j e) in (x, record { writable = w; bytes = y }),
        λ (x, k). read_answer t a s seven ((r.refused7.1 (x, k.writable, k.bytes))),
      );
      number_3 = (
        λ e. let (c, o, w, i, y) = r.refused3.0 (rule-bytes three j e) in (c, o, record { writable = w; bytes = y }, i),
        λ (c, o, k, i). read_answer t a s three ((r.refused3.1 (c, o, k.writable, i, k.bytes))),
      );
      number_5 = (λ e. rule-5 j e, λ (l, h, b). answers t a s (five l h b));
      number_12 = (λ e. rule-12 j e, λ (l, h, b, m). answers t a s (twelve l h b m));
      number_8 = (λ e. rule-8 j e, λ (c, o, h, b). answers t a s (eight c o h b));
      number_11 = (λ e. rule-11 j e, λ (i, h, b, m). answers t a s (eleven i h b m));
      number_13 = (λ e. rule-13 (above j (omega (arith, e))) e, λ (name, h, e). answers t a s (by_mark (thirteen name h e)));
      number_14 = (λ e. rule-14 (above j (omega (arith, e))) e, λ (name, h, e, m). answers t a s (by_mark (fourteen name h e m)));
      number_15 = (λ e. rule-15 (above j (omega (arith, e))) e, λ (name, h, e). answers t a s (by_mark (fifteen name h e)));
    }

-- Closing

pub closing-answer : (least : ℕ) (t : Terms) (a : Accepted) (size : ℕ) →
    ClosingAnswer least t a size (closing_refusal_lem least t.header (counts_in a.kept) size)
closing-answer least t a size = record {
  number_6 = closes-6 least t.header (counts_in a.kept) size;
  number_9 = closes-9 least t.header (counts_in a.kept) size;
  writes = closes-0 least t.header (counts_in a.kept) size;
}

-- Opening

-- A header's number other than 0 and 10 is opening's, whatever the sheet.
same_number : (sheet : List ℕ) (l : Result Header Reason) (n : ℕ) → (n ≡ 0 → ⊥) → (n ≡ 10 → ⊥) → ((opening_for sheet l).refusal ≡ n) ↔ (header_refusal l ≡ n)
same_number sheet l n z x = go (case_of sheet l)
  where
    go : {l : Result Header Reason} → Case sheet l → ((opening_for sheet l).refusal ≡ n) ↔ (header_refusal l ≡ n)
    go (book_opens h e) = (λ k. absurd (z (sym k ∙ number (sheet-passes sheet h e))), λ k. absurd (z (sym k)))
    go (sheet_refused h e) = (λ k. absurd (x (sym k ∙ number (sheet-fails sheet h e))), λ k. absurd (z (sym k)))
    go (header_refused m) = (λ k. sym (number (header-fails sheet m)) ∙ k, λ k. number (header-fails sheet m) ∙ k)

-- a book opened is that of the header read, under a sheet that passes
opened-header : (sheet : List ℕ) (l : Result Header Reason) (h : Header) → ((q : Reason) → l ≡ Err q → number_of q ≡ 0 → ⊥) → opening_for sheet l ≡ opened_under sheet h →
    (l ≡ Ok h) × (sheet_passes sheet ≡ true)
opened-header sheet l h b e = go (case_of sheet l) b e
  where
    go : {l : Result Header Reason} → Case sheet l → ((q : Reason) → l ≡ Err q → number_of q ≡ 0 → ⊥) → opening_for sheet l ≡ opened_under sheet h →
        (l ≡ Ok h) × (sheet_passes sheet ≡ true)
    go (book_opens x p) b e = (ap (λ (a : Answer). Ok a.state.book.header) (sym (sheet-passes sheet x p) ∙ e), p)
    go (sheet_refused x p) b e = absurd (omega (arith, number (sym (sheet-fails sheet x p) ∙ e)))
    go (header_refused n) b e = absurd (b n refl (number (sym (header-fails sheet n) ∙ e)))

-- 10 is the sheet's alone
turned_down : (sheet : List ℕ) (l : Result Header Reason) → ((q : Reason) → l ≡ Err q → number_of q ≡ 10 → ⊥) → (opening_for sheet l).refusal ≡ 10 →
    ((h : Header) × (l ≡ Ok h)) × (sheet_passes sheet ≡ false)
turned_down sheet l b e = go (case_of sheet l) b e
  where
    go : {l : Result Header Reason} → Case sheet l → ((q : Reason) → l ≡ Err q → number_of q ≡ 10 → ⊥) → (opening_for sheet l).refusal ≡ 10 →
        ((h : Header) × (l ≡ Ok h)) × (sheet_passes sheet ≡ false)
    go (book_opens h p) b e = absurd (omega (arith, sym (number (sheet-passes sheet h p)) ∙ e))
    go (sheet_refused h p) b e = ((h, refl), p)
    go (header_refused n) b e = absurd (b n refl (sym (number (header-fails sheet n)) ∙ e))

-- a sheet fails exactly where it does not keep the rules
breaks : (sheet : List ℕ) → (sheet_passes sheet ≡ false) ↔ (SheetRules sheet → ⊥)
breaks sheet = (λ e r. true≢false (sym (passes sheet r) ∙ e), λ n. go n (sheet_passes sheet) refl)
  where
    go : (SheetRules sheet → ⊥) → (t : Bool) → sheet_passes sheet ≡ t → t ≡ false
    go n true e = absurd (n (rules sheet e))
    go n false e = refl

-- the numbers of a header's refusal are neither 0 nor 10
pub header-number : (n : ℕ) → (n ≡ 1) ⊎ (n ≡ 2) ⊎ (n ≡ 7) ⊎ (n ≡ 3) ⊎ (n ≡ 4) → (n ≡ 0 → ⊥) × (n ≡ 10 → ⊥)
header-number n k =
    ⊎_elim (out 1 (omega arith) (omega arith)) (⊎_elim (out 2 (omega arith) (omega arith)) (⊎_elim (out 7 (omega arith) (omega arith))
    (⊎_elim (out 3 (omega arith) (omega arith)) (out 4 (omega arith) (omega arith))))) k
  where
    out : (x : ℕ) → 1 ≤ x → x ≤ 7 → n ≡ x → (n ≡ 0 → ⊥) × (n ≡ 10 → ⊥)
    out x low high e = (λ z. omega (arith, e, z), λ z. omega (arith, e, z))

-- what a header that is read shows
opens-read : (s : List ℕ) (h : Header) → (header_of s ≡ Ok h) ↔ Opens s h
opens-read s h = (
  λ e. let (w, i, u, y) = (header-accepted s h).0 e in (record { shows = record { writable = w; bytes = y }; within_range = i }, u),
  λ (k, u). (header-accepted s h).1 (k.shows.writable, k.within_range, u, k.shows.bytes),
)

pub openings : (sheet s : List ℕ) → OpeningAnswer sheet s (opening sheet s)
openings sheet s =
    let r : HeaderReading s (header_of s) = header_reading s in
    let n1 = same_number sheet (header_of s) 1 (λ e. omega (arith, e)) (λ e. omega (arith, e)) in
    let n2 = same_number sheet (header_of s) 2 (λ e. omega (arith, e)) (λ e. omega (arith, e)) in
    let n7 = same_number sheet (header_of s) 7 (λ e. omega (arith, e)) (λ e. omega (arith, e)) in
    let n3 = same_number sheet (header_of s) 3 (λ e. omega (arith, e)) (λ e. omega (arith, e)) in
    let n4 = same_number sheet (header_of s) 4 (λ e. omega (arith, e)) (λ e. omega (arith, e)) in
    record {
      opens = λ h. (
        λ e. let (k, p) = opened-header sheet (header_of s) h (λ q f. (header-number (number_of q) (header-numbers s q f)).0) e in
            ((opens-read s h).0 k, rules sheet p),
        λ (k, p). ap (opening_for sheet) ((opens-read s h).1 k) ∙ sheet-passes sheet h (passes sheet p),
      );
      number_1 = (λ e. r.refused1.0 (n1.0 e), λ e. n1.1 (r.refused1.1 e));
      number_2 = (λ e. r.refused2.0 (n2.0 e), λ e. n2.1 (r.refused2.1 e));
      number_7 = (
        λ e. let (c, a, w, y) = r.refused7.0 (n7.0 e) in (c, a, record { writable = w; bytes = y }),
        λ (c, a, k). n7.1 (r.refused7.1 (c, a, k.writable, k.bytes)),
      );
      number_3 = (
        λ e. let (h, w, i, y) = r.refused3.0 (n3.0 e) in (h, record { writable = w; bytes = y }, i),
        λ (h, k, i). n3.1 (r.refused3.1 (h, k.writable, i, k.bytes)),
      );
      number_4 = (
        λ e. let (h, w, i, u, y) = r.refused4.0 (n4.0 e) in (h, record { shows = record { writable = w; bytes = y }; within_range = i }, u),
        λ (h, k, u). n4.1 (r.refused4.1 (h, k.shows.writable, k.within_range, u, k.shows.bytes)),
      );
      number_10 = (
        λ e. let ((h, k), f) = turned_down sheet (header_of s) (λ q f. (header-number (number_of q) (header-numbers s q f)).1) e in
            ((h, (opens-read s h).0 k), (breaks sheet).0 f),
        λ ((h, k), f). number (ap (opening_for sheet) ((opens-read s h).1 k) ∙ sheet-fails sheet h ((breaks sheet).1 f)),
      );
    }

pub demand2 : Demand2
demand2 = record {
  openings = openings;
  counted = counted;
  feedings = λ sheet header lines s.
      let a : Accepted = accepted_of (all_fed (opened sheet header) lines) in
      rw ((demand3 sheet header lines).closes.answers s) (feeding-answer (terms_of (opened sheet header)) a s);
  closings = λ sheet header lines size.
      let a : Accepted = accepted_of (all_fed (opened sheet header) lines) in
      rw ((demand3 sheet header lines).closes.report.refusal size) (closing-answer report_size (terms_of (opened sheet header)) a size);
  cells_closings = λ sheet header lines size.
      let a : Accepted = accepted_of (all_fed (opened sheet header) lines) in
      rw ((loan_table.closes sheet header lines).refusal size) (closing-answer cells_size (terms_of (opened sheet header)) a size);
}
