-- Demand 3 over the definitions, with no hypothesis. Assumes nothing.
use mathlib.Core.Path.{◌≡◌, refl, sym, ◌∙◌, ap, ap₂, subst}
use mathlib.Core.Bool.{Bool, true, false}
use mathlib.Core.List.{List, [], ◌∷◌, ◌++◌, map, append_assoc, Permᴰ}
use mathlib.Core.Logic.{◌↔◌, ⊎_elim}
use Prim.Native.Nat.{ℕ, suc, ◌<◌}
use native.Mathlib.Omega.{arith}
use lib.Dec.{eqb, eqb→eq}
use lib.ListN.{length, get_or, take, drop, length-append}
use lib.Seq.{take_at, take-suc, split_at}
use borrow.Author.Tests.{ltb-true, eqb-false}
use Rattle.exact.specs.Choice.{pick}
use Rattle.exact.specs.Fraction.{whole, ◌⊕◌, ◌≼◌, ◌≺◌}
use Rattle.exact.specs.Quantity.{Eventually}
use Rattle.exact.proofs.Quantities.{at-every-order, mapped, some-allowed}
use Rattle.loan_charge.specs.CreditFactor.{RatesInRange}
use Rattle.line_forms.specs.declared.MarkLine.{MarkLine}
use Rattle.line_forms.specs.declared.Content.{Content}
use Rattle.line_forms.specs.declared.Content.TheVariants.{Mark as mark}
use Rattle.line_forms.specs.Claims.{ShowsInRange, line_refusal, line_content}
use Rattle.line_forms.specs.Readings.{line_of, header_of}
use Rattle.figures.specs.declared.Counts.{Counts}
use Rattle.figures.specs.declared.Figures.{Figures}
use Rattle.figures.specs.declared.Sums.{Sums}
use Rattle.figures.specs.Figures.{figures_from, figures_of}
use Rattle.figures.specs.Sums.{sum_of}
use Rattle.figures.proofs.SumsLaws.{sum-permuted}
use Rattle.exact.specs.Text.{text}
use Rattle.report.specs.Decimal.{digits}
use Rattle.report.specs.Line.{line, line_count, onto}
use Rattle.report.proofs.Decimal.{digits_value, signed-whole}
use Rattle.report.proofs.LineCounts.{Lines, one_line, together}
use Rattle.book_report.specs.Report.{unsigned, value_line, ratio_line, head_text, report_text}
use Rattle.book_model.specs.declared.Book.{Book}
use Rattle.book_model.specs.Accepted.{Note, Accepted, counts_in, refusal_for, names_of, kept_by, refusal_of, no_note, place_of_note, taken_up, noted, added}
use Rattle.book_model.specs.Accepted.{with_mark, accept}
use Rattle.book_model.specs.Calls.{State, Answer, state_at, empty_book, opening, feeding, closing_refusal_lem}
use Rattle.book_model.specs.Calls.{closing_with, closed_with, report_size, report_of}
use Rattle.book_model.specs.Demand3.{figures_for, report_for, after_lines, hundredths_per_loan, allowance, Writes, LedgerTakes, adds, notes, returns, Closes}
use Rattle.book_model.specs.Demand3.{LoanNumbers, Measured}
use Rattle.book_model.specs.Demand3.{SameTexts}
use Rattle.book_model.specs.Demand3.{SameReports, Demand3}
use Rattle.book_model.specs.Exact.{requirement_by, requirement}
use Rattle.book_model.specs.History.{History, opened, fed, all_fed, terms_of, accepted_of, lines_taken, sums_by, sums_of}
use Rattle.book_model.specs.HouseIndex.{set_by, values_in}
use Rattle.book_model.specs.LineKinds.{of_mark, content_kind, sum_by}
use Rattle.book_model.specs.Marks.{is_among, mark_refusal}
use Rattle.book_model.specs.Share.{share}
use Rattle.book_model.specs.Terms.{Terms, Basis, basis_of, terms_for}
use Rattle.book_model.proofs.Adjustments.{Settled}
use Rattle.book_model.proofs.Bounds.{Near}
use Rattle.book_model.proofs.Closings.{untouched, writes, tells}
use Rattle.book_model.proofs.Dependence.{requirement-determined}
use Rattle.book_model.proofs.ExactSums.{rest_sum, moved_sum, rounded-is}
use Rattle.book_model.proofs.Feeding.{opening_sound}
use Rattle.book_model.proofs.IndexTables.{none-set}
use Rattle.book_model.proofs.Ledger.{Good, GoodLedger, in-hundredths, ledger-of, good_of, taken-mark, accepts, leaves, names-length, named-at, name-at}
use Rattle.book_model.proofs.LineSums.{sum-permuted as line-sum-permuted}
use Rattle.book_model.proofs.LoanNumbers.{loan-numbers}
use Rattle.book_model.proofs.MarkRows.{HeldMark, a_mark, no_mark, held-mark}
use Rattle.book_model.proofs.Notes.{member, mark-content, noted-among}
use Rattle.book_model.proofs.Near.{ChargeableBasis, rates-chargeable}
use Rattle.book_model.proofs.Ranged.{ranged-header}
use Rattle.book_model.proofs.Required.{required_for, near, list-exponents}
use Rattle.book_model.proofs.SetValues.{shown}
use Rattle.book_model.proofs.Steps.{book_of, state_of, counts, no-notes, step}
use Rattle.book_model.proofs.Tables.{no_cells}

-- The state after a list of lines is the state of the accepted lines.

pub one_more : (past : History) (s : List ℕ) → (terms_of (fed past s) ≡ terms_of past) × (accept (terms_of past) (accepted_of past) s ≡ accepted_of (fed past s))
unfolding terms_of accepted_of
one_more past s = (refl, refl)

-- one feeding more
pub fed-is : (past : History) (s : List ℕ) → (feeding (state_of (terms_of past) (accepted_of past)) s).state ≡ state_of (terms_of (fed past s))
    (accepted_of (fed past s))
unfolding terms_of accepted_of
fed-is past s = ap (λ (a : Answer). a.state) (step (terms_of past) (accepted_of past) (ledger-of past) s)

pub chain : (past : History) (lines : List (List ℕ)) → after_lines (state_of (terms_of past) (accepted_of past)) lines ≡ state_of (terms_of (all_fed past lines))
    (accepted_of (all_fed past lines))
unfolding after_lines all_fed
chain past [] = refl
chain past (s ∷ lines) = ap (λ (x : State). after_lines x lines) (fed-is past s) ∙ chain (fed past s) lines

-- the state just opened has no line taken
pub opened-is : (sheet header : List ℕ) → (opening sheet header).state ≡ state_of (terms_of (opened sheet header)) (accepted_of (opened sheet header))
unfolding sums_by sum_of sum_by terms_of accepted_of
opened-is sheet header =
    let t = terms_for sheet (header_of header) in
    λ i. state_at (empty_book t.header) t.rates (no_cells (basis_of t []) i) (none-set i) (no-notes t i)

-- the terms of a list of lines are those of its header
pub terms-stay : (past : History) (lines : List (List ℕ)) → terms_of (all_fed past lines) ≡ terms_of past
unfolding all_fed
terms-stay past [] = refl
terms-stay past (s ∷ lines) = terms-stay (fed past s) lines ∙ (one_more past s).0

-- the state of a list of lines after its header is that of its history
pub reached : (sheet header : List ℕ) (lines : List (List ℕ)) → after_lines (opening sheet header).state lines ≡
    state_of (terms_of (all_fed (opened sheet header) lines)) (accepted_of (all_fed (opened sheet header) lines))
reached sheet header lines = ap (λ (x : State). after_lines x lines) (opened-is sheet header) ∙ chain (opened sheet header) lines

pub after_is : (sheet header : List ℕ) (lines : List (List ℕ)) →
    after_lines (opening sheet header).state lines ≡ state_of (terms_of (opened sheet header)) (accepted_of (all_fed (opened sheet header) lines))
after_is sheet header lines =
    reached sheet header lines
    ∙ ap (λ (t : Terms). state_of t (accepted_of (all_fed (opened sheet header) lines))) (terms-stay (opened sheet header) lines)

-- every history is opened under rates in range
pub terms-in-range : (past : History) → RatesInRange (terms_of past).rates
unfolding terms_of
terms-in-range (opened sheet header) = (opening_sound sheet (header_of header) (ranged-header header)).rates
terms-in-range (fed past line) = terms-in-range past

-- The report

pub report-is : (t : Terms) (kept : List (List ℕ)) → report_of (book_of t kept) ≡ report_for t kept
unfolding report_for figures_for figures_of
report-is t kept =
    ap₂ (λ (rest moved : ℕ). report_text (figures_from t.header.held rest moved (sums_of t kept)))
    (rounded-is (sums_of t kept).rest (rest_sum (basis_of t kept) kept)) (rounded-is (sums_of t kept).moved (moved_sum (basis_of t kept) kept))

-- A list does not grow by an element and stay the same.
not_itself : (kept : List (List ℕ)) (s : List ℕ) → kept ≡ kept ++ (s ∷ []) → ⊥
not_itself kept s e = omega (arith, simp length-append at (ap length e))

-- What the ledger does with a line that meets no refusal

module _ (t : Terms) (a : Accepted) (s : List ℕ) where
  -- a line that is neither a mark nor a return is added
  pub unmarked-added : refusal_of t a s ≡ 0 → ((m : MarkLine) → ShowsInRange s (mark m) → ⊥) → accept t a s ≡ added a s
  unmarked-added e n = accepts t a s e ∙ go (held-mark (line_content (line_of s))) refl
    where
      go : {c : Content} → HeldMark c → line_content (line_of s) ≡ c → of_mark (with_mark a) (added a s) c ≡ added a s
      go (a_mark m) f = absurd (n m (shown s (mark m) tt f))
      go (no_mark k) f = k Accepted (with_mark a) (added a s)

  -- a mark or return, by its bytes
  shows-mark : (m : MarkLine) → line_content (line_of s) ≡ mark m → (refusal_of t a s ≡ mark_refusal (kept_by a.notes) m) × ShowsInRange s (mark m)
  unfolding refusal_for content_kind
  shows-mark m e = (
    ap (λ (c : Content). refusal_for (basis_of t a.kept) (counts_in a.kept) (kept_by a.notes) (content_kind (line_refusal (line_of s)) c)) e,
    shown s (mark m) tt e,
  )

  -- the mark that is taken
  takes-mark : (m : MarkLine) → line_content (line_of s) ≡ mark m → refusal_of t a s ≡ 0 → LedgerTakes t a s
  takes-mark m e z =
      let (r, shown) = shows-mark m e in
      let after : accept t a s ≡ with_mark a m = accepts t a s z ∙ ap (of_mark (with_mark a) (added a s)) e in
      ⊎_elim
      (λ (b, n).
      let at : ℕ = place_of_note a m.name in
      let p : at < length (names_of a.notes) = ltb-true at (length (names_of a.notes)) n in
      let q : at < length a.notes = omega (arith, p, names-length a.notes) in
      let note : Note = get_or a.notes at no_note in
      let named : note.name ≡ m.name = sym (name-at a.notes at) ∙ named-at m.name (names_of a.notes) p in
      returns (take at a.notes) note (drop (suc at) a.notes)
      (subst (λ (x : MarkLine). ShowsInRange s (mark x)) (λ i. record { back = b i; name = sym named i }) shown)
      (split_at a.notes at no_note q)
      (after ∙ ap (λ (x : Bool). pick x (taken_up a m.name) (noted a m.name)) b
      ∙ (λ i. record { kept = note.list; notes = take-suc a.notes at no_note q i })))
      (λ (b, n, f).
      notes m.name (subst (λ (x : Bool). ShowsInRange s (mark (record { back = x; name = m.name }))) b shown)
      (after ∙ ap (λ (x : Bool). pick x (taken_up a m.name) (noted a m.name)) b))
      (taken-mark (kept_by a.notes) m (sym r ∙ z))

  takes-line : refusal_of t a s ≡ 0 → LedgerTakes t a s
  takes-line z = go (held-mark (line_content (line_of s))) refl
    where
      go : {c : Content} → HeldMark c → line_content (line_of s) ≡ c → LedgerTakes t a s
      go (a_mark m) e = takes-mark m e z
      go (no_mark k) e = adds (accepts t a s z ∙ ap (of_mark (with_mark a) (added a s)) e ∙ k Accepted (with_mark a) (added a s))

  -- a line that is refused is none of the three
  number-taken : LedgerTakes t a s → refusal_of t a s ≡ 0
  number-taken h = go (eqb (refusal_of t a s) 0) refl h
    where
      go : (test : Bool) → eqb (refusal_of t a s) 0 ≡ test → LedgerTakes t a s → refusal_of t a s ≡ 0
      go true f h = eqb→eq (refusal_of t a s) 0 (rw f tt)
      go false f (adds e) = absurd (not_itself a.kept s (ap (λ (x : Accepted). x.kept) (sym (leaves t a s (eqb-false (refusal_of t a s) 0 f)) ∙ e)))
      go false f (notes name k e) =
          absurd (omega (
            arith,
            ap (λ (x : Accepted). length x.notes) (sym (leaves t a s (eqb-false (refusal_of t a s) 0 f)) ∙ e),
            length-append a.notes (record { name = name; list = a.kept } ∷ []),
          ))
      go false f (returns before note after k e g) =
          let m : MarkLine = record { back = true; name = note.name } in
          let n : is_among note.name (names_of a.notes) ≡ true = noted-among a.notes note.name
          (record { note = note; kept = rw e (member before note after); named = refl }) in
          (shows-mark m (mark-content s m k)).0 ∙ rw n refl

taken_is : (t : Terms) (a : Accepted) (s : List ℕ) → (refusal_of t a s ≡ 0) ↔ LedgerTakes t a s
taken_is t a s = (takes-line t a s, number-taken t a s)

-- A closing of the book of the accepted lines, whatever it writes.
pub writes-of : (least : ℕ) (t : Terms) (a : Accepted) (text : List ℕ) →
    Writes least t a text (closing_with least (book_of t a.kept) text) (closed_with least (book_of t a.kept) text)
unfolding closing_with
writes-of least t a text = record {
  refusal = λ size. ap (λ (c : Counts). closing_refusal_lem least t.header c size) (counts t a.kept);
  untouched = λ buffer n. untouched least (book_of t a.kept) text buffer n;
  written = λ buffer e. writes least (book_of t a.kept) text buffer e;
  told = λ size e. tells least (book_of t a.kept) text size e;
}

pub closes-of : (t : Terms) (a : Accepted) → GoodLedger a → Closes t a (state_of t a)
closes-of t a h = record {
  answers = λ s. ap (λ (x : Answer). x.refusal) (step t a h s);
  taken = λ s. rw (ap (λ (x : Answer). x.refusal) (step t a h s)) (taken_is t a s);
  left = λ s n. leaves t a s (λ z. n (ap (λ (x : Answer). x.refusal) (step t a h s) ∙ z));
  report = rw (← report-is t a.kept) (writes-of report_size t a (report_of (book_of t a.kept)));
}

-- The required amount

-- rest rounded up once is the same in the book and from the lines
required_is : (t : Terms) (kept : List (List ℕ)) → required_for t kept ≡ (figures_for t kept).required
unfolding figures_for figures_of
required_is t kept = rw (rounded-is (sums_of t kept).rest (rest_sum (basis_of t kept) kept)) refl

regroup : (a b c d e f : List ℕ) → a ++ (b ++ c ++ d ++ e ++ f) ≡ (a ++ (b ++ c)) ++ d ++ (e ++ f)
regroup a b c d e f = simp append_assoc

-- a report begins as its first line, whatever follows it: with a parenthesis and an l
pub begins : (f : Figures) (more : List ℕ) → (get_or (report_text f) 1 0 ≡ 108) × (get_or (report_text f ++ more) 1 0 ≡ 108)
unfolding report_text
begins f more = (refl, refl)

-- the seven lines before `required`
abbrev before_required : Figures → List ℕ
before_required f = head_text f ++ (value_line "rest" (unsigned f.rest) ++ value_line "oper" (unsigned f.oper))

-- the eighth line among the ten
eighth : (f : Figures) →
    report_text f ≡
    before_required f
    ++ value_line "required" (unsigned f.required)
    ++ (value_line "capital" f.capital ++ ratio_line f.ratio)
unfolding report_text
eighth f =
    regroup (head_text f) (value_line "rest" (unsigned f.rest)) (value_line "oper" (unsigned f.oper))
    (value_line "required" (unsigned f.required)) (value_line "capital" f.capital) (ratio_line f.ratio)

seven : (f : Figures) → Lines (before_required f) 7
unfolding line_count
seven f =
    together
    (together
    (together
    (together (together (one_line (text "loans") (unsigned f.loans) refl) (one_line (text "total") f.total refl))
    (one_line (text "supplement") f.supplement refl))
    (one_line (text "home") (unsigned f.home) refl))
    (one_line (text "moved") (unsigned f.moved) refl))
    (together (one_line (text "rest") (unsigned f.rest) refl) (one_line (text "oper") (unsigned f.oper) refl))

-- and of them the first three
abbrev after_supplement : Figures → List ℕ
after_supplement f =
    value_line "home" (unsigned f.home) ++ value_line "moved" (unsigned f.moved) ++ value_line "rest" (unsigned f.rest)
    ++ value_line "oper" (unsigned f.oper)

first_three : (f : Figures) (loans : ℕ) → f.loans ≡ loans → before_required f ≡
    line (text "loans") (digits loans ∷ []) ++ value_line "total" f.total ++ value_line "supplement" f.supplement ++ after_supplement f
first_three f loans e = rw (← signed-whole loans, ← e)
    (parted (value_line "loans" (unsigned f.loans) ++ value_line "total" f.total ++ value_line "supplement" f.supplement)
    (value_line "home" (unsigned f.home)) (value_line "moved" (unsigned f.moved)) (value_line "rest" (unsigned f.rest))
    (value_line "oper" (unsigned f.oper)))
  where
    parted : (a b c d e : List ℕ) → (a ++ b ++ c) ++ (d ++ e) ≡ a ++ (b ++ c ++ d ++ e)
    parted a b c d e = simp append_assoc

-- the report counts the loans taken
loans-counted : (t : Terms) (kept : List (List ℕ)) → (figures_for t kept).loans ≡ (counts_in kept).loans
unfolding figures_for
loans-counted t kept = ap (λ (c : Counts). c.loans) (counts t kept)

-- the lines taken can be charged by their own index values
taken-chargeable : (t : Terms) → RatesInRange t.rates → (kept : List (List ℕ)) → Good kept → ChargeableBasis (basis_of t kept)
taken-chargeable t r kept h = record { factors = rates-chargeable t r; values = in-hundredths kept h }

near-taken : (t : Terms) → RatesInRange t.rates → (kept : List (List ℕ)) → Good kept →
    Eventually (λ x. Near ((requirement t kept).value x) (figures_for t kept).required hundredths_per_loan (counts_in kept).loans)
near-taken t r kept h = rw (required_is t kept) at (near hundredths_per_loan (omega arith) kept (taken-chargeable t r kept h) h.settled)

-- total and supplement are those of the sums
loans-measured : (t : Terms) (kept : List (List ℕ)) → ChargeableBasis (basis_of t kept) → Settled (values_in kept) kept →
    LoanNumbers (basis_of t kept) kept (figures_for t kept)
unfolding figures_for
loans-measured t kept u z = loan-numbers u kept z (figures_for t kept) refl refl

pub measured-of : (t : Terms) → RatesInRange t.rates → (kept : List (List ℕ)) → Good kept → Measured t kept
unfolding report_for requirement_by
measured-of t r kept h =
    let f : Figures = figures_for t kept in
    let u = taken-chargeable t r kept h in
    let exponents = list-exponents u kept h.settled in
    record {
      required = f.required;
      required_is = refl;
      before = before_required f;
      after = value_line "capital" f.capital ++ ratio_line f.ratio;
      line_eight = rw (← signed-whole f.required) (eighth f);
      seven_before = (seven f).many;
      read_back = digits_value f.required;
      between = after_supplement f;
      first_three = first_three f (counts_in kept).loans (loans-counted t kept);
      not_below = at-every-order (requirement t kept) (λ v. v ≼ whole f.required) exponents
          (mapped (λ m n. (n.proper, n.not_below)) (near-taken t r kept h));
      close = at-every-order (requirement t kept) (λ v. whole f.required ≺ v ⊕ allowance (counts_in kept).loans) exponents
          (mapped (λ m n. (n.proper, n.close)) (near-taken t r kept h));
      both = at-every-order (requirement t kept) (λ v. (v ≼ whole f.required) × (whole f.required ≺ v ⊕ allowance (counts_in kept).loans)) exponents
          (mapped (λ m n. (n.proper, (n.not_below, n.close))) (near-taken t r kept h));
      orders = some-allowed (requirement t kept).exponents exponents;
      determined = requirement-determined u kept h.settled;
      loans = loans-measured t kept u h.settled;
    }

-- Order

pub permuted-map : {A B : Type 0} (f : A → B) {xs ys : List A} → Permᴰ xs ys → Permᴰ (map f xs) (map f ys)
permuted-map f Permᴰ.nil = Permᴰ.nil
permuted-map f (Permᴰ.cons e p) = Permᴰ.cons (ap f e) (permuted-map f p)
permuted-map f (Permᴰ.swap e g) = Permᴰ.swap (ap f e) (ap f g)
permuted-map f (Permᴰ.trans p q) = Permᴰ.trans (permuted-map f p) (permuted-map f q)

-- the same lines set the same values
pub values-permuted : {kept others : List (List ℕ)} → Permᴰ kept others → values_in kept ≡ values_in others
unfolding values_in
values-permuted p = λ i area month. line-sum-permuted (set_by area month) p i

pub basis-permuted : (t : Terms) {kept others : List (List ℕ)} → Permᴰ kept others → basis_of t kept ≡ basis_of t others
basis-permuted t p = λ i. record { terms = t; index = values-permuted p i }

pub sums-permuted : (t : Terms) {kept others : List (List ℕ)} → Permᴰ kept others → sums_of t kept ≡ sums_of t others
unfolding sums_by
sums-permuted t {kept} {others} p =
    ap (λ (g : Basis). sums_by g kept) (basis-permuted t p) ∙ sum-permuted (permuted-map (λ s. share (basis_of t others) (line_content (line_of s))) p)

-- the bytes written
taken-text : (buffer text : List ℕ) → take (length text) (onto buffer text) ≡ text
unfolding onto
taken-text buffer text = take_at text (drop (length text) buffer) (length text) refl

-- what a closing that is not refused tells and writes
tells-writes : (least : ℕ) (b : Book) (text x : List ℕ) → (closing_with least b text (length x)).refusal ≡ 0 →
    ((closing_with least b text (length x)).length ≡ length text) × (take (closing_with least b text (length x)).length (closed_with least b text x) ≡ text)
tells-writes least b text x e =
    let told = tells least b text (length x) e in
    (told, ap₂ take told (writes least b text x e) ∙ taken-text x text)

-- Two closings of the same text.
pub same-texts : (least : ℕ) (b c : Book) {text other : List ℕ} → text ≡ other →
    SameTexts (closing_with least b text) (closed_with least b text) (closing_with least c other) (closed_with least c other)
same-texts least b c {text} {other} r x y e f =
    let w = tells-writes least b text x e in
    let v = tells-writes least c other y f in
    (w.0 ∙ ap length r ∙ sym v.0, w.1 ∙ r ∙ sym v.1)

-- the report does not depend on the order
pub report-permuted : (t : Terms) {kept others : List (List ℕ)} → Permᴰ kept others → report_of (book_of t kept) ≡ report_of (book_of t others)
report-permuted t p = ap (λ (s : Sums). report_text (figures_of t.header.held s)) (sums-permuted t p)

pub same-reports : (t : Terms) {kept others : List (List ℕ)} → Permᴰ kept others → SameReports (book_of t kept) (book_of t others)
same-reports t {kept} {others} p = same-texts report_size (book_of t kept) (book_of t others) (report-permuted t p)

pub demand3 : (sheet header : List ℕ) (lines : List (List ℕ)) → Demand3 sheet header lines
demand3 sheet header lines =
    let t : Terms = terms_of (opened sheet header) in
    let past : History = all_fed (opened sheet header) lines in
    record {
      closes = rw (after_is sheet header lines) (closes-of t (accepted_of past) (ledger-of past));
      measured = measured-of t (terms-in-range (opened sheet header)) (lines_taken past) (good_of past);
      alike = λ others p. rw (after_is sheet header lines, after_is sheet header others) (same-reports t p);
    }
