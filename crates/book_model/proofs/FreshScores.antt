-- Request L5 over the definitions. Assumes nothing.
use mathlib.Core.Path.{◌≡◌, refl, sym, ◌∙◌, ap, ap₂, subst}
use mathlib.Core.List.{List, [], ◌∷◌, Permᴰ}
use Prim.Native.Nat.{ℕ, ◌*◌, ◌≤◌, ◌<◌}
use native.Mathlib.Omega.{arith}
use Rattle.loan_charge.specs.declared.Score.TheVariants.{Scored}
use Rattle.loan_charge.specs.CreditFactor.{hundredths, band, column, column_serving_lem, entry_at}
use Rattle.sheet.specs.Sheet.{SheetRules}
use Rattle.line_forms.specs.declared.Content.TheVariants.{Header as header}
use Rattle.line_forms.specs.declared.Header.{Header}
use Rattle.line_forms.specs.declared.refusal.Refusal.{Refusal as Reason}
use Rattle.std.specs.Prelude.{Result, Ok, Err}
use Rattle.line_forms.specs.Refusals.{number_of}
use Rattle.line_forms.specs.Contents.{bytes_of}
use Rattle.line_forms.specs.Readings.{header_of}
use Rattle.line_forms.proofs.HeaderCounts.{aged-serves, first-serves}
use Rattle.line_forms.proofs.HeaderLaws.{header-accepted, header-numbers}
use Rattle.figures.specs.declared.Counts.{Counts}
use Rattle.book_model.specs.Accepted.{counts_in}
use Rattle.book_model.specs.Calls.{opening, opening_for, Sound}
use Rattle.book_model.specs.Demand2.{CountsReached}
use Rattle.book_model.specs.FreshScores.{CountsKept, CountsMet, FreshScores}
use Rattle.book_model.specs.History.{History, opened, fed, all_fed, header_line, sheet_of, terms_of, accepted_of, lines_taken}
use Rattle.book_model.specs.HouseIndex.{index_line}
use Rattle.book_model.specs.LineKinds.{with_indexed}
use Rattle.book_model.specs.Terms.{Terms, under_sheet, factor_for, terms_for}
use Rattle.book_model.proofs.Demand1.{demand1}
use Rattle.book_model.proofs.Demand2.{header-number}
use Rattle.book_model.proofs.Demand3.{opened-is, fed-is, terms-stay, sums-permuted}
use Rattle.book_model.proofs.Feeding.{Room, book-room}
use Rattle.book_model.proofs.LineSums.{sum-permuted}
use Rattle.book_model.proofs.Openings.{number, sheet-fails, header-fails, Case, book_opens, sheet_refused, header_refused, case_of}
use Rattle.book_model.proofs.OwnFactors.{own_factors}
use Rattle.book_model.proofs.Steps.{state_of, counts}

first_column : (sheet : List ℕ) → SheetRules sheet → (h : Header) → 9 * h.loans ≤ 10 * h.fresh → (number age : ℕ) →
    factor_for (under_sheet h sheet) (Scored number age) ≡ hundredths (entry_at sheet (band number) 0)
unfolding column_serving_lem
first_column sheet r h e number age = rw ((first-serves h).1 e) at (own_factors.scored sheet r h number age)

aged_table : (sheet : List ℕ) → SheetRules sheet → (h : Header) → 10 * h.fresh < 9 * h.loans → (number age : ℕ) →
    factor_for (under_sheet h sheet) (Scored number age) ≡ hundredths (entry_at sheet (band number) (column age))
unfolding column_serving_lem
aged_table sheet r h e number age = rw ((aged-serves h).1 e) at (own_factors.scored sheet r h number age)

-- The state of the lines taken is one that opening and feeding give, and so keeps to the header's counts.
pub taken-sound : (past : History) → Sound (state_of (terms_of past) (accepted_of past))
taken-sound (opened sheet line) = subst Sound (opened-is sheet line) (demand1.opening_sound sheet line)
taken-sound (fed past line) = subst Sound (fed-is past line) (demand1.feeding_sound (state_of (terms_of past) (accepted_of past)) line (taken-sound past))

kept : (past : History) → CountsKept (terms_of past).header (counts_in (lines_taken past))
kept past =
    let r : Room (terms_of past).header (counts_in (lines_taken past)) =
    subst (Room (terms_of past).header) (counts (terms_of past) (lines_taken past)) (book-room (taken-sound past).book) in
    (r.loans, r.unscored, r.fresh)

met : (past : History) → CountsReached (terms_of past).header (counts_in (lines_taken past)) → CountsMet (terms_of past).header (counts_in (lines_taken past))
met past (l, u, f) = let (a, b, c) = kept past in (omega (arith, l, a), omega (arith, u, b), omega (arith, f, c))

-- the same lines count alike
pub counts-permuted : (t : Terms) {lines others : List (List ℕ)} → Permᴰ lines others → counts_in lines ≡ counts_in others
counts-permuted t {lines} {others} p =
    sym (counts t lines) ∙ ap₂ with_indexed (λ i. (sums-permuted t p i).counts) (sum-permuted index_line p) ∙ counts t others

-- what a history was opened with
pub opened_with : (past : History) → terms_of past ≡ terms_for (sheet_of past) (header_of (header_line past))
unfolding terms_of sheet_of header_line
opened_with (opened sheet line) = refl
opened_with (fed past line) = opened_with past

-- the header that is read of a line that opens a book
read-header : (sheet line : List ℕ) → (opening sheet line).refusal ≡ 0 → header_of line ≡ Ok (terms_for sheet (header_of line)).header
unfolding terms_for
read-header sheet line e = go (case_of sheet (header_of line)) (λ q f. (header-number (number_of q) (header-numbers line q f)).0) e
  where
    go : {l : Result Header Reason} → Case sheet l → ((q : Reason) → l ≡ Err q → number_of q ≡ 0 → ⊥) → (opening_for sheet l).refusal ≡ 0 →
        l ≡ Ok (terms_for sheet l).header
    go (book_opens h p) b e = rw p refl
    go (sheet_refused h p) b e = absurd (omega (arith, sym (number (sheet-fails sheet h p)) ∙ e))
    go (header_refused n) b e = absurd (b n refl (sym (number (header-fails sheet n)) ∙ e))

-- its line is how that header is written
header-bytes : (past : History) → (opening (sheet_of past) (header_line past)).refusal ≡ 0 → header_line past ≡ bytes_of (header (terms_of past).header)
header-bytes past e =
    rw (opened_with past) ((header-accepted (header_line past) _).0 (read-header (sheet_of past) (header_line past) e)).3

same-header : (h k : Header) (c : Counts) → CountsMet h c → CountsMet k c → h.held ≡ k.held → h ≡ k
same-header h k c (l, u, f) (m, v, g) e =
    λ i. record { loans = (sym l ∙ m) i; unscored = (sym u ∙ v) i; fresh = (sym f ∙ g) i; held = e i }

one_header : (past other : History) → (opening (sheet_of past) (header_line past)).refusal ≡ 0 → (opening (sheet_of other) (header_line other)).refusal ≡ 0 →
    (terms_of past).header.held ≡ (terms_of other).header.held → Permᴰ (lines_taken past) (lines_taken other) →
    CountsReached (terms_of past).header (counts_in (lines_taken past)) → CountsReached (terms_of other).header (counts_in (lines_taken other)) →
    header_line past ≡ header_line other
one_header past other e f held p r q =
    let c : Counts = counts_in (lines_taken other) in
    let m : CountsMet (terms_of past).header c = rw (counts-permuted (terms_of past) p) at (met past r) in
    header-bytes past e ∙ ap (λ (h : Header). bytes_of (header h)) (same-header (terms_of past).header (terms_of other).header c m (met other q) held)
    ∙ sym (header-bytes other f)

-- The same of a list of lines after its header.
pub stays : (past : History) (lines : List (List ℕ)) → (header_line (all_fed past lines) ≡ header_line past) × (sheet_of (all_fed past lines) ≡ sheet_of past)
unfolding all_fed header_line sheet_of
stays past [] = (refl, refl)
stays past (line ∷ lines) = stays (fed past line) lines

pub one-header-line : (sheet line other : List ℕ) (lines others : List (List ℕ)) → (opening sheet line).refusal ≡ 0 → (opening sheet other).refusal ≡ 0 →
    (terms_of (opened sheet line)).header.held ≡ (terms_of (opened sheet other)).header.held →
    Permᴰ (lines_taken (all_fed (opened sheet line) lines)) (lines_taken (all_fed (opened sheet other) others)) →
    CountsReached (terms_of (opened sheet line)).header (counts_in (lines_taken (all_fed (opened sheet line) lines))) →
    CountsReached (terms_of (opened sheet other)).header (counts_in (lines_taken (all_fed (opened sheet other) others))) → line ≡ other
unfolding header_line sheet_of
one-header-line sheet line other lines others e f held p r q =
    let a = stays (opened sheet line) lines in
    let b = stays (opened sheet other) others in
    let t = terms-stay (opened sheet line) lines in
    let u = terms-stay (opened sheet other) others in
    sym a.0 ∙ one_header (all_fed (opened sheet line) lines) (all_fed (opened sheet other) others) (rw (a.0, a.1) e) (rw (b.0, b.1) f)
    (rw (t, u) held) p (rw t r) (rw u q) ∙ b.0

pub fresh_scores : FreshScores
fresh_scores = record { first_column = first_column; aged_table = aged_table; kept = kept; met = met; one_header = one_header }
