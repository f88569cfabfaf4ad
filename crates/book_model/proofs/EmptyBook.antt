-- A book of a zero header fed the index lines of another: all are taken, and joined it changes nothing. Assumes nothing.
use mathlib.Core.Path.{◌≡◌, refl, sym, ◌∙◌, ap, subst}
use mathlib.Core.List.{List, [], Permᴰ}
use Prim.Native.Nat.{ℕ}
use native.Mathlib.Omega.{arith}
use Rattle.exact.specs.Decimal.{digits}
use Rattle.exact.specs.Text.{text}
use Rattle.std.specs.Prelude.{Ok}
use Rattle.line_forms.specs.declared.Content.TheVariants.{Header as header}
use Rattle.line_forms.specs.Contents.{bytes_of}
use Rattle.line_forms.specs.Readings.{header_of}
use Rattle.line_forms.proofs.HeaderLaws.{bytes_read}
use Rattle.figures.specs.declared.Sums.{Sums}
use Rattle.figures.specs.Sums.{no_sums, sum_of}
use Rattle.book_model.specs.Accepted.{Accepted, counts_in}
use Rattle.book_model.specs.Calls.{State, SoundBook}
use Rattle.book_model.specs.GivenState.{IsOpened}
use Rattle.book_model.specs.History.{History, opened, all_fed, sheet_of, terms_of, accepted_of, lines_taken, sums_by, sums_of}
use Rattle.book_model.specs.HouseIndex.{index_line}
use Rattle.book_model.specs.Joining.{index_lines, other_lines}
use Rattle.book_model.specs.JoiningLaws.{OnlyIndexLines, index_alone}
use Rattle.book_model.specs.LineKinds.{sum_by, with_indexed}
use Rattle.book_model.specs.Terms.{Terms, under, basis_of, zero_header}
use Rattle.book_model.proofs.AsOneBook.{first-sum, first-index, are-index, set-once, header-in-range, terms-with, opens-with, state-given}
use Rattle.book_model.proofs.Demand3.{terms-stay}
use Rattle.book_model.proofs.Feeding.{Room}
use Rattle.book_model.proofs.FreshScores.{taken-sound, stays}
use Rattle.book_model.proofs.IndexTables.{index_of}
use Rattle.book_model.proofs.Ledger.{good_of}
use Rattle.book_model.proofs.SplitLines.{sums-others, no-others}
use Rattle.book_model.proofs.Steps.{book_of, counts}
use Rattle.book_model.proofs.TakenWhole.{unmarked, InTurn, taken-in-turn, none-taken, index-in-turn}

-- lines of which all are index lines add nothing to the sums
pub no-sums : (t : Terms) (kept : List (List ℕ)) → other_lines kept ≡ [] → sums_of t kept ≡ no_sums
unfolding sums_by sum_of
no-sums t kept e = sym (sums-others (basis_of t kept) kept) ∙ ap (sums_by (basis_of t kept)) e

zero-read : header_of (bytes_of (header zero_header)) ≡ Ok zero_header
zero-read = bytes_read.header_back zero_header (header-in-range zero_header (omega arith) (omega arith)) (omega arith)

zero-line : bytes_of (header zero_header) ≡ text "(book (loans 0) (unscored 0) (fresh 0) (held 0))"
unfolding bytes_of digits
zero-line = refl

module _ (h : History) (x : IsOpened h) (first : List (List ℕ)) (p : Permᴰ first (index_lines (lines_taken h))) where
  only-index : other_lines first ≡ []
  only-index = no-others first (are-index (lines_taken h) first p)

  room : Room zero_header (counts_in first)
  room =
      let t : Terms = under zero_header (terms_of h).rates in
      let c : with_indexed no_sums.counts (sum_by index_line first) ≡ counts_in first =
      ap (λ (s : Sums). with_indexed s.counts (sum_by index_line first)) (sym (no-sums t first only-index)) ∙ counts t first in
      let b : SoundBook (book_of (terms_of h) (lines_taken h)) = (taken-sound h).book in
      subst (Room zero_header) c (record {
        loans = omega arith;
        unscored = omega arith;
        fresh = omega arith;
        other = omega (arith, first-sum (lines_taken h) first p (λ i. 1), b.other);
      })

  in-turn : InTurn (terms_of (opened (sheet_of h) (bytes_of (header zero_header)))) [] first
  in-turn = rw (terms-with h x zero_header zero-read)
      (index-in-turn (under zero_header (terms_of h).rates) [] first (are-index (lines_taken h) first p) (set-once (lines_taken h) first p (good_of h)) room)

  abbrev made : History
  made = all_fed (opened (sheet_of h) (bytes_of (header zero_header))) first

  taken : accepted_of made ≡ unmarked first
  taken = taken-in-turn (opened (sheet_of h) (bytes_of (header zero_header))) [] first (none-taken (sheet_of h) (bytes_of (header zero_header))) in-turn

  index-alone : OnlyIndexLines h made
  unfolding sheet_of
  index-alone = record {
    sheet = sym (stays (opened (sheet_of h) (bytes_of (header zero_header))) first).1;
    index = ap (λ (s : State). s.index) (state-given h) ∙ sym (first-index (lines_taken h) first p) ∙ ap (λ (a : Accepted). index_of a.kept) (sym taken)
        ∙ sym (ap (λ (s : State). s.index) (state-given made));
    header = ap (λ (t : Terms). t.header)
        (terms-stay (opened (sheet_of h) (bytes_of (header zero_header))) first ∙ terms-with h x zero_header zero-read);
    lines = ap (λ (a : Accepted). other_lines a.kept) taken ∙ only-index;
  }

  pub neutral_made : IsOpened (index_alone h first) × OnlyIndexLines h (index_alone h first)
  neutral_made =
      subst (λ (line : List ℕ). let k = all_fed (opened (sheet_of h) line) first in IsOpened k × OnlyIndexLines h k) zero-line
      (opens-with h x zero_header zero-read first, index-alone)
