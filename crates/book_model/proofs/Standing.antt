-- Marks, returns and the lines still standing. Assumes nothing.
use mathlib.Core.Path.{◌≡◌, refl, sym, ◌∙◌, ap}
use mathlib.Core.Bool.{Bool, true, false}
use mathlib.Core.List.{List, [], ◌∷◌, ◌++◌, map-append, append_assoc}
use Prim.Native.Nat.{ℕ, suc}
use native.Mathlib.Omega.{arith}
use lib.Dec.{eqb}
use lib.ListN.{length, get_or, take, length-append}
use lib.Seq.{take_at, get_or_at}
use borrow.Author.Tests.{ltb-false, eq-eqb}
use Rattle.exact.specs.Choice.{pick}
use Rattle.line_forms.specs.declared.MarkLine.{MarkLine}
use Rattle.line_forms.specs.declared.Content.TheVariants.{Mark as mark}
use Rattle.line_forms.specs.Claims.{ShowsInRange}
use Rattle.line_forms.specs.Readings.{line_of}
use Rattle.book_model.specs.Accepted.{Note, Accepted, refusal_of, names_of, no_note, taken_up, noted, added, with_mark, accept}
use Rattle.book_model.specs.Calls.{State, Answer, refusal_in, state_after, marked, state_marked, feeding_line, opening, feeding}
use Rattle.book_model.specs.Demand2.{IsNoted}
use Rattle.book_model.specs.Demand3.{after_lines}
use Rattle.book_model.specs.History.{History, opened, fed, all_fed, terms_of, accepted_of}
use Rattle.book_model.specs.LineKinds.{of_mark}
use Rattle.book_model.specs.Marks.{place_among, is_among}
use Rattle.book_model.specs.Standing.{Marks, Returns, SameBook, Standing}
use Rattle.book_model.specs.Terms.{Terms}
use Rattle.book_model.proofs.Alone.{alone, alone_book}
use Rattle.book_model.proofs.Demand2.{feeding-answer}
use Rattle.book_model.proofs.Demand3.{one_more, chain, reached, terms-stay}
use Rattle.book_model.proofs.Ledger.{ledger-of, names-length, accepts}
use Rattle.book_model.proofs.MarkRows.{place-most, place-right}
use Rattle.book_model.proofs.Notes.{member, mark-content, not_noted}
use Rattle.book_model.proofs.Steps.{state_of, step}

-- A mark leaves all but the marks kept.
pub marks : (s : State) (line : List ℕ) (name : ℕ) → Marks line name → SameBook (feeding s line).state s
unfolding feeding_line state_marked
marks s line name h =
    rw (ap (of_mark (state_marked (refusal_in s (line_of line)) s) (state_after s (line_of line))) (mark-content line (record { back = false; name = name }) h))
    (go (eqb (refusal_in s (line_of line)) 0))
  where
    go : (t : Bool) → SameBook (pick t (marked s name) s) s
    go true = record { book = refl; rates = refl; cells = refl; index = refl }
    go false = record { book = refl; rates = refl; cells = refl; index = refl }

-- a mark or return that is taken
accepts-mark : (t : Terms) (a : Accepted) (s : List ℕ) (m : MarkLine) → ShowsInRange s (mark m) → refusal_of t a s ≡ 0 → accept t a s ≡ with_mark a m
accepts-mark t a s m h e = accepts t a s e ∙ ap (of_mark (with_mark a) (added a s)) (mark-content s m h)

-- A name that no earlier note has is taken up at its note, whatever was noted after it.
taken-up-again : (a : Accepted) (earlier : List Note) (n : Note) (later : List Note) → is_among n.name (names_of earlier) ≡ false →
    a.notes ≡ (earlier ++ (n ∷ [])) ++ later → taken_up a n.name ≡ record { kept = n.list; notes = earlier ++ (n ∷ []) }
unfolding place_among
taken-up-again a earlier n later e f =
    let split : (earlier ++ (n ∷ [])) ++ later ≡ earlier ++ (n ∷ later) = append_assoc earlier (n ∷ []) later in
    let none : place_among n.name (names_of earlier) ≡ length (names_of earlier) =
    omega (arith, ltb-false (place_among n.name (names_of earlier)) (length (names_of earlier)) e, place-most n.name (names_of earlier)) in
    let first : place_among n.name (n.name ∷ names_of later) ≡ 0 = rw (eq-eqb n.name n.name refl) refl in
    let place : place_among n.name (names_of a.notes) ≡ length earlier =
    ap (λ (l : List Note). place_among n.name (names_of l)) (f ∙ split)
    ∙ ap (place_among n.name) (map-append (λ (x : Note). x.name) earlier (n ∷ later))
    ∙ place-right n.name (names_of earlier) (n.name ∷ names_of later) none ∙ omega (arith, first, names-length earlier) in
    let size : length (earlier ++ (n ∷ [])) ≡ suc (length earlier) = omega (arith, length-append earlier (n ∷ [])) in
    ap (λ (k : ℕ). record { kept = (get_or a.notes k no_note).list; notes = take (suc k) a.notes }) place
    ∙ (λ i. record {
      kept = (ap (λ (l : List Note). (get_or l (length earlier) no_note).list) (f ∙ split)
          ∙ ap (λ (x : Note). x.list) (get_or_at earlier n later no_note (length earlier) refl)) i;
      notes = (ap (take (suc (length earlier))) f ∙ take_at (earlier ++ (n ∷ [])) later (suc (length earlier)) size) i;
    })

-- a mark that is taken is of a name not kept
not-13 : (t : Terms) (a : Accepted) (line : List ℕ) (name : ℕ) → Marks line name → refusal_of t a line ≡ 0 → IsNoted a.notes name → ⊥
not-13 t a line name h z n = omega (arith, z, (feeding-answer t a line).number_13.1 (name, h, n))

-- The ledger after a mark that is taken, and after a return in any ledger that still has its note.
module _ (t : Terms) (a : Accepted) (line : List ℕ) (name : ℕ) (h : Marks line name) (zero : refusal_of t a line ≡ 0) where
  after-mark : accept t a line ≡ noted a name
  after-mark = accepts-mark t a line (record { back = false; name = name }) h zero

  back-taken : (last : Accepted) (more : List Note) (back : List ℕ) → Returns back name → last.notes ≡ (accept t a line).notes ++ more →
      (refusal_of t last back ≡ 0) × (accept t last back ≡ accept t a line)
  back-taken last more back k f =
      let note : Note = record { name = name; list = a.kept } in
      let new : is_among name (names_of a.notes) ≡ false = (not_noted a.notes name).1 (not-13 t a line name h zero) in
      let notes : last.notes ≡ (a.notes ++ (note ∷ [])) ++ more = f ∙ ap (λ (x : Accepted). x.notes ++ more) after-mark in
      let kept : IsNoted last.notes name = record {
        note = note;
        kept = rw (notes ∙ append_assoc a.notes (note ∷ []) more) (member a.notes note more);
        named = refl;
      } in
      let none : refusal_of t last back ≡ 0 = (feeding-answer t last back).taken.1 (mark (record { back = true; name = name }), k, kept) in (
        none,
        accepts-mark t last back (record { back = true; name = name }) k none ∙ taken-up-again last a.notes note more new notes ∙ sym after-mark,
      )

-- Over histories: a return in any that goes by the same terms and still has the note.
pub returned-to : (past last : History) (line back : List ℕ) (name : ℕ) (more : List Note) → terms_of last ≡ terms_of past → Marks line name → Returns back name →
    refusal_of (terms_of past) (accepted_of past) line ≡ 0 → (accepted_of last).notes ≡ (accepted_of (fed past line)).notes ++ more →
    feeding (state_of (terms_of last) (accepted_of last)) back ≡ record { refusal = 0; state = state_of (terms_of past) (accepted_of (fed past line)) }
returned-to past last line back name more same h k zero f =
    let t : Terms = terms_of past in
    let after = (one_more past line).1 in
    let (none, up) = back-taken t (accepted_of past) line name h zero (accepted_of last) more back k (f ∙ ap (λ (x : Accepted). x.notes ++ more) (sym after)) in
    ap (λ (x : Terms). feeding (state_of x (accepted_of last)) back) same ∙ step t (accepted_of last) (ledger-of last) back
    ∙ (λ i. record { refusal = none i; state = state_of t ((up ∙ after) i) })

-- a line fed to the state of a history
pub line-fed : (past : History) (line : List ℕ) → feeding (state_of (terms_of past) (accepted_of past)) line ≡
    record { refusal = refusal_of (terms_of past) (accepted_of past) line; state = state_of (terms_of past) (accepted_of (fed past line)) }
line-fed past line =
    step (terms_of past) (accepted_of past) (ledger-of past) line
    ∙ (λ i. record { refusal = refusal_of (terms_of past) (accepted_of past) line; state = state_of (terms_of past) ((one_more past line).1 i) })

again : (sheet header : List ℕ) (before between : List (List ℕ)) (line back : List ℕ) (name : ℕ) (more : List Note) → Marks line name → Returns back name →
    (feeding (after_lines (opening sheet header).state before) line).refusal ≡ 0 →
    (accepted_of (all_fed (fed (all_fed (opened sheet header) before) line) between)).notes ≡
    (accepted_of (fed (all_fed (opened sheet header) before) line)).notes ++ more →
    feeding (after_lines (feeding (after_lines (opening sheet header).state before) line).state between) back ≡
    record { refusal = 0; state = (feeding (after_lines (opening sheet header).state before) line).state }
again sheet header before between line back name more h k e f =
    let past : History = all_fed (opened sheet header) before in
    let last : History = all_fed (fed past line) between in
    let r = reached sheet header before in
    let mark-fed = ap (λ (x : State). feeding x line) r ∙ line-fed past line in
    let same : terms_of last ≡ terms_of past = terms-stay (fed past line) between ∙ (one_more past line).0 in
    let state-last : after_lines (feeding (after_lines (opening sheet header).state before) line).state between ≡ state_of (terms_of last) (accepted_of last) =
    ap (λ (x : State). after_lines x between)
    (ap (λ (x : Answer). x.state) mark-fed ∙ ap (λ (t : Terms). state_of t (accepted_of (fed past line))) (sym (one_more past line).0))
    ∙ chain (fed past line) between in
    ap (λ (x : State). feeding x back) state-last
    ∙ returned-to past last line back name more same h k (sym (ap (λ (x : Answer). x.refusal) mark-fed) ∙ e) f
    ∙ (λ i. record { refusal = 0; state = sym (ap (λ (x : Answer). x.state) mark-fed) i })

pub standing : Standing
standing = record {
  alone = alone;
  alone_book = alone_book;
  most = λ past. (ledger-of past).most;
  distinct = λ past. (ledger-of past).distinct;
  marks = marks;
  again = again;
}
