-- What one more file makes of a book. Assumes nothing.
use mathlib.Core.Path.{◌≡◌, refl, sym, ◌∙◌, ap, subst}
use mathlib.Core.Bool.{Bool, true, false, not, ◌&&◌, true≢false, false≢true}
use mathlib.Core.List.{List, [], ◌∷◌}
use Prim.Native.Nat.{ℕ, ◌+◌}
use lib.Dec.{eqb}
use borrow.Author.Tests.{eq-eqb, ne_eqb, eqb-true, eqb-false}
use Rattle.std.specs.Prelude.{Result, Ok, Err, is_ok}
use Rattle.exact.specs.Choice.{pick}
use Rattle.line_forms.specs.declared.refusal.Refusal.{Refusal}
use Rattle.line_forms.specs.Refusals.{number_of}
use Rattle.line_forms.proofs.Refusals.{number-some}
use Rattle.line_forms.proofs.Bytes.{and_both}
use Rattle.report.specs.Line.{refusal_line, Written}
use Rattle.book_model.specs.Calls.{State, Answer, told, empty_state, lacks_lines, Sound}
use Rattle.book_model.specs.Joining.{joined_header, may_join_lem, joined_state, joining}
use Rattle.book_model.specs.JoiningLaws.{without_marks}
use Rattle.book_model.specs.Terms.{refused_terms}
use Rattle.book_model.proofs.Joining.{joining-holds}
use Rattle.book_model.proofs.Tests.{closing-test}
use Rattle.printing.specs.AtEnd.{printed_at_end, printed_with}
use Rattle.driver.specs.declared.Progress.{Progress}
use Rattle.driver.specs.Printed.{printed, printed_for}
use Rattle.driver.specs.Reading.{Stage, stage_at}
use Rattle.driver.proofs.Law.{whole}
use Rattle.regions.specs.NextFile.{NextFile}
use Rattle.regions.specs.Regions.{region_of, reports, printed_state, joins_on, stops_with, joined_from, printed_regions}

-- no count of a book is short
abbrev pub Enough : State → Type 0
Enough s = lacks_lines s.book.header s.book.sums.counts ≡ false

-- nor of a joined one
pub joined-enough : (s u : State) → Sound s → Sound u → (joining s u).refusal ≡ 0 → Enough s → Enough u → Enough (joining s u).state
joined-enough s u x y z a b =
    subst Enough (sym (joining-holds.joins s u z))
    ((closing-test (joined_header s u) (joined_state s u).book.sums.counts).fails.1
    ((joining-holds.reached s u x y).1
    ((closing-test s.book.header s.book.sums.counts).fails.0 a, (closing-test u.book.header u.book.sums.counts).fails.0 b)))

-- What it means that a report is printed.
pub parts : (p : Stage) → reports p ≡ true → (p.refusal ≡ 0) × (p.number ≡ 1 → ⊥) × Enough p.state
unfolding reports
parts p e = go (eqb p.refusal 0) refl (eqb p.number 1) refl (lacks_lines p.state.book.header p.state.book.sums.counts) refl e
  where
    go : (a : Bool) → eqb p.refusal 0 ≡ a → (b : Bool) → eqb p.number 1 ≡ b → (c : Bool) →
        lacks_lines p.state.book.header p.state.book.sums.counts ≡ c → pick a (pick b false (pick c false true)) false ≡ true →
        (p.refusal ≡ 0) × (p.number ≡ 1 → ⊥) × (c ≡ false)
    go true x false y false w e = (eqb-true p.refusal 0 x, eqb-false p.number 1 y, refl)
    go true x false y true w e = absurd (false≢true e)
    go true x true y c w e = absurd (false≢true e)
    go false x b y c w e = absurd (false≢true e)

pub reported : (asked : Bool) (p : Stage) → reports p ≡ true → printed_for asked p ≡ printed_state asked p.state
unfolding printed_with printed_at_end
reported asked p e =
    let (zero, n, few) = parts p e in
    rw (eq-eqb p.refusal 0 zero, ne_eqb p.number 1 n, few) refl

pub refused-alone : (asked : Bool) (p : Stage) → reports p ≡ false → (n : ℕ) × (l : ℕ) × (printed_for asked p ≡ refusal_line n l)
unfolding reports printed_with printed_at_end
refused-alone asked p e = go (eqb p.refusal 0) (eqb p.number 1) (lacks_lines p.state.book.header p.state.book.sums.counts) e
  where
    go : (a b c : Bool) → pick a (pick b false (pick c false true)) false ≡ false →
        (n : ℕ) × (l : ℕ) × (pick a (pick b (refusal_line 2 1) (pick c (refusal_line 6 p.number) (printed_state asked p.state)))
        (refusal_line p.refusal p.number) ≡ refusal_line n l)
    go false b c e = (p.refusal, p.number, refl)
    go true true c e = (2, 1, refl)
    go true false true e = (6, p.number, refl)
    go true false false e = absurd (true≢false e)

-- the test of it
pub reports-tested : (p : Stage) {ok short : Bool} → ok ≡ eqb p.refusal 0 → short ≡ lacks_lines p.state.book.header p.state.book.sums.counts →
    (ok && not (eqb p.number 1) && not short) ≡ reports p
unfolding reports
reports-tested p {ok} {short} e f = rw (← e, ← f) (go ok (eqb p.number 1) short)
  where
    go : (a b c : Bool) → (a && not b && not c) ≡ pick a (pick b false (pick c false true)) false
    go true true c = refl
    go true false true = refl
    go true false false = refl
    go false b c = refl

-- what an answer's number tells
pub is_ok-told : {A : Type 0} (r : Result A Refusal) → is_ok r ≡ eqb (told r) 0
is_ok-told (Ok x) = refl
is_ok-told (Err q) = sym (ne_eqb (number_of q) 0 (number-some q))

-- the first file
module _ (asked : Bool) (sheet input : List ℕ) (inputs : List (List ℕ)) where
  pub first-joined : reports (region_of sheet input) ≡ true → printed_regions asked sheet input inputs ≡ joined_from asked sheet (region_of sheet input).state 2 inputs
  unfolding printed_regions
  first-joined e = rw e refl

  pub first_stops : reports (region_of sheet input) ≡ false → printed_regions asked sheet input inputs ≡ printed_for asked (region_of sheet input)
  unfolding printed_regions
  first_stops e = rw e refl

pub both_go : (s : State) (p : Stage) → reports p ≡ true → (joining s p.state).refusal ≡ 0 → joins_on s p ≡ true
unfolding joins_on
both_go s p e z = rw (e, eq-eqb (joining s p.state).refusal 0 z) refl

pub goes_parts : (s : State) (p : Stage) → joins_on s p ≡ true → (reports p ≡ true) × ((joining s p.state).refusal ≡ 0)
unfolding joins_on
goes_parts s p e = let (r, z) = and_both (reports p) (eqb (joining s p.state).refusal 0) e in (r, eqb-true (joining s p.state).refusal 0 z)

-- the next
module _ (asked : Bool) (sheet : List ℕ) (s : State) (k : ℕ) (input : List ℕ) (inputs : List (List ℕ)) where
  pub one-joined : joins_on s (region_of sheet input) ≡ true →
      joined_from asked sheet s k (input ∷ inputs) ≡ joined_from asked sheet (joining s (region_of sheet input).state).state (k + 1) inputs
  unfolding joined_from
  one-joined e = rw e refl

  pub one-stops : joins_on s (region_of sheet input) ≡ false → joined_from asked sheet s k (input ∷ inputs) ≡ stops_with asked k (region_of sheet input)
  unfolding joined_from
  one-stops e = rw e refl

  pub stops-alone : reports (region_of sheet input) ≡ false → joined_from asked sheet s k (input ∷ inputs) ≡ printed asked sheet input
  unfolding joins_on stops_with
  stops-alone e = one-stops (rw e refl) ∙ rw e (whole asked sheet input)

  pub stops-16 : reports (region_of sheet input) ≡ true → ((joining s (region_of sheet input).state).refusal ≡ 0 → ⊥) →
      joined_from asked sheet s k (input ∷ inputs) ≡ refusal_line 16 k
  unfolding joins_on stops_with
  stops-16 e n = one-stops (rw (e, ne_eqb (joining s (region_of sheet input).state).refusal 0 n) refl) ∙ rw e refl

module _ (asked : Bool) (s : State) (k : ℕ) (p : Stage) {after : State} {old new : List ℕ} {told : ℕ} where
  pub file-alone : reports p ≡ false → Written old (printed_for asked p) told new → NextFile asked s k p true told after old new
  unfolding joins_on stops_with
  file-alone e w = record { goes_on = λ z. absurd (true≢false z); stops = λ z. (rw e refl, rw e w) }

  pub file-16 : reports p ≡ true → {n : ℕ} → n ≡ (joining s p.state).refusal → (n ≡ 0 → ⊥) → Written old (refusal_line n k) told new →
      NextFile asked s k p true told after old new
  unfolding joins_on stops_with
  file-16 e {n} f z w =
      let x : (joining s p.state).refusal ≡ 0 → ⊥ = λ y. z (f ∙ y) in
      let sixteen : n ≡ 16 = f ∙ ap (λ (a : Answer). a.refusal) (joining-holds.refused s p.state x) in
      record {
        goes_on = λ y. absurd (true≢false y);
        stops = λ y. (rw (e, ne_eqb (joining s p.state).refusal 0 x) refl, rw e (subst (λ (m : ℕ). Written old (refusal_line m k) told new) sixteen w));
      }

  pub file-on : reports p ≡ true → (joining s p.state).refusal ≡ 0 → after ≡ (joining s p.state).state → new ≡ old →
      NextFile asked s k p false told after old new
  file-on e z j l = record { goes_on = λ x. (both_go s p e z, j, l); stops = λ x. absurd (false≢true x) }

-- Marks are looked at by no joining, and none gives any.

pub joined-dropped : (a b : State) → without_marks (joining a b).state ≡ (joining a b).state
unfolding joining
joined-dropped a b = go (may_join_lem a b)
  where
    go : (t : Bool) → without_marks (pick {A = Answer} t (record { refusal = 0; state = joined_state a b }) (record { refusal = 16; state = empty_state refused_terms })).state ≡
        (pick {A = Answer} t (record { refusal = 0; state = joined_state a b }) (record { refusal = 16; state = empty_state refused_terms })).state
    go true = refl
    go false = refl

pub first-dropped : (asked : Bool) (sheet : List ℕ) (s : State) (k : ℕ) (inputs : List (List ℕ)) →
    joined_from asked sheet s k inputs ≡ joined_from asked sheet (without_marks s) k inputs
unfolding joined_from joins_on joining may_join_lem
first-dropped asked sheet s k [] = refl
first-dropped asked sheet s k (input ∷ inputs) = refl

-- nor the sheet, once its book is opened
pub file-dropped : (asked : Bool) (s : State) (k : ℕ) (p : Progress) (sheet : List ℕ) (own : State) {done : Bool} {told : ℕ} {after : State}
    {old new : List ℕ} → NextFile asked s k (stage_at p [] (without_marks own)) done told after old new →
    NextFile asked s k (stage_at p sheet own) done told (without_marks after) old new
unfolding joins_on stops_with reports joining may_join_lem
file-dropped asked s k p sheet own n = record {
  goes_on = λ e. let (g, a, l) = n.goes_on e in (g, ap without_marks a ∙ joined-dropped s (without_marks own), l);
  stops = λ e. n.stops e;
}
