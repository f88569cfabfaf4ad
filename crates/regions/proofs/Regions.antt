-- Assumes nothing.
use mathlib.Core.Path.{◌≡◌, refl, sym, ◌∙◌, ap, ap₂, subst}
use mathlib.Core.Bool.{Bool, true, false}
use mathlib.Core.List.{List, [], ◌∷◌, ◌++◌}
use mathlib.Core.Logic.{◌↔◌}
use Prim.Native.Nat.{ℕ, ◌+◌, ◌≤◌}
use native.Mathlib.Omega.{arith}
use lib.Dec.{eqb}
use lib.ListN.{length, get_or}
use borrow.Author.Tests.{eq-eqb, eqb-true, eqb-false}
use Rattle.exact.specs.Choice.{pick}
use Rattle.exact.specs.Decimal.{leading, digits}
use Rattle.exact.specs.Text.{text}
use Rattle.figures.specs.declared.Counts.{Counts}
use Rattle.figures.specs.Figures.{figures_of}
use Rattle.book_model.specs.Accepted.{Accepted, counts_in, refusal_of}
use Rattle.book_model.specs.Calls.{State, Answer, opening, feeding, lacks_lines, cells_text_of, Sound}
use Rattle.book_model.specs.GivenState.{state_given, IsOpened}
use Rattle.book_model.specs.History.{History, opened, fed, all_fed, header_line, sheet_of, terms_of, accepted_of, lines_taken}
use Rattle.book_model.specs.Joining.{joining, added_header_line, joined, JoinedBooks, LinesOfBoth}
use Rattle.book_model.specs.Terms.{Terms}
use Rattle.book_model.proofs.AsOneBook.{state-given, opens_one, all-in-turn}
use Rattle.book_model.proofs.Demand3.{one_more, begins}
use Rattle.book_model.proofs.FreshScores.{taken-sound, stays}
use Rattle.book_model.proofs.Joining.{conditions, joining-holds}
use Rattle.book_model.proofs.JoiningLaws.{joining_laws}
use Rattle.book_model.proofs.Standing.{line-fed}
use Rattle.book_model.proofs.TakenWhole.{unmarked, InTurn, taken-in-turn, none-taken}
use Rattle.book_model.proofs.Steps.{counts}
use Rattle.book_model.proofs.Tests.{closing-test}
use Rattle.printing.specs.AtEnd.{printed_at_end}
use Rattle.driver.specs.Printed.{lines_of, printed_feeding, printed_lines, printed, printed_for}
use Rattle.driver.specs.Reading.{Stage, at_start, after, with_line}
use Rattle.driver.proofs.Law.{with_lines, bytes-lines, whole}
use Rattle.driver.proofs.LineLaws.{line_refused, line-opens, line-fed as line_read}
use Rattle.regions.specs.Regions.{region_of, reports, printed_state, joins_on, joined_from, printed_regions, IsRefusal, ReachesCounts, RegionHistory, FilesOutcome, all_joined}
use Rattle.regions.specs.Regions.{no_report, not_joined, joins, Regions}
use Rattle.regions.proofs.FileOrder.{neutral-later, neutral_first, any_order, unscored_first}
use Rattle.regions.proofs.NextFile.{Enough, parts, reported, refused-alone, joined-enough, both_go, one-joined, stops-16, stops-alone, first-joined, first_stops}

-- no count of a book is short: by its lines
enough-test : (h : History) → Enough (state_given h) ↔ ReachesCounts h
enough-test h =
    rw (state-given h)
    (subst (λ (c : Counts). (lacks_lines (terms_of h).header c ≡ false) ↔ ReachesCounts h) (sym (counts (terms_of h) (lines_taken h)))
    (closing-test (terms_of h).header (counts_in (lines_taken h))).fails)

-- what is printed at the end of a state
abbrev at_end : Bool → State → ℕ → List ℕ
at_end asked s number = printed_at_end asked s.book s.cells number

-- Lines that are taken one after another are fed to the end.
fed-through : (asked : Bool) (past : History) (done lines : List (List ℕ)) → accepted_of past ≡ unmarked done → InTurn (terms_of past) done lines → (number : ℕ) →
    printed_feeding asked (state_given past) number lines ≡ at_end asked (state_given (all_fed past lines)) (number + length lines)
unfolding printed_feeding all_fed InTurn state_given
fed-through asked past done [] e h number = ap (at_end asked (state_given past)) (omega arith)
fed-through asked past done (s ∷ lines) e (z, p, h) number =
    let answer : (feeding (state_given past) s).refusal ≡ 0 =
    ap (λ (a : Answer). a.refusal) (ap (λ (x : State). feeding x s) (state-given past) ∙ line-fed past s)
    ∙ ap (λ (a : Accepted). refusal_of (terms_of past) a s) e ∙ z in
    let one : accepted_of (fed past s) ≡ unmarked (done ++ (s ∷ [])) = taken-in-turn past done (s ∷ []) e (z, p, tt) in
    let more : InTurn (terms_of (fed past s)) (done ++ (s ∷ [])) lines =
    subst (λ (t : Terms). InTurn t (done ++ (s ∷ [])) lines) (sym (one_more past s).0) h in
    rw (eq-eqb (feeding (state_given past) s).refusal 0 answer)
    (fed-through asked (fed past s) (done ++ (s ∷ [])) lines one more (number + 1)
    ∙ ap (at_end asked (state_given (all_fed (fed past s) lines))) (omega arith))

-- the first line opens the book
opened-through : (asked : Bool) (sheet line : List ℕ) (lines : List (List ℕ)) → (opening sheet line).refusal ≡ 0 →
    InTurn (terms_of (opened sheet line)) [] lines →
    printed_lines asked sheet (line ∷ lines) ≡ at_end asked (state_given (all_fed (opened sheet line) lines)) (2 + length lines)
unfolding printed_lines state_given
opened-through asked sheet line lines e h =
    rw (eq-eqb (opening sheet line).refusal 0 e) (fed-through asked (opened sheet line) [] lines (none-taken sheet line) h 2)

-- A refusal stays.
refused-stays : (q : Stage) (lines : List (List ℕ)) → (q.refusal ≡ 0 → ⊥) → with_lines q lines ≡ q
unfolding with_lines
refused-stays q [] h = refl
refused-stays q (line ∷ lines) h = ap (λ (x : Stage). with_lines x lines) (sym (line_refused q line h)) ∙ refused-stays q lines h

-- after an answer: the next line, or the refusal
answered : (a : Answer) (number : ℕ) (sheet : List ℕ) (lines : List (List ℕ)) → (with_lines (after a number sheet) lines).refusal ≡ 0 →
    (a.refusal ≡ 0) × (with_lines (after a number sheet) lines ≡ with_lines (record { refusal = 0; number = number + 1; sheet = sheet; state = a.state }) lines)
answered a number sheet lines z = go (eqb a.refusal 0) refl
  where
    go : (t : Bool) → eqb a.refusal 0 ≡ t →
        (a.refusal ≡ 0) × (with_lines (after a number sheet) lines ≡
        with_lines (record { refusal = 0; number = number + 1; sheet = sheet; state = a.state }) lines)
    go true e =
        let r : a.refusal ≡ 0 = eqb-true a.refusal 0 e in (
          r,
          ap (λ (q : Stage). with_lines q lines)
              (λ i. record { refusal = r i; number = pick (e i) (number + 1) number; sheet = sheet; state = a.state }),
        )
    go false e =
        let n : a.refusal ≡ 0 → ⊥ = eqb-false a.refusal 0 e in
        absurd (n (ap (λ (q : Stage). q.refusal) (sym (refused-stays (after a number sheet) lines n)) ∙ z))

-- lines fed in turn, none refused
all_read : (past : History) (number : ℕ) (sheet : List ℕ) (lines : List (List ℕ)) → 2 ≤ number →
    (with_lines (record { refusal = 0; number = number; sheet = sheet; state = state_given past }) lines).refusal ≡ 0 →
    (with_lines (record { refusal = 0; number = number; sheet = sheet; state = state_given past }) lines).state ≡ state_given (all_fed past lines)
unfolding with_lines all_fed state_given
all_read past number sheet [] l z = refl
all_read past number sheet (line ∷ lines) l z =
    let q : Stage = record { refusal = 0; number = number; sheet = sheet; state = state_given past } in
    let fed-q : after (feeding (state_given past) line) number sheet ≡ with_line q line = line_read q line refl (λ e. omega (arith, e, l)) in
    let zero : (with_lines (after (feeding (state_given past) line) number sheet) lines).refusal ≡ 0 =
    ap (λ (x : Stage). (with_lines x lines).refusal) fed-q ∙ z in
    let (r, same) = answered (feeding (state_given past) line) number sheet lines zero in
    ap (λ (x : Stage). (with_lines x lines).state) (sym fed-q) ∙ ap (λ (x : Stage). x.state) same
    ∙ all_read (fed past line) (number + 1) sheet lines (omega (arith, l)) (sym (ap (λ (x : Stage). x.refusal) same) ∙ zero)

-- its history
history-of : (sheet input : List ℕ) → reports (region_of sheet input) ≡ true → (h : History) × RegionHistory sheet input h
unfolding with_lines state_given sheet_of header_line all_fed
history-of sheet input e = go (lines_of input) refl
  where
    p : Stage
    p = region_of sheet input

    read : p ≡ with_lines (at_start sheet) (lines_of input)
    read = bytes-lines input (at_start sheet) []

    go : (lines : List (List ℕ)) → lines_of input ≡ lines → (h : History) × RegionHistory sheet input h
    go [] f =
        let same : p ≡ at_start sheet = read ∙ ap (with_lines (at_start sheet)) f in
        absurd ((parts p e).1 (ap (λ (x : Stage). x.number) same))
    go (line ∷ lines) f =
        let same : p ≡ with_lines (after (opening sheet line) 1 sheet) lines =
        read ∙ ap (with_lines (at_start sheet)) f ∙ ap (λ (x : Stage). with_lines x lines) (sym (line-opens (at_start sheet) line refl refl)) in
        let (zero, n, few) = parts p e in
        let (r, on) = answered (opening sheet line) 1 sheet lines (sym (ap (λ (x : Stage). x.refusal) same) ∙ zero) in
        let h : History = all_fed (opened sheet line) lines in
        let state : p.state ≡ state_given h =
        ap (λ (x : Stage). x.state) (same ∙ on)
        ∙ all_read (opened sheet line) 2 sheet lines (omega arith) (sym (ap (λ (x : Stage). x.refusal) (same ∙ on)) ∙ zero) in
        let (x, y) = stays (opened sheet line) lines in (
          h,
          record {
            header = line;
            lines = lines;
            read = f;
            history = refl;
            opened = ap₂ (λ (s l : List ℕ). (opening s l).refusal) y x ∙ r;
            reached = (enough-test h).0 (subst Enough state few);
            state = state;
          },
        )

one : (asked : Bool) (sheet input : List ℕ) → printed_regions asked sheet input [] ≡ printed asked sheet input
unfolding printed_regions joined_from
one asked sheet input = go (reports (region_of sheet input)) refl
  where
    go : (t : Bool) → reports (region_of sheet input) ≡ t →
        pick t (printed_state asked (region_of sheet input).state) (printed_for asked (region_of sheet input)) ≡ printed asked sheet input
    go true e = sym (reported asked (region_of sheet input) e) ∙ whole asked sheet input
    go false e = whole asked sheet input

-- a report begins otherwise
no-refusal : (asked : Bool) (s : State) → IsRefusal (printed_state asked s) → ⊥
no-refusal true s (n, l, e) =
    omega (arith, ap (λ (out : List ℕ). get_or out 1 0) e, (begins (figures_of s.book.header.held s.book.sums) (cells_text_of s.cells)).1)
no-refusal false s (n, l, e) = omega (arith, ap (λ (out : List ℕ). get_or out 1 0) e, (begins (figures_of s.book.header.held s.book.sums) []).0)

given-sound : (h : History) → Sound (state_given h)
given-sound h = subst Sound (sym (state-given h)) (taken-sound h)

region-sound : (sheet input : List ℕ) → reports (region_of sheet input) ≡ true → Sound (region_of sheet input).state
region-sound sheet input e = let (h, x) = history-of sheet input e in subst Sound (sym x.state) (given-sound h)

-- the files after the first
on-files : (asked : Bool) (sheet : List ℕ) (h : History) → IsOpened h → Enough (state_given h) → (k : ℕ) (inputs : List (List ℕ)) →
    FilesOutcome asked sheet h k inputs (joined_from asked sheet (state_given h) k inputs)
unfolding joined_from
on-files asked sheet h o r k [] = all_joined h k ((enough-test h).0 r)
on-files asked sheet h o r k (input ∷ inputs) =
    go (reports p) refl (λ g x y. on-files asked sheet (joined h g) x y (k + 1) inputs)
  where
    p : Stage
    p = region_of sheet input

    next : History → Type 0
    next g = FilesOutcome asked sheet (joined h g) (k + 1) inputs (joined_from asked sheet (state_given (joined h g)) (k + 1) inputs)

    out : List ℕ
    out = joined_from asked sheet (state_given h) k (input ∷ inputs)

    joined-on : (g : History) → RegionHistory sheet input g → reports p ≡ true → (z : (joining (state_given h) (state_given g)).refusal ≡ 0) →
        ((g : History) → IsOpened (joined h g) → Enough (state_given (joined h g)) → next g) → FilesOutcome asked sheet h k (input ∷ inputs) out
    joined-on g x e z more =
        let j : JoinedBooks h g = record { first = o; second = x.opened; joins = z } in
        let after : (joining (state_given h) (state_given g)).state ≡ state_given (joined h g) = joining-holds.counts_as j in
        let enough : Enough (state_given (joined h g)) = subst Enough after
        (joined-enough (state_given h) (state_given g) (given-sound h) (given-sound g) z r ((enough-test g).1 x.reached)) in
        joins h k input inputs g out x ((joining-holds.answers (state_given h) (state_given g) (given-sound h) (given-sound g)).joins.0 z)
        (subst (FilesOutcome asked sheet (joined h g) (k + 1) inputs)
        (ap (λ (s : State). joined_from asked sheet s (k + 1) inputs) (sym after ∙ ap (λ (u : State). (joining (state_given h) u).state) (sym x.state))
        ∙ sym (one-joined asked sheet (state_given h) k input inputs
        (both_go (state_given h) p e (ap (λ (u : State). (joining (state_given h) u).refusal) x.state ∙ z))))
        (more g (joining-holds.opens j) enough))

    not_on : (g : History) → RegionHistory sheet input g → reports p ≡ true → ((joining (state_given h) (state_given g)).refusal ≡ 0 → ⊥) →
        FilesOutcome asked sheet h k (input ∷ inputs) out
    not_on g x e n =
        let z : (joining (state_given h) p.state).refusal ≡ 0 → ⊥ = λ z. n (ap (λ (u : State). (joining (state_given h) u).refusal) (sym x.state) ∙ z) in
        subst (FilesOutcome asked sheet h k (input ∷ inputs)) (sym (stops-16 asked sheet (state_given h) k input inputs e z))
        (not_joined h k input inputs g x
        (λ c. n ((joining-holds.answers (state_given h) (state_given g) (given-sound h) (given-sound g)).joins.1 c)))

    test : (g : History) → RegionHistory sheet input g → reports p ≡ true → (b : Bool) → eqb (joining (state_given h) (state_given g)).refusal 0 ≡ b →
        ((g : History) → IsOpened (joined h g) → Enough (state_given (joined h g)) → next g) → FilesOutcome asked sheet h k (input ∷ inputs) out
    test g x e true f more = joined-on g x e (eqb-true (joining (state_given h) (state_given g)).refusal 0 f) more
    test g x e false f more = not_on g x e (eqb-false (joining (state_given h) (state_given g)).refusal 0 f)

    go : (t : Bool) → reports p ≡ t → ((g : History) → IsOpened (joined h g) → Enough (state_given (joined h g)) → next g) →
        FilesOutcome asked sheet h k (input ∷ inputs) out
    go false e more =
        subst (FilesOutcome asked sheet h k (input ∷ inputs)) (sym (stops-alone asked sheet (state_given h) k input inputs e))
        (no_report h k input inputs e)
    go true e more = let (g, x) = history-of sheet input e in test g x e (eqb (joining (state_given h) (state_given g)).refusal 0) refl more

files : (asked : Bool) (sheet input : List ℕ) (inputs : List (List ℕ)) → reports (region_of sheet input) ≡ true →
    (h : History) × RegionHistory sheet input h × FilesOutcome asked sheet h 2 inputs (printed_regions asked sheet input inputs)
files asked sheet input inputs e =
    let (h, x) = history-of sheet input e in (
      h,
      x,
      subst (FilesOutcome asked sheet h 2 inputs)
          (ap (λ (s : State). joined_from asked sheet s 2 inputs) (sym x.state) ∙ sym (first-joined asked sheet input inputs e))
          (on-files asked sheet h x.opened ((enough-test h).1 x.reached) 2 inputs),
    )

-- the number of a file that may not be joined
not-zero : {n : ℕ} → n ≡ 16 → n ≡ 0 → ⊥
not-zero e z = omega (arith, e, z)

second : (asked : Bool) (sheet one two : List ℕ) (inputs : List (List ℕ)) → reports (region_of sheet one) ≡ true → reports (region_of sheet two) ≡ true →
    (joining (region_of sheet one).state (region_of sheet two).state).refusal ≡ 16 → printed_regions asked sheet one (two ∷ inputs) ≡ text "(refused 16 2)\n"
unfolding leading digits
second asked sheet one two inputs a b e =
    first-joined asked sheet one (two ∷ inputs) a ∙ stops-16 asked sheet (region_of sheet one).state 2 two inputs b (not-zero e)

third : (asked : Bool) (sheet one two three : List ℕ) (inputs : List (List ℕ)) → reports (region_of sheet one) ≡ true →
    joins_on (region_of sheet one).state (region_of sheet two) ≡ true → reports (region_of sheet three) ≡ true →
    (joining (joining (region_of sheet one).state (region_of sheet two).state).state (region_of sheet three).state).refusal ≡ 16 →
    printed_regions asked sheet one (two ∷ three ∷ inputs) ≡ text "(refused 16 3)\n"
unfolding leading digits
third asked sheet one two three inputs a g b e =
    first-joined asked sheet one (two ∷ three ∷ inputs) a ∙ one-joined asked sheet (region_of sheet one).state 2 two (three ∷ inputs) g
    ∙ stops-16 asked sheet (joining (region_of sheet one).state (region_of sheet two).state).state 3 three inputs b (not-zero e)

-- the one file
as_one_file : (asked : Bool) {h k : History} → JoinedBooks h k → ReachesCounts (joined h k) → {first rest : List (List ℕ)} → LinesOfBoth h k first rest →
    (input : List ℕ) → lines_of input ≡ added_header_line h k ∷ (first ++ rest) → printed asked (sheet_of h) input ≡ printed_state asked (state_given (joined h k))
unfolding printed_at_end sheet_of header_line all_fed
as_one_file asked {h} {k} j r {first} {rest} l input e =
    let c = conditions j in
    ap (printed_lines asked (sheet_of h)) e
    ∙ opened-through asked (sheet_of h) (added_header_line h k) (first ++ rest) (opens_one h k j.first j.second c [])
    (all-in-turn h k j.first j.second c first rest l.index l.others)
    ∙ ap (λ (s : State). at_end asked s (2 + length (first ++ rest))) (sym (joining-holds.as_one_book j l) ∙ joining-holds.counts_as j)
    ∙ rw ((enough-test (joined h k)).1 r) refl

pub regions : Regions
regions = record {
  one = one;
  first_refused = λ asked sheet input inputs e. first_stops asked sheet input inputs e ∙ whole asked sheet input;
  refusal = λ asked sheet input e.
      let (n, l, f) = refused-alone asked (region_of sheet input) e in
      (n, l, sym (whole asked sheet input) ∙ f);
  report = no-refusal;
  files = files;
  second = second;
  third = third;
  as_one_file = as_one_file;
  neutral = λ asked sheet one z before after r c n. neutral-later asked sheet (region-sound sheet) z r one c before after n;
  neutral_first = λ asked sheet one z ones r c n. neutral_first asked sheet (region-sound sheet) z r one c ones n;
  neutral_lines = λ sheet one z x y n. rw (x.state, y.state) (joining_laws.neutral_lines x.opened y.opened n);
  any_order = λ asked sheet one other ones others p n m. any_order asked sheet (region-sound sheet) one other ones others p n m;
  unscored_first = λ asked sheet one other ones others p n o. unscored_first asked sheet (region-sound sheet) one other ones others p n o;
}
