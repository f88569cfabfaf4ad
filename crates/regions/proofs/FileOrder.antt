-- The order of files. Assumes nothing.
use mathlib.Core.Path.{◌≡◌, refl, sym, ◌∙◌, ap, subst}
use mathlib.Core.Bool.{Bool, true, false}
use mathlib.Core.List.Memᴰ
use mathlib.Core.List.{List, [], ◌∷◌, ◌++◌, append-nil, append_assoc, Memᴰ}
use mathlib.Core.List.Permᴰ
use mathlib.Core.List.{Permᴰ}
use mathlib.Core.Logic.{⊎_elim}
use Prim.Native.Nat.{ℕ, ◌+◌}
use Rattle.book_model.specs.Calls.{State, Answer, Sound}
use Rattle.book_model.specs.Joining.{joined_state, joining}
use Rattle.book_model.specs.JoiningLaws.{joined_to, without_marks, ChangesNothing, UnscoredFirst, Grouping, alone, together, AllSound}
use Rattle.book_model.proofs.AsOneBook.{permuted-member}
use Rattle.book_model.proofs.Demand3.{permuted-map}
use Rattle.book_model.proofs.Joining.{number, joining-holds}
use Rattle.book_model.proofs.JoiningLaws.{joining_laws}
use Rattle.driver.specs.Reading.{Stage}
use Rattle.regions.specs.Regions.{region_of, reports, printed_state, joins_on, stops_with, joined_from, printed_regions, IsRefusal, books_of}
use Rattle.regions.proofs.NextFile.{refused-alone, both_go, goes_parts, one-joined, one-stops, first-joined, first_stops, first-dropped}

-- where a file is not joined, a refusal is printed
stops-refused : (asked : Bool) (k : ℕ) (p : Stage) → IsRefusal (stops_with asked k p)
unfolding stops_with
stops-refused asked k p = go (reports p) refl
  where
    go : (t : Bool) → reports p ≡ t → IsRefusal (stops_with asked k p)
    go true e = (16, k, rw e refl)
    go false e = let (n, l, f) = refused-alone asked p e in (n, l, rw e f)

module _ (asked : Bool) (sheet : List ℕ) (sound : (input : List ℕ) → reports (region_of sheet input) ≡ true → Sound (region_of sheet input).state) where
  abbrev book_of : List ℕ → State
  book_of input = (region_of sheet input).state

  abbrev Reporting : List (List ℕ) → Type 0
  Reporting inputs = (input : List ℕ) → Memᴰ input inputs → reports (region_of sheet input) ≡ true

  -- Where no refusal is printed the next file is joined, and none is printed of the others.
  record NextJoined (s : State) (k : ℕ) (input : List ℕ) (inputs : List (List ℕ)) : Type 0 where
    goes : joins_on s (region_of sheet input) ≡ true
    reported : reports (region_of sheet input) ≡ true
    joins : (joining s (book_of input)).refusal ≡ 0
    same : joined_from asked sheet s k (input ∷ inputs) ≡ joined_from asked sheet (joining s (book_of input)).state (k + 1) inputs
    others : IsRefusal (joined_from asked sheet (joining s (book_of input)).state (k + 1) inputs) → ⊥

  next : (s : State) (k : ℕ) (input : List ℕ) (inputs : List (List ℕ)) → (IsRefusal (joined_from asked sheet s k (input ∷ inputs)) → ⊥) → NextJoined s k input inputs
  next s k input inputs n = go (joins_on s (region_of sheet input)) refl
    where
      go : (t : Bool) → joins_on s (region_of sheet input) ≡ t → NextJoined s k input inputs
      go true e =
          let (r, z) = goes_parts s (region_of sheet input) e in
          let same = one-joined asked sheet s k input inputs e in
          record { goes = e; reported = r; joins = z; same = same; others = λ x. n (subst IsRefusal (sym same) x) }
      go false e = absurd (n (subst IsRefusal (sym (one-stops asked sheet s k input inputs e)) (stops-refused asked k (region_of sheet input))))

  -- Files that print no refusal were joined, and the report is that of their book.
  record Through (xs : List State) (inputs : List (List ℕ)) (out : List ℕ) : Type 0 where
    state : State
    grouping : Grouping (xs ++ books_of sheet inputs) state
    report : out ≡ printed_state asked state
    reporting : Reporting inputs

  through : (xs : List State) (s : State) → Grouping xs s → (k : ℕ) (inputs : List (List ℕ)) → (IsRefusal (joined_from asked sheet s k inputs) → ⊥) →
      Through xs inputs (joined_from asked sheet s k inputs)
  unfolding joined_from
  through xs s g k [] n = record {
    state = s;
    grouping = subst (λ (l : List State). Grouping l s) (sym (append-nil xs)) g;
    report = refl;
    reporting = λ input m. absurd (Memᴰ.not-nil m);
  }
  through xs s g k (input ∷ inputs) n =
      let j = next s k input inputs n in
      let t = through (xs ++ (book_of input ∷ [])) (joining s (book_of input)).state (together g (alone (book_of input)) j.joins) (k + 1) inputs j.others in
      record {
        state = t.state;
        grouping = subst (λ (l : List State). Grouping l t.state) (append_assoc xs (book_of input ∷ []) (books_of sheet inputs)) t.grouping;
        report = j.same ∙ t.report;
        reporting = λ x m. ⊎_elim (λ f. rw f j.reported) (λ i. t.reporting x i) (Memᴰ.cases_cons m);
      }

  all_sound : (inputs : List (List ℕ)) → Reporting inputs → AllSound (books_of sheet inputs)
  all_sound [] r s m = absurd (Memᴰ.not-nil m)
  all_sound (input ∷ inputs) r s m = ⊎_elim
      (λ e. rw e (sound input (r input (Memᴰ.head refl))))
      (λ i. all_sound inputs (λ x n. r x (Memᴰ.tail n)) s i)
      (Memᴰ.cases_cons m)

  -- the first file too
  all-through : (one : List ℕ) (ones : List (List ℕ)) → (IsRefusal (printed_regions asked sheet one ones) → ⊥) →
      Through [] (one ∷ ones) (printed_regions asked sheet one ones)
  all-through one ones n = go (reports (region_of sheet one)) refl
    where
      go : (t : Bool) → reports (region_of sheet one) ≡ t → Through [] (one ∷ ones) (printed_regions asked sheet one ones)
      go true e =
          let same = first-joined asked sheet one ones e in
          let t = through (book_of one ∷ []) (book_of one) (alone (book_of one)) 2 ones (λ x. n (subst IsRefusal (sym same) x)) in
          record {
            state = t.state;
            grouping = t.grouping;
            report = same ∙ t.report;
            reporting = λ x m. ⊎_elim (λ f. rw f e) (λ i. t.reporting x i) (Memᴰ.cases_cons m);
          }
      go false e =
          let (k, l, f) = refused-alone asked (region_of sheet one) e in
          absurd (n (k, l, first_stops asked sheet one ones e ∙ f))

  -- the number of a file is printed only where it is not joined
  renumbered : (s : State) (k j : ℕ) (inputs : List (List ℕ)) → (IsRefusal (joined_from asked sheet s k inputs) → ⊥) →
      joined_from asked sheet s j inputs ≡ joined_from asked sheet s k inputs
  unfolding joined_from
  renumbered s k j [] n = refl
  renumbered s k j (input ∷ inputs) n =
      let i = next s k input inputs n in
      one-joined asked sheet s j input inputs i.goes ∙ renumbered (joining s (book_of input)).state (k + 1) (j + 1) inputs i.others ∙ sym i.same

  -- A file that changes nothing

  module _ (z : List ℕ) (r : reports (region_of sheet z) ≡ true) where
    -- joined next
    passed : (s : State) → Sound s → ChangesNothing s (book_of z) → (k : ℕ) (inputs : List (List ℕ)) →
        joined_from asked sheet s k (z ∷ inputs) ≡ joined_from asked sheet s (k + 1) inputs
    passed s x c k inputs =
        let e : joining s (book_of z) ≡ joined_to (without_marks s) = (joining_laws.neutral_marked s (book_of z) x (sound z r) c).0 in
        one-joined asked sheet s k z inputs (both_go s (region_of sheet z) r (number e))
        ∙ ap (λ (a : Answer). joined_from asked sheet a.state (k + 1) inputs) e ∙ sym (first-dropped asked sheet s (k + 1) inputs)

    -- after some others
    passed_on : (before after : List (List ℕ)) (s : State) → Sound s → ChangesNothing s (book_of z) → (k : ℕ) →
        (IsRefusal (joined_from asked sheet s k (before ++ after)) → ⊥) →
        joined_from asked sheet s k (before ++ (z ∷ after)) ≡ joined_from asked sheet s k (before ++ after)
    passed_on [] after s x c k n = passed s x c k after ∙ renumbered s k (k + 1) after n
    passed_on (input ∷ before) after s x c k n =
        let i = next s k input (before ++ after) n in
        let kept : ChangesNothing (joined_state s (book_of input)) (book_of z) =
        record { factors = c.factors; index = c.index; header = c.header; sums = c.sums; cells = c.cells } in
        one-joined asked sheet s k input (before ++ (z ∷ after)) i.goes
        ∙ passed_on before after (joining s (book_of input)).state (joining-holds.sound s (book_of input) x (sound input i.reported))
        (subst (λ (u : State). ChangesNothing u (book_of z)) (sym (joining-holds.joins s (book_of input) i.joins)) kept) (k + 1) i.others
        ∙ sym i.same

    module _ (one : List ℕ) (c : ChangesNothing (book_of one) (book_of z)) where
      pub neutral-later : (before after : List (List ℕ)) → (IsRefusal (printed_regions asked sheet one (before ++ after)) → ⊥) →
          printed_regions asked sheet one (before ++ (z ∷ after)) ≡ printed_regions asked sheet one (before ++ after)
      neutral-later before after n =
          let t = all-through one (before ++ after) n in
          let e : reports (region_of sheet one) ≡ true = t.reporting one (Memᴰ.head refl) in
          let same = first-joined asked sheet one (before ++ after) e in
          first-joined asked sheet one (before ++ (z ∷ after)) e
          ∙ passed_on before after (book_of one) (sound one e) c 2 (λ x. n (subst IsRefusal (sym same) x)) ∙ sym same

      pub neutral_first : (ones : List (List ℕ)) → (IsRefusal (printed_regions asked sheet one ones) → ⊥) →
          printed_regions asked sheet z (one ∷ ones) ≡ printed_regions asked sheet one ones
      neutral_first ones n =
          let t = all-through one ones n in
          let e : reports (region_of sheet one) ≡ true = t.reporting one (Memᴰ.head refl) in
          let same = first-joined asked sheet one ones e in
          let f : joining (book_of z) (book_of one) ≡ joined_to (without_marks (book_of one)) =
          (joining_laws.neutral_marked (book_of one) (book_of z) (sound one e) (sound z r) c).1 in
          first-joined asked sheet z (one ∷ ones) r
          ∙ one-joined asked sheet (book_of z) 2 one ones (both_go (book_of z) (region_of sheet one) e (number f))
          ∙ ap (λ (a : Answer). joined_from asked sheet a.state 3 ones) f ∙ sym (first-dropped asked sheet (book_of one) 3 ones)
          ∙ renumbered (book_of one) 2 3 ones (λ x. n (subst IsRefusal (sym same) x)) ∙ sym same

  -- Two orders

  module _ (one other : List ℕ) (ones others : List (List ℕ)) (p : Permᴰ (one ∷ ones) (other ∷ others))
      (n : IsRefusal (printed_regions asked sheet one ones) → ⊥) where
    t : Through [] (one ∷ ones) (printed_regions asked sheet one ones)
    t = all-through one ones n

    sound-all : AllSound (books_of sheet (one ∷ ones))
    sound-all = all_sound (one ∷ ones) t.reporting

    permuted : Permᴰ (books_of sheet (one ∷ ones)) (books_of sheet (other ∷ others))
    permuted = permuted-map (λ input. (region_of sheet input).state) p

    -- whatever way they are joined in
    same-report : {u : State} → Grouping (books_of sheet (other ∷ others)) u → printed_regions asked sheet one ones ≡ printed_state asked u
    same-report g = t.report ∙ ap (printed_state asked) (joining_laws.any_grouping sound-all permuted t.grouping g)

    pub any_order : (IsRefusal (printed_regions asked sheet other others) → ⊥) → printed_regions asked sheet one ones ≡ printed_regions asked sheet other others
    any_order m = let u = all-through other others m in same-report u.grouping ∙ sym u.report

    -- the files of the other order, of which some are joined
    on : (before : List State) (s : State) → Grouping before s → (k : ℕ) (inputs : List (List ℕ)) → Reporting inputs →
        before ++ books_of sheet inputs ≡ books_of sheet (other ∷ others) → UnscoredFirst (books_of sheet (other ∷ others)) →
        printed_regions asked sheet one ones ≡ joined_from asked sheet s k inputs
    unfolding joined_from
    on before s g k [] r e o = same-report (subst (λ (l : List State). Grouping l s) (sym (append-nil before) ∙ e) g)
    on before s g k (input ∷ inputs) r e o =
        let z : (joining s (book_of input)).refusal ≡ 0 = joining_laws.unscored_first before (book_of input) (books_of sheet inputs) sound-all t.grouping
        (subst (Permᴰ (books_of sheet (one ∷ ones))) (sym e) permuted) (subst UnscoredFirst (sym e) o) g in
        on (before ++ (book_of input ∷ [])) (joining s (book_of input)).state (together g (alone (book_of input)) z) (k + 1) inputs
        (λ x m. r x (Memᴰ.tail m)) (append_assoc before (book_of input ∷ []) (books_of sheet inputs) ∙ e) o
        ∙ sym (one-joined asked sheet s k input inputs (both_go s (region_of sheet input) (r input (Memᴰ.head refl)) z))

    pub unscored_first : UnscoredFirst (books_of sheet (other ∷ others)) → printed_regions asked sheet one ones ≡ printed_regions asked sheet other others
    unscored_first o =
        let r : Reporting (other ∷ others) = λ x m. t.reporting x (permuted-member (Permᴰ.symm p) x m) in
        on (book_of other ∷ []) (book_of other) (alone (book_of other)) 2 others (λ x m. r x (Memᴰ.tail m)) refl o
        ∙ sym (first-joined asked sheet other others (r other (Memᴰ.head refl)))
