-- What is printed of the files read so far, and of all. Assumes nothing.
use mathlib.Core.Path.{◌≡◌, refl, sym, ◌∙◌, ap, subst}
use mathlib.Core.Bool.{Bool, true, false, true≢false, false≢true}
use mathlib.Core.List.{List, [], ◌∷◌, ◌++◌, append_assoc}
use Prim.Native.Nat.{ℕ, ◌+◌, ◌-◌, ◌≤◌, ◌<◌}
use native.Mathlib.Omega.{arith}
use lib.ListN.{length, replicate, length-append, length-replicate}
use Rattle.std.specs.Prelude.{Option, Some, None, Ok, is_some, unwrap_or}
use Rattle.report.specs.Line.{Written}
use Rattle.book_model.specs.Calls.{State, told, Sound}
use Rattle.book_model.specs.Joining.{joining}
use Rattle.book_model.specs.JoiningLaws.{without_marks}
use Rattle.book_model.proofs.Joining.{joining-holds}
use Rattle.printing.specs.AtEnd.{printed_at_end, printed_with}
use Rattle.driver.specs.declared.Progress.{Progress}
use Rattle.driver.specs.Printed.{printed_for}
use Rattle.driver.specs.Reading.{Stage, stage_at}
use Rattle.driver.proofs.Runs.{written-within}
use Rattle.regions.specs.Regions.{region_of, reports, joins_on, stops_with, joined_from}
use Rattle.regions.specs.NextFile.{NextFile}
use Rattle.regions.proofs.NextFile.{Enough, parts, joined-enough, goes_parts, one-joined, one-stops, first-joined, first_stops, first-dropped, file-dropped}
use Rattle.capital.specs.declared.Words.{Words}
use Rattle.capital.specs.Reads.{Output}
use Rattle.capital.specs.Files.{Step, step_of, NextRead, AnsweredOthers, AnsweredFiles, AnsweredWords}

-- a read failed
pub next-failed : (asked : Bool) (sheet : List ℕ) (s : State) (k : ℕ) (after : State) (old : List ℕ) →
    NextRead asked sheet s k (record { count = 0; done = true; failed = true }) after old old
next-failed asked sheet s k after old = record {
  reads = λ e. absurd (true≢false e);
  sound = λ e. absurd (true≢false e);
  enough = λ e. absurd (true≢false e);
  fails = λ e. (refl, refl);
}

-- one more file was read
pub next-read : (asked : Bool) (sheet : List ℕ) (s : State) (k : ℕ) (p : Progress) (own : State) (input : List ℕ) → stage_at p sheet own ≡ region_of sheet input →
    Sound s → Sound own → {done : Bool} {count : ℕ} {after : State} {old new : List ℕ} →
    NextFile asked s k (stage_at p [] (without_marks own)) done count after old new →
    NextRead asked sheet s k (record { count = count; done = done; failed = false }) (without_marks after) old new
next-read asked sheet s k p own input e x y {done} {count} {after} {old} {new} n =
    let t : Stage = stage_at p sheet own in
    let m : NextFile asked s k t done count (without_marks after) old new = file-dropped asked s k p sheet own n in
    record {
      reads = λ z. (input, subst (λ (q : Stage). NextFile asked s k q done count (without_marks after) old new) e m);
      sound = λ z. subst Sound (sym (m.goes_on z).1) (joining-holds.sound s t.state x y);
      enough = λ z few.
          let (g, a, l) = m.goes_on z in
          let (q, j) = goes_parts s t g in
          subst Enough (sym a) (joined-enough s t.state x y j few (parts t q).2);
      fails = λ z. absurd (false≢true z);
    }

-- the same as the code's answer says it
pub next-told : {asked : Bool} {sheet : List ℕ} {s : State} {k : ℕ} {after : State} {old new : List ℕ} (printed : Option ℕ) →
    NextRead asked sheet s k (record { count = unwrap_or printed 0; done = is_some printed; failed = false }) after old new →
    NextRead asked sheet s k (step_of (Ok printed)) after old new
next-told (Some n) h = h
next-told None h = h

-- of an equal book
pub next-for : {asked : Bool} {sheet : List ℕ} {s : State} {k : ℕ} {r : Step} {after other : State} {old new : List ℕ} → other ≡ after →
    NextRead asked sheet s k r after old new → NextRead asked sheet s k r other old new
next-for {asked} {sheet} {s} {k} {r} {after} {other} {old} {new} e h = subst (λ (t : State). NextRead asked sheet s k r t old new) (sym e) h

-- by what it printed
pub next-as : {asked : Bool} {sheet : List ℕ} {s : State} {k : ℕ} {after : State} {old new : List ℕ} (printed : Option ℕ) {other : Option ℕ} →
    NextRead asked sheet s k (step_of (Ok printed)) after old new → printed ≡ other → NextRead asked sheet s k (step_of (Ok other)) after old new
next-as {asked} {sheet} {s} {k} {after} {old} {new} printed h e = subst (λ (o : Option ℕ). NextRead asked sheet s k (step_of (Ok o)) after old new) e h

-- what AnsweredOthers says is printed
abbrev Printed : Bool → (sheet : List ℕ) → State → (m : ℕ) → (old : List ℕ) → (told : ℕ) → (new : List ℕ) → Type 0
Printed asked sheet s m old told new =
    (inputs : List (List ℕ)) × (length inputs ≤ m) ×
    ((unread : List (List ℕ)) → length inputs + length unread ≡ m → Written old (joined_from asked sheet s 2 (inputs ++ unread)) told new)

-- files joined so far to the book s, and the next of them the k-th
pub record SoFar (asked : Bool) (sheet : List ℕ) (s : State) (n : ℕ) (total : State) (k : ℕ) : Type 0 where
  pub inputs : List (List ℕ)
  pub count : length inputs ≡ n
  pub goes : (rest : List (List ℕ)) → joined_from asked sheet s 2 (inputs ++ rest) ≡ joined_from asked sheet total k rest

pub none_yet : (asked : Bool) (sheet : List ℕ) (s : State) {n k : ℕ} → n ≡ 0 → k ≡ 2 → SoFar asked sheet s n s k
none_yet asked sheet s e f = record { inputs = []; count = omega (arith, e); goes = λ rest. ap (λ (k : ℕ). joined_from asked sheet s k rest) (sym f) }

module _ {asked : Bool} {sheet : List ℕ} {s : State} {n : ℕ} {total : State} {k : ℕ} (f : SoFar asked sheet s n total k) where
  -- one more
  module _ (input : List ℕ) where
    on : (rest : List (List ℕ)) → joined_from asked sheet s 2 ((f.inputs ++ (input ∷ [])) ++ rest) ≡ joined_from asked sheet total k (input ∷ rest)
    on rest = ap (joined_from asked sheet s 2) (append_assoc f.inputs (input ∷ []) rest) ∙ f.goes (input ∷ rest)

    one-more-long : length (f.inputs ++ (input ∷ [])) ≡ n + 1
    one-more-long = length-append f.inputs (input ∷ []) ∙ omega (arith, f.count)

    so_far_more : {m j : ℕ} {after : State} → m ≡ n + 1 → j ≡ k + 1 → joins_on total (region_of sheet input) ≡ true →
        after ≡ (joining total (region_of sheet input).state).state → SoFar asked sheet s m after j
    so_far_more {m} {j} {after} l h g e = record {
      inputs = f.inputs ++ (input ∷ []);
      count = omega (arith, one-more-long, l);
      goes = λ rest. on rest ∙ one-joined asked sheet total k input rest g ∙ (λ i. joined_from asked sheet (sym e i) (sym h i) rest);
    }

    stopped : {m : ℕ} → n < m → {old new : List ℕ} {told : ℕ} → joins_on total (region_of sheet input) ≡ false →
        Written old (stops_with asked k (region_of sheet input)) told new → Printed asked sheet s m old told new
    stopped l {old} {new} {told} g w = (
      f.inputs ++ (input ∷ []),
      omega (arith, one-more-long, l),
      λ unread z. subst (λ (t : List ℕ). Written old t told new) (sym (on unread ∙ one-stops asked sheet total k input unread g)) w,
    )

  module _ {r : Step} {after : State} {old old₀ new : List ℕ} (x : NextRead asked sheet total k r after old new) (e : old ≡ old₀) where
    -- it ends with that file
    pub done-there : {m : ℕ} → n < m → r.done ≡ true → AnsweredOthers asked sheet s m old₀ (record { count = r.count; failed = r.failed }) new
    done-there {m} l d = record {
      prints = λ z.
          let (input, y) = x.reads z in
          subst (λ (o : List ℕ). Printed asked sheet s m o r.count new) e (stopped input l (y.stops d).0 (y.stops d).1);
      fails = λ z. (x.fails z).1 ∙ e;
    }

    -- it goes on
    pub goes_further : {m j : ℕ} → m ≡ n + 1 → j ≡ k + 1 → Enough total → r.done ≡ false →
        Sound after × Enough after × SoFar asked sheet s m after j × (new ≡ old₀)
    goes_further {m} {j} l h few d = go r.failed refl
      where
        go : (b : Bool) → r.failed ≡ b → Sound after × Enough after × SoFar asked sheet s m after j × (new ≡ old₀)
        go true z = absurd (false≢true (sym d ∙ (x.fails z).0))
        go false z =
            let (input, y) = x.reads z in
            let (g, a, o) = y.goes_on d in
            (x.sound d, x.enough d few, so_far_more input l h g a, o ∙ e)

  -- no file is left
  pub all_read : {m : ℕ} → n ≡ m → Enough total → {old old₀ new : List ℕ} {told : ℕ} → old ≡ old₀ →
      Written old (printed_with asked 0 2 total.book total.cells) told new →
      AnsweredOthers asked sheet s m old₀ (record { count = told; failed = false }) new
  unfolding joined_from printed_with printed_at_end
  all_read {m} l few {old} {old₀} {new} {told} e w = record {
    prints = λ z. (f.inputs, omega (arith, f.count, l), λ unread x. go unread (omega (arith, x, f.count, l)));
    fails = λ z. absurd (false≢true z);
  }
    where
      go : (unread : List (List ℕ)) → length unread ≡ 0 → Written old₀ (joined_from asked sheet s 2 (f.inputs ++ unread)) told new
      go [] x =
          subst (λ (o : List ℕ). Written o (joined_from asked sheet s 2 (f.inputs ++ [])) told new) e
          (subst (λ (t : List ℕ). Written old t told new) (rw few refl ∙ sym (f.goes [])) w)
      go (input ∷ unread) x = absurd (omega (arith, x))

-- The first file

pub files-failed : (asked : Bool) (sheet : List ℕ) (n : ℕ) (old : List ℕ) → AnsweredFiles asked sheet n old (record { count = 0; failed = true }) old
files-failed asked sheet n old = record { prints = λ e. absurd (true≢false e); fails = λ e. refl }

module _ (asked : Bool) (sheet : List ℕ) (p : Progress) (own : State) (input : List ℕ)
    (e : stage_at p sheet own ≡ region_of sheet input) (n : ℕ) {old new : List ℕ} where
  pub first_alone : 1 ≤ n → reports (stage_at p sheet own) ≡ false → {count : ℕ} →
      Written old (printed_with asked (told p.answer) p.number own.book own.cells) count new →
      AnsweredFiles asked sheet n old (record { count = count; failed = false }) new
  first_alone l r {count} w = record {
    prints = λ z. (
      input,
      [],
      l,
      λ unread x. subst (λ (t : List ℕ). Written old t count new)
          (ap (printed_for asked) e ∙ sym (first_stops asked sheet input unread (ap reports (sym e) ∙ r))) w,
    );
    fails = λ z. absurd (false≢true z);
  }

  pub first_read : reports (stage_at p sheet own) ≡ true → (m : ℕ) → n ≡ 1 + m → {r : Output} →
      AnsweredOthers asked sheet (without_marks own) m old r new → AnsweredFiles asked sheet n old r new
  first_read g m l {r} a = record {
    prints = λ z.
        let (inputs, few, written) = a.prints z in (
          input,
          inputs,
          omega (arith, few, l),
          λ unread x. subst (λ (t : List ℕ). Written old t r.count new)
              (sym (first-joined asked sheet input (inputs ++ unread) (ap reports (sym e) ∙ g)
              ∙ ap (λ (q : Stage). joined_from asked sheet q.state 2 (inputs ++ unread)) (sym e)
              ∙ first-dropped asked sheet own 2 (inputs ++ unread)))
              (written unread (omega (arith, x, l))),
        );
    fails = a.fails;
  }

-- What is printed lies within the buffer.

files-within : {asked : Bool} {sheet : List ℕ} {n : ℕ} {old : List ℕ} {r : Output} {new : List ℕ} → AnsweredFiles asked sheet n old r new → r.failed ≡ false →
    r.count ≤ length new
files-within {n = n} a z =
    let (input, inputs, few, told) = a.prints z in
    let unread : List (List ℕ) = replicate (n - (1 + length inputs)) [] in
    written-within (told unread (omega (arith, few, length-replicate {A = List ℕ} (n - (1 + length inputs)) [])))

pub words-within : {w : Words} {arguments : ℕ} {sheet old : List ℕ} {r : Output} {new : List ℕ} → AnsweredWords w arguments sheet old r new →
    r.failed ≡ false → r.count ≤ length new
words-within {w} {r = r} {new} a z = go w.files refl
  where
    go : (o : Option ℕ) → w.files ≡ o → r.count ≤ length new
    go None e = written-within ((a.input e).prints z).1
    go (Some from) e = files-within (a.files from e) z
