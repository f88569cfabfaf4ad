-- Laws of choices between bars, as a reader goes from one to the next.
use Prim.Native.Nat.{ℕ, ◌+◌, ◌≤◌, ◌<◌}
use native.Mathlib.Numerals.{add-one}
use native.Mathlib.Omega.{arith}
use native.Mathlib.Decide.{dec_lt}
use mathlib.Core.Path.{◌≡◌, refl, sym, ◌∙◌, ap}
use mathlib.Core.Bool.{Bool, true, false}
use mathlib.Core.List.{List, [], ◌∷◌}
use borrow.Author.Tests.{le-leb, lt-leb, lt-ltb, le-ltb}
use lib.Dec.{leb}
use lib.ListN.{length, drop, drop_of_length-le}
use lib.Seq.{drop-cons, drop-drop}
use Rattle.exact.specs.Choice.{pick}
use Rattle.line_forms.specs.Bytes.{within, run_of, same, past}
use Rattle.line_forms.specs.Forms.{choices_of, longer}
use Rattle.line_forms.specs.Parsing.{place_of, after_word, letters_at}

-- the choices from a position on: none past the end
abbrev choices_from : List ℕ → ℕ → List (List ℕ)
choices_from t i = pick (leb i (length t)) (choices_of (drop i t)) []

-- what follows a choice: nothing, or a bar and the other choices
abbrev others : List ℕ → List (List ℕ)
others [] = []
others (b ∷ t) = choices_of t

first-choice : (t : List ℕ) → choices_of t ≡ run_of 0 123 t ∷ others (drop (length (run_of 0 123 t)) t)
unfolding run_of
first-choice [] = refl
first-choice (b ∷ t) = go (within 0 123 b) (first-choice t)
  where
    go :
        (q : Bool) → choices_of t ≡ run_of 0 123 t ∷ others (drop (length (run_of 0 123 t)) t) →
        pick q (longer b (choices_of t)) ([] ∷ choices_of t) ≡ pick q (b ∷ run_of 0 123 t) [] ∷ others (drop (length (pick q (b ∷ run_of 0 123 t) [])) (b ∷ t))
    go true e = ap (longer b) e
    go false e = refl

others-from : (t : List ℕ) (i : ℕ) → others (drop i t) ≡ choices_from t (i + 1)
others-from t i = elim (dec_lt i (length t)) [ yes l ↦ inside l | no l ↦ outside l ]
  where
    inside : i < length t → others (drop i t) ≡ choices_from t (i + 1)
    inside l = let k : i + 1 ≤ length t = omega arith in rw (le-leb (i + 1) (length t) k, drop-cons t i 0 l, add-one i)

    outside : (i < length t → ⊥) → others (drop i t) ≡ choices_from t (i + 1)
    outside l =
        let k : length t < i + 1 = omega arith in
        let m : length t ≤ i = omega arith in
        rw (lt-leb (i + 1) (length t) k, drop_of_length-le t m)

-- the choice at a position and those after its bar
next-choice : (t : List ℕ) (i n : ℕ) → i ≤ length t → n ≡ length (run_of 0 123 (drop i t)) → choices_from t i ≡ run_of 0 123 (drop i t) ∷ choices_from t (i + n + 1)
next-choice t i n h e =
    rw (le-leb i (length t) h, e)
    (first-choice (drop i t) ∙
    ap (λ (x : List (List ℕ)). run_of 0 123 (drop i t) ∷ x)
    (ap others (drop-drop (length (run_of 0 123 (drop i t))) i t) ∙ others-from t (i + length (run_of 0 123 (drop i t)))))

no-choice : (t : List ℕ) (i : ℕ) → length t < i → choices_from t i ≡ []
no-choice t i h = rw (lt-leb i (length t) h)

-- A word is sought from the first choice on: it is none of the first `place` choices, and the others begin at i.
pub record Sought (w t : List ℕ) (place i : ℕ) : Type 0 where
  pub found : place_of w (choices_of t) ≡ place + place_of w (choices_from t i)
  pub count : length (choices_of t) ≡ place + length (choices_from t i)

pub sought-start : (w t : List ℕ) → Sought w t 0 0
sought-start w t =
    let e : leb 0 (length t) ≡ true = le-leb 0 (length t) (omega arith) in
    record { found = rw e (omega arith); count = rw e (omega arith) }

module _ {w t : List ℕ} {place i : ℕ} (h : Sought w t place i) where
  pub sought-next : (n : ℕ) → i ≤ length t → n ≡ length (run_of 0 123 (drop i t)) → same w (run_of 0 123 (drop i t)) ≡ false → Sought w t (place + 1) (i + n + 1)
  unfolding place_of
  sought-next n l e d =
      let k = next-choice t i n l e in
      record { found = h.found ∙ rw (k, d) (omega arith); count = h.count ∙ rw k (omega arith) }

  pub word-found :
      (s : List ℕ) (at : ℕ) → w ≡ letters_at s at → i ≤ length t → same w (run_of 0 123 (drop i t)) ≡ true →
      (place ≡ place_of (letters_at s at) (choices_of t)) × (at + length w ≡ after_word (choices_of t) s at)
  unfolding place_of after_word
  word-found s at e l d =
      let k = next-choice t i (length (run_of 0 123 (drop i t))) l refl in
      let p : place_of w (choices_of t) ≡ place = h.found ∙ rw (k, d) (omega arith) in
      let n : place < length (choices_of t) = rw (h.count, k) (omega arith) in
      (rw (← e) (sym p), rw (← e, p, lt-ltb place (length (choices_of t)) n))

  pub word-missing :
      (s : List ℕ) (at : ℕ) → w ≡ letters_at s at → length t < i →
      (place ≡ place_of (letters_at s at) (choices_of t)) × (past s ≡ after_word (choices_of t) s at)
  unfolding place_of after_word
  word-missing s at e l =
      let k = no-choice t i l in
      let p : place_of w (choices_of t) ≡ place = h.found ∙ rw k (omega arith) in
      let n : length (choices_of t) ≤ place = rw (h.count, k) (omega arith) in
      (rw (← e) (sym p), rw (← e, p, le-ltb place (length (choices_of t)) n))
