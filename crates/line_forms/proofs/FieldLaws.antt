-- Laws of a field: what is written as the field's value is read as it, and only that.
use Prim.Native.Nat.{ℕ, zero, suc, ◌+◌, ◌≤◌, ◌<◌}
use native.Mathlib.Omega.{arith}
use mathlib.Core.Path.{◌≡◌, refl, sym, ap}
use mathlib.Core.Bool.{Bool, true, false, ◌&&◌, ◌||◌, not}
use mathlib.Core.List.{List, [], ◌∷◌, ◌++◌}
use mathlib.Core.Logic.{◌⊎◌, inl, inr, ⊎_elim}
use borrow.Author.Tests.{ltb-true, lt-ltb, not-true}
use lib.Dec.{ltb}
use lib.ListN.{length, drop, get_or}
use lib.Seq.{drop-drop}
use Rattle.exact.specs.Choice.{pick}
use Rattle.line_forms.specs.Bytes.{past, all_within, same}
use Rattle.line_forms.specs.Forms.{Field, number, signed, word, score, name, Value, FieldWritable, field_text}
use Rattle.line_forms.specs.Parsing.{letters_at, place_of, after_word, field_at, after_field}
use Rattle.line_forms.proofs.Bytes.{and_both, or-false, same-eq, same_refl, run-split, run-exact, run_end, rest-after}
use Rattle.line_forms.proofs.NameLaws.{name-written, name-read, name-past}
use Rattle.line_forms.proofs.NumberLaws.{Ends, number-written, number_read, number_past, signed-written, signed-read, signed-past}
use Rattle.line_forms.proofs.ScoreLaws.{score-written, score-read, score-past}

-- Words.

unfoldable pub among : List ℕ → List (List ℕ) → Bool
among w [] = false
among w (x ∷ choices) = same x w || among w choices

-- words of letters, none twice
unfoldable pub spelled : List (List ℕ) → Bool
spelled [] = true
spelled (w ∷ choices) = (ltb 0 (length w) && all_within 97 122 w) && (not (among w choices) && spelled choices)

record Spelled (w : List ℕ) (choices : List (List ℕ)) : Type 0 where
  some : 0 < length w
  letters : all_within 97 122 w ≡ true
  once : among w choices ≡ false
  others : spelled choices ≡ true

spells : (w : List ℕ) (choices : List (List ℕ)) → spelled (w ∷ choices) ≡ true → Spelled w choices
unfolding spelled
spells w choices h =
    let a = and_both (ltb 0 (length w) && all_within 97 122 w) (not (among w choices) && spelled choices) h in
    let b = and_both (ltb 0 (length w)) (all_within 97 122 w) a.0 in
    let e = and_both (not (among w choices)) (spelled choices) a.1 in
    record {
      some = ltb-true 0 (length w) b.0;
      letters = b.1;
      once = not-true (among w choices) e.0;
      others = e.1;
    }

word-letters :
    (choices : List (List ℕ)) (i : ℕ) → spelled choices ≡ true → i < length choices →
    (0 < length (get_or choices i [])) × (all_within 97 122 (get_or choices i []) ≡ true)
word-letters [] i h l = absurd (omega arith)
word-letters (w ∷ choices) zero h l = let k = spells w choices h in (k.some, k.letters)
word-letters (w ∷ choices) (suc i) h l = word-letters choices i (spells w choices h).others (omega arith)

not-among : (w : List ℕ) (choices : List (List ℕ)) (i : ℕ) → among w choices ≡ false → i < length choices → same (get_or choices i []) w ≡ false
unfolding among
not-among w [] i h l = absurd (omega arith)
not-among w (x ∷ choices) zero h l = (or-false (same x w) (among w choices) h).0
not-among w (x ∷ choices) (suc i) h l = not-among w choices i (or-false (same x w) (among w choices) h).1 (omega arith)

-- a word's place, and the word at a place
pub place-of : (choices : List (List ℕ)) (i : ℕ) → spelled choices ≡ true → i < length choices → place_of (get_or choices i []) choices ≡ i
unfolding place_of
place-of [] i h l = absurd (omega arith)
place-of (w ∷ choices) zero h l = rw (same_refl w)
place-of (w ∷ choices) (suc i) h l =
    let k = spells w choices h in
    let m : i < length choices = omega arith in
    rw (not-among w choices i k.once m, place-of choices i k.others m)

word_at : (w : List ℕ) (choices : List (List ℕ)) → place_of w choices < length choices → get_or choices (place_of w choices) [] ≡ w
unfolding place_of
word_at w [] l = absurd (omega arith)
word_at w (x ∷ choices) l = go (same w x) refl (word_at w choices)
  where
    go :
        (b : Bool) → same w x ≡ b → (place_of w choices < length choices → get_or choices (place_of w choices) [] ≡ w) →
        get_or (x ∷ choices) (pick b 0 (suc (place_of w choices))) [] ≡ w
    go true e f = sym (same-eq w x e)
    go false e f =
        let m : suc (place_of w choices) < suc (length choices) = rw e at l in
        f (omega arith)

word-written :
    (choices : List (List ℕ)) (s : List ℕ) (at i : ℕ) (r : List ℕ) → drop at s ≡ get_or choices i [] ++ r →
    spelled choices ≡ true → i < length choices → Ends r →
    (place_of (letters_at s at) choices ≡ i) × (after_word choices s at ≡ at + length (get_or choices i []))
unfolding after_word
word-written choices s at i r e h l q =
    let d : letters_at s at ≡ get_or choices i [] =
    rw e (run-exact 97 122 (get_or choices i []) r (word-letters choices i h l).1 q.letters) in
    let p : place_of (get_or choices i []) choices ≡ i = place-of choices i h l in
    (rw (d, p), rw (d, p, lt-ltb i (length choices) l))

pub record WordRead (choices : List (List ℕ)) (s : List ℕ) (at : ℕ) : Type 0 where
  pub fits : after_word choices s at ≤ length s
  pub text : drop at s ≡ get_or choices (place_of (letters_at s at) choices) [] ++ drop (after_word choices s at) s
  pub small : place_of (letters_at s at) choices < length choices

word_read : (choices : List (List ℕ)) (s : List ℕ) (at : ℕ) → at ≤ length s → WordRead choices s at ⊎ (after_word choices s at ≡ past s)
unfolding after_word
word_read choices s at h = go (ltb (place_of (letters_at s at) choices) (length choices)) refl
  where
    go : (b : Bool) → ltb (place_of (letters_at s at) choices) (length choices) ≡ b → WordRead choices s at ⊎ (after_word choices s at ≡ past s)
    go true e =
        let l = ltb-true (place_of (letters_at s at) choices) (length choices) e in
        let a : drop at s ≡ letters_at s at ++ drop (at + length (letters_at s at)) s =
        rw (drop-drop (length (letters_at s at)) at s) at (run-split 97 122 (drop at s)) in
        inl (record {
          fits = rw e (rest-after s at (letters_at s at) (drop (at + length (letters_at s at)) s) h a).0;
          text = rw (e, word_at (letters_at s at) choices l) a;
          small = l;
        })
    go false e = inr (rw e)

word-past : (choices : List (List ℕ)) (s : List ℕ) (at : ℕ) → spelled choices ≡ true → length s < at → after_word choices s at ≡ past s
unfolding after_word
word-past choices s at q h =
    let k : length s ≤ at = omega arith in
    rw (run_end 97 122 s at k) (go (ltb (place_of [] choices) (length choices)) refl)
  where
    go : (b : Bool) → ltb (place_of [] choices) (length choices) ≡ b → pick b (at + length {A = ℕ} []) (past s) ≡ past s
    go true e =
        let l = ltb-true (place_of [] choices) (length choices) e in
        absurd (omega (arith, (word-letters choices (place_of [] choices) q l).0, ap length (word_at [] choices l)))
    go false e = refl

-- Any field.

-- whether a field's choices are words
abbrev pub proper_field : Field → Bool
proper_field number = true
proper_field signed = true
proper_field (word choices) = spelled choices
proper_field score = true
proper_field name = true

pub field-written :
    (k : Field) (s : List ℕ) (at : ℕ) (v : Value k) (r : List ℕ) → at ≤ length s → drop at s ≡ field_text k v ++ r →
    FieldWritable k v → proper_field k ≡ true → Ends r →
    (field_at k s at ≡ v) × (after_field k s at ≡ at + length (field_text k v))
field-written number s at v r l e w p q = number-written s at v r e w q
field-written signed s at v r l e w p q = signed-written s at v r l e w q
field-written (word choices) s at v r l e w p q = word-written choices s at v r e p w q
field-written score s at v r l e w p q = score-written s at v r l e w q
field-written name s at v r l e w p q = name-written s at v r e w q

pub record FieldRead (k : Field) (s : List ℕ) (at : ℕ) : Type 0 where
  pub fits : after_field k s at ≤ length s
  pub text : drop at s ≡ field_text k (field_at k s at) ++ drop (after_field k s at) s
  pub small : FieldWritable k (field_at k s at)

pub field-read : (k : Field) (s : List ℕ) (at : ℕ) → at ≤ length s → FieldRead k s at ⊎ (after_field k s at ≡ past s)
field-read number s at h = ⊎_elim (λ k. inl (record { fits = k.fits; text = k.text; small = k.small })) (λ k. inr k.0) (number_read s at h)
field-read signed s at h = ⊎_elim (λ k. inl (record { fits = k.fits; text = k.text; small = k.small })) (λ k. inr k) (signed-read s at h)
field-read (word choices) s at h = ⊎_elim (λ k. inl (record { fits = k.fits; text = k.text; small = k.small })) (λ k. inr k) (word_read choices s at h)
field-read score s at h = ⊎_elim (λ k. inl (record { fits = k.fits; text = k.text; small = k.small })) (λ k. inr k) (score-read s at h)
field-read name s at h = ⊎_elim (λ k. inl (record { fits = k.fits; text = k.text; small = k.small })) (λ k. inr k) (name-read s at h)

-- past the end no field stands
pub field_past : (k : Field) (s : List ℕ) (at : ℕ) → proper_field k ≡ true → length s < at → after_field k s at ≡ past s
field_past number s at p h = number_past s at h
field_past signed s at p h = signed-past s at h
field_past (word choices) s at p h = word-past choices s at p h
field_past score s at p h = score-past s at h
field_past name s at p h = name-past s at h
