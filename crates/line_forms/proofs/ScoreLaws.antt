-- Laws of a score in a line: `D D` or `none`.
use Prim.Native.Nat.{ℕ, ◌+◌, ◌≤◌, ◌<◌}
use native.Mathlib.Omega.{arith}
use mathlib.Core.Path.{◌≡◌, refl, sym, ◌∙◌, ap}
use mathlib.Core.Bool.{Bool, true, false}
use mathlib.Core.List.{List, [], ◌∷◌, ◌++◌, append_assoc}
use mathlib.Core.Logic.{◌⊎◌, inl, inr}
use borrow.Author.Tests.{lt-leb}
use lib.ListN.{length, drop, length-append}
use lib.Seq.{drop-drop}
use Rattle.loan_charge.specs.declared.Score.{Score}
use Rattle.loan_charge.specs.declared.Score.TheVariants.{Scored, Unscored}
use Rattle.exact.specs.Text.{text}
use Rattle.line_forms.specs.Bytes.{past, stands_at, after, run_of, all_within, same, within}
use Rattle.line_forms.specs.Numerals.{decimal, is_numeral}
use Rattle.line_forms.specs.Forms.{score_text, ScoreWritable}
use Rattle.line_forms.specs.Parsing.{digits_at, letters_at, number_at, after_number, none_at, age_after, score_at_lem, after_score}
use Rattle.line_forms.proofs.Bytes.{and_both, within-bounds, same-eq, run-split, run-exact, run_end, rest-after, run-within, text-stands}
use Rattle.line_forms.proofs.Bytes.{Stands, stands-fits, after-true, after-false, text-cases, after-past}
use Rattle.line_forms.proofs.Numerals.{decimal-digits, is-numeral}
use Rattle.exact.proofs.Decimal.{digits-some}
use Rattle.line_forms.proofs.Positions.{number-missing}
use Rattle.line_forms.proofs.NumberLaws.{Ends, number-written, NumberRead, number_read, number_past}

-- no letter comes before digits
digits-first : (t r : List ℕ) → 0 < length t → all_within 48 57 t ≡ true → run_of 97 122 (t ++ r) ≡ []
unfolding run_of all_within
digits-first [] r p h = absurd (omega arith)
digits-first (d ∷ t) r p h =
    let b = within-bounds 48 57 d (and_both (within 48 57 d) (all_within 48 57 t) h).0 in
    let k : d < 97 = omega arith in
    rw (lt-leb 97 d k)

-- after a space there is neither a digit nor a letter yet
space-ends : (x : List ℕ) → Ends (32 ∷ x)
unfolding run_of
space-ends x = record { digits = refl; letters = refl }

pub score-written :
    (s : List ℕ) (at : ℕ) (q : Score) (r : List ℕ) → at ≤ length s → drop at s ≡ score_text q ++ r → ScoreWritable q →
    Ends r → (score_at_lem s at ≡ q) × (after_score s at ≡ at + length (score_text q))
unfolding score_at_lem after_score same all_within
score-written s at (Scored n age) r l e w q =
    let m = length (decimal n) in
    let e1 : drop at s ≡ decimal n ++ (32 ∷ (decimal age ++ r)) = e ∙ append_assoc (decimal n) (32 ∷ decimal age) r in
    let d : letters_at s at ≡ [] = rw e1 (digits-first (decimal n) (32 ∷ (decimal age ++ r)) (digits-some n) (decimal-digits n)) in
    let a = number-written s at n (32 ∷ (decimal age ++ r)) e1 w.0 (space-ends (decimal age ++ r)) in
    let x = rest-after s at (decimal n) (32 ∷ (decimal age ++ r)) l e1 in
    let b : after s (at + m) (text " ") ≡ at + m + 1 = text-stands s (at + m) (text " ") (decimal age ++ r) x.0 x.1 in
    let y = rest-after s (at + m) (text " ") (decimal age ++ r) x.0 x.1 in
    let c = number-written s (at + m + 1) age r y.1 w.1 q in
    (rw (d, a.0, a.1, b, c.0), rw (d, a.1, b, c.1) (omega (arith, length-append (decimal n) (32 ∷ decimal age))))
score-written s at Unscored r l e w q =
    let d : letters_at s at ≡ text "none" = rw e (run-exact 97 122 (text "none") r refl q.letters) in
    (rw d, rw d)

pub record ScoreRead (s : List ℕ) (at : ℕ) : Type 0 where
  pub fits : after_score s at ≤ length s
  pub text : drop at s ≡ score_text (score_at_lem s at) ++ drop (after_score s at) s
  pub small : ScoreWritable (score_at_lem s at)

pub score-read : (s : List ℕ) (at : ℕ) → at ≤ length s → ScoreRead s at ⊎ (after_score s at ≡ past s)
unfolding score_at_lem after_score
score-read s at h = go (none_at s at) refl
  where
    aged :
        none_at s at ≡ false → NumberRead s at → Stands s (after_number s at) (text " ") →
        NumberRead s (age_after s at) ⊎ ((after_number s (age_after s at) ≡ past s) × (number_at s (age_after s at) ≡ 0)) →
        ScoreRead s at ⊎ (after_score s at ≡ past s)
    aged d k a (inl m) =
        let g = age_after s at in
        let e : drop (after_number s at) s ≡ 32 ∷ drop g s = a.text ∙ rw a.next in
        inl (record {
          fits = rw d m.fits;
          text =
              rw d
              (k.text ∙ rw (e, m.text) (sym (append_assoc (decimal (number_at s at)) (32 ∷ decimal (number_at s g)) (drop (after_number s g) s))));
          small = rw d (k.small, m.small);
        })
    aged d k a (inr m) = inr (rw d m.0)

    spaced :
        none_at s at ≡ false → NumberRead s at → Stands s (after_number s at) (text " ") ⊎ (age_after s at ≡ past s) →
        ScoreRead s at ⊎ (after_score s at ≡ past s)
    spaced d k (inl a) = aged d k a (number_read s (age_after s at) (rw a.next a.fits))
    spaced d k (inr a) = inr (rw (d, a) (number_past s (past s) (omega arith)))

    numbered : none_at s at ≡ false → NumberRead s at ⊎ ((after_number s at ≡ past s) × (number_at s at ≡ 0)) → ScoreRead s at ⊎ (after_score s at ≡ past s)
    numbered d (inl k) = spaced d k (text-cases s (after_number s at) (text " "))
    numbered d (inr k) = inr (rw (d, k.0, after-past s (past s) (text " ") (omega arith)) (number_past s (past s) (omega arith)))

    go : (b : Bool) → none_at s at ≡ b → ScoreRead s at ⊎ (after_score s at ≡ past s)
    go true e =
        let a : drop at s ≡ letters_at s at ++ drop (at + length (letters_at s at)) s =
        rw (drop-drop (length (letters_at s at)) at s) at (run-split 97 122 (drop at s)) in
        inl (record {
          fits = rw e (rest-after s at (letters_at s at) (drop (at + length (letters_at s at)) s) h a).0;
          text = rw e (a ∙ ap (λ (w : List ℕ). w ++ drop (at + length (letters_at s at)) s) (same-eq (letters_at s at) (text "none") e));
          small = rw e tt;
        })
    go false e = numbered e (number_read s at h)

pub score-past : (s : List ℕ) (at : ℕ) → length s < at → after_score s at ≡ past s
unfolding after_score same
score-past s at h =
    let k : length s ≤ at = omega arith in
    rw (run_end 97 122 s at k, number_past s at h, after-past s (past s) (text " ") (omega arith))
    (number_past s (past s) (omega arith))

-- What a reader finds that tries the number first: a space after it, or the word, or neither.
pub score-scored :
    (s : List ℕ) (at : ℕ) → stands_at s (after_number s at) (text " ") ≡ true →
    (Scored (number_at s at) (number_at s (after_number s at + 1)) ≡ score_at_lem s at) × (after_number s (after_number s at + 1) ≡ after_score s at)
unfolding score_at_lem after_score same
score-scored s at e =
    let l = stands-fits s (after_number s at) (text " ") e in
    let d : letters_at s at ≡ [] = found (is_numeral (digits_at s at)) refl (omega arith) in
    let a : after s (after_number s at) (text " ") ≡ after_number s at + 1 = sym (after-true s (after_number s at) (text " ") e) in
    (rw (d, a), rw (d, a))
  where
    found : (b : Bool) → is_numeral (digits_at s at) ≡ b → after_number s at < past s → letters_at s at ≡ []
    found true h k =
        rw (run-split 48 57 (drop at s))
        (digits-first (digits_at s at) (drop (length (digits_at s at)) (drop at s)) (is-numeral (digits_at s at) h).some (run-within 48 57 (drop at s)))
    found false h k = absurd (omega (arith, (number-missing s at h).1))

pub score-none :
    (s : List ℕ) (at : ℕ) (w : List ℕ) → w ≡ letters_at s at → same w (text "none") ≡ true →
    (Unscored ≡ score_at_lem s at) × (at + length w ≡ after_score s at)
unfolding score_at_lem after_score
score-none s at w e h = (rw (← e, h), rw (← e, h))

pub score-missing :
    (s : List ℕ) (at : ℕ) → stands_at s (after_number s at) (text " ") ≡ false → none_at s at ≡ false →
    (Scored (number_at s at) 0 ≡ score_at_lem s at) × (past s ≡ after_score s at)
unfolding score_at_lem after_score is_numeral all_within
score-missing s at e d =
    let k : length s ≤ past s = omega arith in
    let m = number-missing s (past s) (rw (run_end 48 57 s (past s) k)) in
    (rw (d, ← after-false s (after_number s at) (text " ") e, ← m.0), rw (d, ← after-false s (after_number s at) (text " ") e) m.1)
