-- Laws of numbers in a line: a D or S that is written is read as it, and only that.
use Prim.Native.Nat.{ℕ, ◌+◌, ◌≤◌, ◌<◌}
use native.Mathlib.Nat.{add-zero}
use native.Mathlib.Numerals.{add-one}
use native.Mathlib.Omega.{arith}
use mathlib.Core.Path.{◌≡◌, refl, sym, ◌∙◌, ap}
use mathlib.Core.Bool.{Bool, true, false}
use mathlib.Core.List.{List, ◌∷◌, [], ◌++◌}
use mathlib.Core.Logic.{◌⊎◌, inl, inr, ⊎_elim}
use borrow.Author.Tests.{eq-eqb, ne_eqb, eqb-true, eqb-false}
use lib.Dec.{eqb}
use lib.ListN.{length, drop, get_or, get_or-eq_default}
use lib.Seq.{get_or-drop, drop-drop, drop-cons}
use Rattle.line_forms.specs.Bytes.{past, run_of, all_within}
use Rattle.line_forms.specs.Numerals.{is_numeral, decimal, limit, signed_text}
use Rattle.line_forms.specs.Forms.{signed, FieldWritable}
use Rattle.line_forms.specs.Parsing.{digits_at, number_at, after_number, minus_at_lem, after_negative, signed_at_lem, after_signed}
use Rattle.fixed_point.specs.declared.Signed.{Signed}
use Rattle.line_forms.proofs.Bytes.{run-split, run-exact, run_end, rest-after}
use Rattle.line_forms.proofs.Positions.{minus-inside}
use Rattle.line_forms.proofs.Numerals.{decimal-numeral, decimal-digits, decimal-first, numeral-decimal}
use Rattle.exact.proofs.Decimal.{digits_value}

-- neither a digit nor a letter comes first
pub record Ends (r : List ℕ) : Type 0 where
  pub digits : run_of 48 57 r ≡ []
  pub letters : run_of 97 122 r ≡ []

-- Numbers.

pub number-written :
    (s : List ℕ) (at n : ℕ) (r : List ℕ) → drop at s ≡ decimal n ++ r → n < limit → Ends r →
    (number_at s at ≡ n) × (after_number s at ≡ at + length (decimal n))
unfolding number_at after_number
number-written s at n r e h q =
    let d : digits_at s at ≡ decimal n = rw e (run-exact 48 57 (decimal n) r (decimal-digits n) q.digits) in
    (rw (d, decimal-numeral n h, digits_value n), rw (d, decimal-numeral n h))

-- what reading a D shows of the line
pub record NumberRead (s : List ℕ) (at : ℕ) : Type 0 where
  pub fits : after_number s at ≤ length s
  pub text : drop at s ≡ decimal (number_at s at) ++ drop (after_number s at) s
  pub small : number_at s at < limit

pub number_read : (s : List ℕ) (at : ℕ) → at ≤ length s → NumberRead s at ⊎ ((after_number s at ≡ past s) × (number_at s at ≡ 0))
unfolding number_at after_number
number_read s at h = go (is_numeral (digits_at s at)) refl
  where
    go : (b : Bool) → is_numeral (digits_at s at) ≡ b → NumberRead s at ⊎ ((after_number s at ≡ past s) × (number_at s at ≡ 0))
    go true e =
        let k = numeral-decimal (digits_at s at) e in
        let a : drop at s ≡ digits_at s at ++ drop (at + length (digits_at s at)) s =
        rw (drop-drop (length (digits_at s at)) at s) at (run-split 48 57 (drop at s)) in
        inl (record {
          fits = rw e (rest-after s at (digits_at s at) (drop (at + length (digits_at s at)) s) h a).0;
          text = rw (e, ← k.0) a;
          small = rw e k.1;
        })
    go false e = inr (rw e, rw e)

pub number_past : (s : List ℕ) (at : ℕ) → length s < at → after_number s at ≡ past s
unfolding after_number is_numeral all_within
number_past s at h = let k : length s ≤ at = omega arith in rw (run_end 48 57 s at k)

-- Numbers with a sign.

-- the byte at a position is the first of the rest
at_first : (s : List ℕ) (at : ℕ) (t : List ℕ) → drop at s ≡ t → get_or s at 0 ≡ get_or t 0 0
at_first s at t e = rw (get_or-drop at s 0 0, add-zero at) at (ap (λ (l : List ℕ). get_or l 0 0) e)

no_minus : (s : List ℕ) (at n : ℕ) (r : List ℕ) → drop at s ≡ decimal n ++ r → n < limit → minus_at_lem s at ≡ false
no_minus s at n r e h =
    ne_eqb (get_or s at 0) 45 (λ q. omega (arith, decimal-first n r, at_first s at (decimal n ++ r) e))

next-rest : (s : List ℕ) (at b : ℕ) (r : List ℕ) → at ≤ length s → drop at s ≡ b ∷ r → drop (at + 1) s ≡ r
next-rest s at b r h e = (rest-after s at (b ∷ []) r h e).1

of : ℕ → ℕ → Signed
of p m = record { plus = p; minus = m }

pub signed-written :
    (s : List ℕ) (at : ℕ) (n : Signed) (r : List ℕ) → at ≤ length s → drop at s ≡ signed_text n ++ r →
    FieldWritable signed n → Ends r → (signed_at_lem s at ≡ n) × (after_signed s at ≡ at + length (signed_text n))
unfolding signed_at_lem after_signed after_negative signed_text of
signed-written s at n r l e w q = go (eqb n.minus 0) refl
  where
    go : (b : Bool) → eqb n.minus 0 ≡ b → (signed_at_lem s at ≡ n) × (after_signed s at ≡ at + length (signed_text n))
    go true z =
        let m : n.minus ≡ 0 = eqb-true n.minus 0 z in
        let f : drop at s ≡ decimal n.plus ++ r = e ∙ rw z in
        let k = number-written s at n.plus r f w.0 q in
        let d : minus_at_lem s at ≡ false = no_minus s at n.plus r f w.0 in
        (rw (d, k.0) (ap (λ (x : ℕ). of n.plus x) (sym m)), rw (d, z) k.1)
    go false z =
        let m : n.minus ≡ 0 → ⊥ = eqb-false n.minus 0 z in
        let p : n.plus ≡ 0 = ⊎_elim (λ a. a) (λ b. absurd (m b)) w.2 in
        let f : drop at s ≡ 45 ∷ (decimal n.minus ++ r) = e ∙ rw z in
        let d : minus_at_lem s at ≡ true =
        eq-eqb (get_or s at 0) 45 (at_first s at (45 ∷ (decimal n.minus ++ r)) f) in
        let k = number-written s (at + 1) n.minus r (next-rest s at 45 (decimal n.minus ++ r) l f) w.1 q in
        (rw (d, k.0) (ap (λ (x : ℕ). of x n.minus) (sym p)), rw (d, z, k.0, z) (k.1 ∙ omega arith))

pub record SignedRead (s : List ℕ) (at : ℕ) : Type 0 where
  pub fits : after_signed s at ≤ length s
  pub text : drop at s ≡ signed_text (signed_at_lem s at) ++ drop (after_signed s at) s
  pub small : FieldWritable signed (signed_at_lem s at)

-- the rest begins with the byte at the position
first_rest : (s : List ℕ) (at : ℕ) → at < length s → drop at s ≡ get_or s at 0 ∷ drop (at + 1) s
first_rest s at h = rw (add-one at) (drop-cons s at 0 h)

pub signed-read : (s : List ℕ) (at : ℕ) → at ≤ length s → SignedRead s at ⊎ (after_signed s at ≡ past s)
unfolding signed_at_lem after_signed after_negative signed_text
signed-read s at h = go (minus_at_lem s at) refl
  where
    plus : minus_at_lem s at ≡ false → NumberRead s at ⊎ ((after_number s at ≡ past s) × (number_at s at ≡ 0)) → SignedRead s at ⊎ (after_signed s at ≡ past s)
    plus d (inl k) = inl (record {
      fits = rw d k.fits;
      text = rw d k.text;
      small = rw d (k.small, omega arith, inr refl);
    })
    plus d (inr k) = inr (rw d k.0)

    nonzero : minus_at_lem s at ≡ true → NumberRead s (at + 1) → (b : Bool) → eqb (number_at s (at + 1)) 0 ≡ b → SignedRead s at ⊎ (after_signed s at ≡ past s)
    nonzero d k true z = inr (rw (d, z))
    nonzero d k false z =
        let e : drop at s ≡ 45 ∷ drop (at + 1) s =
        first_rest s at (minus-inside s at d) ∙ rw (eqb-true (get_or s at 0) 45 d) in
        inl (record {
          fits = rw (d, z) k.fits;
          text = rw (d, z) (e ∙ ap (λ (l : List ℕ). 45 ∷ l) k.text);
          small = rw d (omega arith, k.small, inl refl);
        })

    minus :
        minus_at_lem s at ≡ true → NumberRead s (at + 1) ⊎ ((after_number s (at + 1) ≡ past s) × (number_at s (at + 1) ≡ 0)) →
        SignedRead s at ⊎ (after_signed s at ≡ past s)
    minus d (inl k) = nonzero d k (eqb (number_at s (at + 1)) 0) refl
    minus d (inr k) = inr (rw (d, k.1))

    go : (b : Bool) → minus_at_lem s at ≡ b → SignedRead s at ⊎ (after_signed s at ≡ past s)
    go true d = minus d (number_read s (at + 1) (omega (arith, minus-inside s at d)))
    go false d = plus d (number_read s at h)

pub signed-past : (s : List ℕ) (at : ℕ) → length s < at → after_signed s at ≡ past s
unfolding after_signed
signed-past s at h =
    let k : length s ≤ at = omega arith in
    let d : minus_at_lem s at ≡ false = ne_eqb (get_or s at 0) 45 (λ e. omega (arith, get_or-eq_default s 0 k)) in
    rw d (number_past s at h)
