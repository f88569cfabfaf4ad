-- Laws of D and S: a number's digits and the number that digits give.
use Prim.Native.Nat.{ℕ, zero, suc, ◌+◌, ◌-◌, ◌*◌, ◌/◌, ◌%◌, ◌^◌, ◌≤◌, ◌<◌}
use native.Mathlib.Nat.{pow-suc, pow-le-pow_right, zero-add, lt_of_lt_of_le, mul-le-mul_right}
use native.Mathlib.Omega.{arith}
use mathlib.Core.Path.{◌≡◌, refl, sym, ◌∙◌}
use mathlib.Core.Bool.{Bool, true, false, ◌&&◌, ◌||◌, not}
use mathlib.Core.List.{List, [], ◌∷◌, ◌++◌, append-nil, append_assoc}
use borrow.Author.Tests.{eq-eqb, ne_eqb, eqb-false, ltb-false, leb-true, ltb-true, le-leb, lt-ltb, le-ltb, not-true}
use lib.Dec.{eqb, leb, ltb, lit<}
use native.Mathlib.Decide.{dec_lt}
use lib.ListN.{length, get_or, get_or-append}
use Rattle.line_forms.specs.Bytes.{within, all_within}
use Rattle.exact.specs.Decimal.{digit, leading, digits}
use Rattle.exact.proofs.Decimal.{digits-one, digits_more, digits-some, digits-nonzero, digits-length}
use Rattle.line_forms.specs.Numerals.{is_numeral, value_from, decimal, limit}
use Rattle.line_forms.proofs.Bytes.{false-and, and_both, or-false, within-bounds, all_append, all-at}

-- the value of one, two or three digits
pub value-one : (t : List ℕ) → length t ≡ 1 → get_or t 0 0 - 48 ≡ value_from 0 t
unfolding value_from
value-one [] h = absurd (omega arith)
value-one (a ∷ []) h = omega arith
value-one (a ∷ b ∷ t) h = absurd (omega arith)

pub value-two : (t : List ℕ) → length t ≡ 2 → (get_or t 0 0 - 48) * 10 + (get_or t 1 0 - 48) ≡ value_from 0 t
unfolding value_from
value-two [] h = absurd (omega arith)
value-two (a ∷ []) h = absurd (omega arith)
value-two (a ∷ b ∷ []) h = omega arith
value-two (a ∷ b ∷ d ∷ t) h = absurd (omega arith)

pub value-three : (t : List ℕ) → length t ≡ 3 → ((get_or t 0 0 - 48) * 10 + (get_or t 1 0 - 48)) * 10 + (get_or t 2 0 - 48) ≡ value_from 0 t
unfolding value_from
value-three [] h = absurd (omega arith)
value-three (a ∷ []) h = absurd (omega arith)
value-three (a ∷ b ∷ []) h = absurd (omega arith)
value-three (a ∷ b ∷ d ∷ []) h = omega arith
value-three (a ∷ b ∷ d ∷ e ∷ t) h = absurd (omega arith)

-- what the test says
pub record IsNumeral (t : List ℕ) : Type 0 where
  pub some : 0 < length t
  pub short : length t ≤ 14
  pub leads : (eqb (get_or t 0 0) 48 && ltb 1 (length t)) ≡ false
  pub digits : all_within 48 57 t ≡ true

pub is-numeral : (t : List ℕ) → is_numeral t ≡ true → IsNumeral t
unfolding is_numeral
is-numeral t h =
    let a = and_both (ltb 0 (length t) && leb (length t) 14 && not (eqb (get_or t 0 0) 48 && ltb 1 (length t))) (all_within 48 57 t) h in
    let b = and_both (ltb 0 (length t) && leb (length t) 14) (not (eqb (get_or t 0 0) 48 && ltb 1 (length t))) a.0 in
    let e = and_both (ltb 0 (length t)) (leb (length t) 14) b.0 in
    record {
      some = ltb-true 0 (length t) e.0;
      short = leb-true (length t) 14 e.1;
      leads = not-true (eqb (get_or t 0 0) 48 && ltb 1 (length t)) b.1;
      digits = a.1;
    }

-- why digits are no D, and that they are one
pub count-some : (n : ℕ) → (eqb n 0 || ltb 14 n) ≡ false → (0 < n) × (n ≤ 14)
count-some n h =
    let k = or-false (eqb n 0) (ltb 14 n) h in
    let z : n ≡ 0 → ⊥ = eqb-false n 0 k.0 in
    (omega arith, ltb-false 14 n k.1)

pub none-count : (t : List ℕ) → (eqb (length t) 0 || ltb 14 (length t)) ≡ true → is_numeral t ≡ false
none-count t h = go (is_numeral t) refl
  where
    go : (b : Bool) → is_numeral t ≡ b → is_numeral t ≡ false
    go true e =
        let k = is-numeral t e in
        let z : length t ≡ 0 → ⊥ = λ q. omega (arith, k.some) in
        let f : (eqb (length t) 0 || ltb 14 (length t)) ≡ false = rw (ne_eqb (length t) 0 z, le-ltb 14 (length t) k.short) in
        let x : ◌≡◌ {A = ℕ} 0 1 = cc (h, f) in
        absurd (omega (arith, x))
    go false e = e

pub none-zero : (t : List ℕ) → (eqb (get_or t 0 0) 48 && ltb 1 (length t)) ≡ true → is_numeral t ≡ false
unfolding is_numeral
none-zero t e = rw (e, false-and)

pub numeral-of : (t : List ℕ) → 0 < length t → length t ≤ 14 → (eqb (get_or t 0 0) 48 && ltb 1 (length t)) ≡ false → all_within 48 57 t ≡ true → is_numeral t ≡ true
unfolding is_numeral
numeral-of t a b e f = rw (lt-ltb 0 (length t) a, le-leb (length t) 14 b, e, f)

last-digit : (n : ℕ) → all_within 48 57 (digit (n % 10) ∷ []) ≡ true
unfolding all_within
last-digit n = rw (le-leb 48 (48 + n % 10) (omega arith), le-leb (48 + n % 10) 57 (omega arith))

-- A number below the limit is written as a D, which gives it back.

leading-digits : (k n : ℕ) → all_within 48 57 (leading k n) ≡ true
unfolding leading all_within
leading-digits zero n = refl
leading-digits (suc k) zero = refl
leading-digits (suc k) (suc m) = all_append 48 57 (leading k (suc m / 10)) (digit (suc m % 10) ∷ []) (leading-digits k (suc m / 10)) (last-digit (suc m))

pub decimal-digits : (n : ℕ) → all_within 48 57 (decimal n) ≡ true
unfolding digits
decimal-digits n = all_append 48 57 (leading n (n / 10)) (digit (n % 10) ∷ []) (leading-digits n (n / 10)) (last-digit n)

pub decimal-short : (n : ℕ) → n < limit → length (decimal n) ≤ 14
decimal-short n h = digits-length 13 n h

pub decimal-numeral : (n : ℕ) → n < limit → is_numeral (decimal n) ≡ true
decimal-numeral n h = numeral-of (decimal n) (digits-some n) (decimal-short n h) (elim (dec_lt n 10) [ yes l ↦ one l | no l ↦ more l ]) (decimal-digits n)
  where
    one : n < 10 → (eqb (get_or (decimal n) 0 0) 48 && ltb 1 (length (decimal n))) ≡ false
    one l = rw (digits-one n l) (false-and (eqb (digit n) 48))

    more : (n < 10 → ⊥) → (eqb (get_or (decimal n) 0 0) 48 && ltb 1 (length (decimal n))) ≡ false
    more l = rw (ne_eqb (get_or (decimal n) 0 0) 48 (λ e. omega (arith, digits-nonzero n (omega arith))))

-- Digits after a number a above 0 follow those of a.
grow : (a : ℕ) (t : List ℕ) → 0 < a → all_within 48 57 t ≡ true → digits (value_from a t) ≡ digits a ++ t
unfolding value_from all_within
grow a [] p h = rw append-nil
grow a (x ∷ t) p h =
    let e : (within 48 57 x ≡ true) × (all_within 48 57 t ≡ true) = and_both (within 48 57 x) (all_within 48 57 t) h in
    let b : (48 ≤ x) × (x ≤ 57) = within-bounds 48 57 x e.0 in
    let q : (a * 10 + (x - 48)) / 10 ≡ a = omega arith in
    let r : 48 + (a * 10 + (x - 48)) % 10 ≡ x = omega arith in
    rw (grow (a * 10 + (x - 48)) t (omega arith) e.1, digits_more (a * 10 + (x - 48)) (omega arith), q, r, append_assoc)

value-bound : (a : ℕ) (t : List ℕ) → all_within 48 57 t ≡ true → value_from a t < (a + 1) * 10 ^ length t
unfolding value_from all_within
value-bound a [] h = omega arith
value-bound a (x ∷ t) h =
    let e : (within 48 57 x ≡ true) × (all_within 48 57 t ≡ true) = and_both (within 48 57 x) (all_within 48 57 t) h in
    let b : (48 ≤ x) × (x ≤ 57) = within-bounds 48 57 x e.0 in
    let l : a * 10 + (x - 48) + 1 ≤ (a + 1) * 10 = omega arith in
    rw (pow-suc 10 (length t))
    (omega (arith, value-bound (a * 10 + (x - 48)) t e.1, mul-le-mul_right (10 ^ length t) l))

-- A D is the digits of the number that it gives, which is below the limit.
several :
    (a d : ℕ) (t : List ℕ) → a + 48 ≡ d → 0 < a → a < 10 → all_within 48 57 t ≡ true → length t ≤ 13 →
    (d ∷ t ≡ decimal (value_from a t)) × (value_from a t < limit)
several a d t e p l h k =
    let b : value_from a t < 10 ^ suc (length t) =
    rw (pow-suc 10 (length t))
    (omega (arith, value-bound a t h, mul-le-mul_right {m = a + 1} {n = 10} (10 ^ length t) (omega arith))) in
    let v : 48 + a ≡ d = omega arith in (
      sym (grow a t p h ∙ rw (digits-one a l, v)),
      lt_of_lt_of_le b (pow-le-pow_right {n = 10} (lit< tt) {i = suc (length t)} {j = 14} (omega arith)),
    )

alone : (d : ℕ) → 48 ≤ d → d ≤ 57 → (d ∷ [] ≡ decimal (d - 48)) × (d - 48 < limit)
alone d a b =
    let l : d - 48 < 10 = omega arith in
    let v : 48 + (d - 48) ≡ d = omega arith in
    (sym (digits-one (d - 48) l ∙ rw v), omega arith)

pub numeral-decimal : (t : List ℕ) → is_numeral t ≡ true → (t ≡ decimal (value_from 0 t)) × (value_from 0 t < limit)
unfolding value_from all_within
numeral-decimal [] h = absurd (omega (arith, (is-numeral [] h).some))
numeral-decimal (d ∷ []) h =
    let b : (48 ≤ d) × (d ≤ 57) = within-bounds 48 57 d (and_both (within 48 57 d) true (is-numeral (d ∷ []) h).digits).0 in
    rw (zero-add (d - 48)) (alone d b.0 b.1)
numeral-decimal (d ∷ x ∷ t) h =
    let w : IsNumeral (d ∷ x ∷ t) = is-numeral (d ∷ x ∷ t) h in
    let e : (within 48 57 d ≡ true) × (all_within 48 57 (x ∷ t) ≡ true) = and_both (within 48 57 d) (all_within 48 57 (x ∷ t)) w.digits in
    let b : (48 ≤ d) × (d ≤ 57) = within-bounds 48 57 d e.0 in
    let m : 1 < length (d ∷ x ∷ t) = omega arith in
    let n : d ≡ 48 → ⊥ = λ q.
    let f : (eqb d 48 && ltb 1 (length (d ∷ x ∷ t))) ≡ true = rw (eq-eqb d 48 q, lt-ltb 1 (length (d ∷ x ∷ t)) m) in
    let z : ◌≡◌ {A = ℕ} 0 1 = cc (f, w.leads) in
    omega arith in
    rw (zero-add (d - 48)) (several (d - 48) d (x ∷ t) (omega arith) (omega arith) (omega arith) e.1 (omega arith))

-- a D begins with a digit
pub decimal-first : (n : ℕ) (r : List ℕ) → 48 ≤ get_or (decimal n ++ r) 0 0
decimal-first n r = rw (get_or-append (decimal n) r 0 0 (digits-some n)) (all-at 48 57 (decimal n) 0 (decimal-digits n) (digits-some n)).0
