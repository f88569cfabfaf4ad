-- Laws of decimal text.
use mathlib.Core.Path.{◌≡◌, refl, sym, ap}
use mathlib.Core.List.{List, [], ◌∷◌, ◌++◌, append_assoc}
use Prim.Native.Nat.{ℕ, zero, suc, ◌+◌, ◌*◌, ◌-◌, ◌/◌, ◌%◌, ◌^◌, ◌≤◌, ◌<◌}
use native.Mathlib.Nat.{pow-suc}
use native.Mathlib.Omega.{arith}
use native.Mathlib.Numerals.{add-one}
use lib.ListN.{length, get_or, length-append}
use Rattle.exact.specs.Decimal.{digit, leading, digits, value_from, value_of}

leading-zero : (k : ℕ) → leading k 0 ≡ []
unfolding leading
leading-zero zero = refl
leading-zero (suc k) = refl

-- more room than the number has digits changes nothing
enough : (j k n : ℕ) → n ≤ j → n ≤ k → leading j n ≡ leading k n
unfolding leading
enough zero zero n p q = refl
enough zero (suc k) zero p q = refl
enough zero (suc k) (suc m) p q = absurd (omega arith)
enough (suc j) k zero p q = sym (leading-zero k)
enough (suc j) zero (suc m) p q = absurd (omega arith)
enough (suc j) (suc k) (suc m) p q =
    ap (λ (t : List ℕ). t ++ (digit (suc m % 10) ∷ [])) (enough j k (suc m / 10) (omega arith) (omega arith))

pub digits-one : (n : ℕ) → n < 10 → digits n ≡ digit n ∷ []
unfolding digits
digits-one n h =
    let e : n / 10 ≡ 0 = omega arith in
    let f : n % 10 ≡ n = omega arith in
    rw (e, f, leading-zero n) refl

pub digits_more : (n : ℕ) → 10 ≤ n → digits n ≡ digits (n / 10) ++ (digit (n % 10) ∷ [])
unfolding digits
digits_more n h = ap (λ (t : List ℕ). t ++ (digit (n % 10) ∷ [])) (go n (n / 10) h refl)
  where
    go : (n m : ℕ) → 10 ≤ n → n / 10 ≡ m → leading n m ≡ leading m (m / 10) ++ (digit (m % 10) ∷ [])
    go zero m h e = absurd (omega arith)
    go (suc n) zero h e = absurd (omega arith)
    go (suc n) (suc m) h e = ap (λ (t : List ℕ). t ++ (digit (suc m % 10) ∷ [])) (enough n (suc m) (suc m / 10) (omega arith) (omega arith))

-- The digits of a number read back as the number.

value_from-append : (a : ℕ) (s t : List ℕ) → value_from a (s ++ t) ≡ value_from (value_from a s) t
unfolding value_from
value_from-append a [] t = refl
value_from-append a (d ∷ s) t = value_from-append (a * 10 + (d - 48)) s t

leading-value : (k n : ℕ) → n ≤ k → value_of (leading k n) ≡ n
unfolding leading value_from
leading-value zero n h = omega arith
leading-value (suc k) zero h = refl
leading-value (suc k) (suc m) h = rw value_from-append (omega (arith, leading-value k (suc m / 10) (omega arith)))

pub digits_value : (n : ℕ) → value_of (digits n) ≡ n
unfolding digits value_from
digits_value n = rw value_from-append (omega (arith, leading-value n (n / 10) (omega arith)))

-- The number of digits.

leading_length : (j k n : ℕ) → n < 10 ^ k → length (leading j n) ≤ k
unfolding leading
leading_length zero k n h = omega arith
leading_length (suc j) k zero h = omega arith
leading_length (suc j) zero (suc m) h = absurd (omega arith)
leading_length (suc j) (suc k) (suc m) h =
    let p : suc m < 10 ^ k * 10 = rw (← pow-suc 10 k) h in
    let q : length (leading j (suc m / 10)) ≤ k = leading_length j k (suc m / 10) (omega arith) in
    rw length-append (omega arith)

pub digits-length : (k n : ℕ) → n < 10 ^ (k + 1) → length (digits n) ≤ k + 1
unfolding digits
digits-length k n h =
    let p : n < 10 ^ k * 10 = rw (← pow-suc 10 k, ← add-one k) h in
    let q : length (leading n (n / 10)) ≤ k = leading_length n k (n / 10) (omega arith) in
    rw length-append (omega arith)

pub digits-some : (n : ℕ) → 0 < length (digits n)
unfolding digits
digits-some n = rw length-append (omega arith)

-- the first digit of a number that is not 0 is not 0
leading-nonzero : (k n : ℕ) (t : List ℕ) → n ≤ k → 0 < n → 48 < get_or (leading k n ++ t) 0 0
unfolding leading
leading-nonzero zero n t h p = absurd (omega arith)
leading-nonzero (suc k) zero t h p = absurd (omega arith)
leading-nonzero (suc k) (suc m) t h p = rw append_assoc (first (suc m / 10) refl (leading-nonzero k (suc m / 10) (digit (suc m % 10) ∷ t) (omega arith)))
  where
    first : (q : ℕ) → suc m / 10 ≡ q → (0 < suc m / 10 → 48 < get_or (leading k (suc m / 10) ++ (digit (suc m % 10) ∷ t)) 0 0) →
        48 < get_or (leading k (suc m / 10) ++ (digit (suc m % 10) ∷ t)) 0 0
    first zero e f = rw (e, leading-zero k) (omega arith)
    first (suc q) e f = f (omega arith)

pub digits-nonzero : (n : ℕ) → 0 < n → 48 < get_or (digits n) 0 0
unfolding digits
digits-nonzero n h = first (n / 10) refl
  where
    first : (q : ℕ) → n / 10 ≡ q → 48 < get_or (leading n (n / 10) ++ (digit (n % 10) ∷ [])) 0 0
    first zero e = rw (e, leading-zero n) (omega arith)
    first (suc q) e = leading-nonzero n (n / 10) (digit (n % 10) ∷ []) (omega arith) (omega arith)
