-- Laws of names: each has its own number, and in a line a name that is written is read as it, and only that.
use Prim.Native.Nat.{ℕ, zero, suc, ◌+◌, ◌-◌, ◌*◌, ◌/◌, ◌%◌, ◌≤◌, ◌<◌}
use native.Mathlib.Nat.{add-zero}
use native.Mathlib.Omega.{arith}
use mathlib.Core.Path.{◌≡◌, refl, sym, ◌∙◌, ap}
use mathlib.Core.Bool.{Bool, true, false}
use mathlib.Core.List.{List, [], ◌∷◌, ◌++◌, append-nil, append_assoc}
use mathlib.Core.Logic.{◌⊎◌, inl, inr}
use borrow.Author.Tests.{le-leb}
use lib.ListN.{length, drop, length-append}
use lib.Seq.{drop-drop}
use Rattle.line_forms.specs.Bytes.{past, all_within}
use Rattle.line_forms.specs.Names.{letters_in, letters_of, NameWritable, is_name, name_from}
use Rattle.line_forms.specs.Parsing.{letters_at, name_at, after_name}
use Rattle.line_forms.specs.Claims.{NameNumbers}
use Rattle.line_forms.proofs.Bytes.{within-bounds, all_first, all_append, run-split, run-exact, run-within, run_end, rest-after}
use Rattle.line_forms.proofs.NumberLaws.{Ends}

-- how many names have up to k letters
abbrev pub names_to : ℕ → ℕ
names_to zero = 0
names_to (suc k) = names_to k * 26 + 26

-- From a number to its letters and back.

last_letter : (m : ℕ) → all_within 97 122 ((97 + m % 26) ∷ []) ≡ true
unfolding all_within
last_letter m = rw (le-leb 97 (97 + m % 26) (omega arith), le-leb (97 + m % 26) 122 (omega arith))

letters-within : (k n : ℕ) → all_within 97 122 (letters_in k n) ≡ true
unfolding letters_in all_within
letters-within zero n = refl
letters-within (suc k) zero = refl
letters-within (suc k) (suc m) = all_append 97 122 (letters_in k (m / 26)) ((97 + m % 26) ∷ []) (letters-within k (m / 26)) (last_letter m)

letters-most : (k n : ℕ) → length (letters_in k n) ≤ k
unfolding letters_in
letters-most zero n = omega arith
letters-most (suc k) zero = omega arith
letters-most (suc k) (suc m) = rw length-append (omega (arith, letters-most k (m / 26)))

letters-some : (k n : ℕ) → 1 ≤ n → 1 ≤ length (letters_in (suc k) n)
unfolding letters_in
letters-some k zero h = absurd (omega arith)
letters-some k (suc m) h = rw length-append (omega arith)

name-append : (a : ℕ) (s t : List ℕ) → name_from a (s ++ t) ≡ name_from (name_from a s) t
unfolding name_from
name-append a [] t = refl
name-append a (b ∷ s) t = name-append (a * 26 + (b - 96)) s t

letters-number : (k n : ℕ) → n ≤ names_to k → name_from 0 (letters_in k n) ≡ n
unfolding letters_in name_from
letters-number zero n h = omega arith
letters-number (suc k) zero h = refl
letters-number (suc k) (suc m) h = rw name-append (omega (arith, letters-number k (m / 26) (omega arith)))

-- From letters to their number and back.

letters-none : (k : ℕ) → letters_in k 0 ≡ []
unfolding letters_in
letters-none zero = refl
letters-none (suc k) = refl

-- the name a and one letter more
letters-more : (k a b : ℕ) → 97 ≤ b → b ≤ 122 → letters_in (suc k) (a * 26 + (b - 96)) ≡ letters_in k a ++ (b ∷ [])
unfolding letters_in
letters-more k a b l h =
    let n : a * 26 + (b - 96) ≡ suc (a * 26 + (b - 97)) = omega arith in
    let q : (a * 26 + (b - 97)) / 26 ≡ a = omega arith in
    let r : 97 + (a * 26 + (b - 97)) % 26 ≡ b = omega arith in
    rw (n, q, r)

-- letters after the name a follow those of a
name-letters : (k a : ℕ) (t : List ℕ) → all_within 97 122 t ≡ true → letters_in (k + length t) (name_from a t) ≡ letters_in k a ++ t
unfolding name_from
name-letters k a [] h = rw (add-zero k, append-nil)
name-letters k a (b ∷ t) h =
    let w = all_first 97 122 b t h in
    let e : k + suc (length t) ≡ suc k + length t = omega arith in
    rw (e, name-letters (suc k) (a * 26 + (b - 96)) t w.2, letters-more k a b w.0 w.1, append_assoc)

name-most : (k a : ℕ) (t : List ℕ) → a ≤ names_to k → all_within 97 122 t ≡ true → name_from a t ≤ names_to (k + length t)
unfolding name_from
name-most k a [] l h = rw (add-zero k) l
name-most k a (b ∷ t) l h =
    let w = all_first 97 122 b t h in
    let e : k + suc (length t) ≡ suc k + length t = omega arith in
    rw e (name-most (suc k) (a * 26 + (b - 96)) t (omega (arith, w.1)) w.2)

name_least : (a : ℕ) (t : List ℕ) → all_within 97 122 t ≡ true → a + length t ≤ name_from a t
unfolding name_from
name_least a [] h = omega arith
name_least a (b ∷ t) h = let w = all_first 97 122 b t h in omega (arith, w.0, name_least (a * 26 + (b - 96)) t w.2)

-- Names of 1 to 12 letters.

letters-name : (n : ℕ) → NameWritable n → is_name (letters_of n) ≡ true
letters-name n w = rw (le-leb 1 (length (letters_of n)) (letters-some 11 n w.0), le-leb (length (letters_of n)) 12 (letters-most 12 n))

pub letters-short : (n : ℕ) → length (letters_of n) ≤ 12
letters-short n = letters-most 12 n

number-back : (n : ℕ) → NameWritable n → name_from 0 (letters_of n) ≡ n
number-back n w = letters-number 12 n w.1

name_back : (t : List ℕ) → is_name t ≡ true → all_within 97 122 t ≡ true → (t ≡ letters_of (name_from 0 t)) × NameWritable (name_from 0 t)
name_back t e h =
    let b = within-bounds 1 12 (length t) e in
    let r : 12 - length t + length t ≡ 12 = omega arith in
    let m : name_from 0 t ≤ names_to 12 = rw r at (name-most (12 - length t) 0 t (omega arith) h) in (
      sym (rw (r, letters-none) at (name-letters (12 - length t) 0 t h)),
      (omega (arith, name_least 0 t h), m),
    )

pub name_numbers : NameNumbers
name_numbers = record {
  letters = λ n w. (letters-name n w, letters-within 12 n);
  number = λ t e h. let k = name_back t e h in (name_from 0 t, k.1, k.0);
  same = λ m n v w. (λ e. sym (number-back m v) ∙ ap (name_from 0) e ∙ number-back n w, λ e. ap letters_of e);
}

-- Names in a line.

pub name-written :
    (s : List ℕ) (at n : ℕ) (r : List ℕ) → drop at s ≡ letters_of n ++ r → NameWritable n → Ends r →
    (name_at s at ≡ n) × (after_name s at ≡ at + length (letters_of n))
unfolding name_at after_name
name-written s at n r e w q =
    let d : letters_at s at ≡ letters_of n = rw e (run-exact 97 122 (letters_of n) r (letters-within 12 n) q.letters) in
    (rw (d, letters-name n w, number-back n w), rw (d, letters-name n w))

pub record NameRead (s : List ℕ) (at : ℕ) : Type 0 where
  pub fits : after_name s at ≤ length s
  pub text : drop at s ≡ letters_of (name_at s at) ++ drop (after_name s at) s
  pub small : NameWritable (name_at s at)

pub name-read : (s : List ℕ) (at : ℕ) → at ≤ length s → NameRead s at ⊎ (after_name s at ≡ past s)
unfolding name_at after_name
name-read s at h = go (is_name (letters_at s at)) refl
  where
    go : (b : Bool) → is_name (letters_at s at) ≡ b → NameRead s at ⊎ (after_name s at ≡ past s)
    go true e =
        let k = name_back (letters_at s at) e (run-within 97 122 (drop at s)) in
        let a : drop at s ≡ letters_at s at ++ drop (at + length (letters_at s at)) s =
        rw (drop-drop (length (letters_at s at)) at s) at (run-split 97 122 (drop at s)) in
        inl (record {
          fits = rw e (rest-after s at (letters_at s at) (drop (at + length (letters_at s at)) s) h a).0;
          text = rw (e, ← k.0) a;
          small = rw e k.1;
        })
    go false e = inr (rw e)

pub name-past : (s : List ℕ) (at : ℕ) → length s < at → after_name s at ≡ past s
unfolding after_name
name-past s at h = let k : length s ≤ at = omega arith in rw (run_end 97 122 s at k)

-- What a reader of letters finds.

pub name-found :
    (s : List ℕ) (at : ℕ) → is_name (letters_at s at) ≡ true →
    (name_from 0 (letters_at s at) ≡ name_at s at) × (at + length (letters_at s at) ≡ after_name s at)
unfolding name_at after_name
name-found s at h = (rw h, rw h)

pub name-missing : (s : List ℕ) (at : ℕ) → is_name (letters_at s at) ≡ false → (0 ≡ name_at s at) × (past s ≡ after_name s at)
unfolding name_at after_name
name-missing s at h = (rw h, rw h)
