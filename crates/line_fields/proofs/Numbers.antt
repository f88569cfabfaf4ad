-- Laws of numbers in any base, and that digits and letters write such numbers.
use Prim.Native.Nat.{ℕ, ◌+◌, ◌-◌, ◌*◌, ◌^◌, ◌≤◌, ◌<◌}
use native.Mathlib.Nat.{pow-suc, pow-le-pow_right, mul-le-mul_right}
use native.Mathlib.Numerals.{add-one}
use native.Mathlib.Omega.{arith}
use mathlib.Core.Path.{◌≡◌, refl}
use mathlib.Core.Bool.{true}
use mathlib.Core.List.{List, [], ◌∷◌}
use borrow.Author.Tests.{le-leb}
use lib.ListN.{length, drop, get_or, drop_of_length-le}
use lib.Seq.{drop-cons}
use Rattle.line_forms.specs.Bytes.{all_within}
use Rattle.line_forms.specs.Names.{name_from}
use Rattle.line_forms.specs.Numerals.{value_from}
use Rattle.line_forms.proofs.Bytes.{all_first, all-at}
use Rattle.line_fields.specs.Numbers.{number_from, Written}

-- The bytes t, of which the first i write the number v, and one byte more.
module _ (base before v : ℕ) (t : List ℕ) (i : ℕ) (l : i < length t) where
  pub number_step :
      number_from base before v (drop i t) ≡ number_from base before (v * base + (get_or t i 0 - before)) (drop (i + 1) t)
  unfolding number_from
  number_step = rw (add-one, drop-cons t i 0 l)

  pub worth-most : Written base before t → (before ≤ get_or t i 0) × (get_or t i 0 - before ≤ base)
  worth-most w = let k = all-at before (before + base) t i w.worth l in (k.0, omega (arith, k.1))

  pub number_more : Written base before t → v < (base + 1) ^ i → v * base + (get_or t i 0 - before) < (base + 1) ^ (i + 1)
  number_more w h =
      rw (add-one i, pow-suc (base + 1) i)
      (omega (arith, (worth-most w).1, mul-le-mul_right {m = v + 1} {n = (base + 1) ^ i} base (omega arith)))

  pub number_fits : Written base before t → v < (base + 1) ^ i → v * base + (get_or t i 0 - before) ≤ 18446744073709551615
  number_fits w h =
      omega (arith, w.fits, number_more w h, pow-le-pow_right {n = base + 1} (omega arith) {i = i + 1} {j = length t} (omega arith))

pub number-end : (base before v : ℕ) (t : List ℕ) (i : ℕ) → length t ≤ i → number_from base before v (drop i t) ≡ v
unfolding number_from
number-end base before v t i h = rw (drop_of_length-le t h)

all-wider : (low high least most : ℕ) (t : List ℕ) → least ≤ low → high ≤ most → all_within low high t ≡ true → all_within least most t ≡ true
unfolding all_within
all-wider low high least most [] l h e = refl
all-wider low high least most (b ∷ t) l h e =
    let k = all_first low high b t e in
    rw (le-leb least b (omega (arith, k.0)), le-leb b most (omega (arith, k.1)), all-wider low high least most t l h k.2)

-- up to `most` bytes from low to high, which are worth at most the base
written :
    (base before low high most : ℕ) (t : List ℕ) → before ≤ low → high ≤ before + base → (base + 1) ^ most ≤ 18446744073709551615 →
    all_within low high t ≡ true → length t ≤ most → Written base before t
written base before low high most t l h f e n = record {
  worth = all-wider low high before (before + base) t l h e;
  fits = omega (arith, pow-le-pow_right {n = base + 1} (omega arith) n);
}

-- digits, and the value that they write
pub digits-written : (t : List ℕ) → all_within 48 57 t ≡ true → length t ≤ 14 → Written 10 48 t
digits-written t = written 10 48 48 57 14 t (omega arith) (omega arith) (omega arith)

pub digits_value : (a : ℕ) (t : List ℕ) → number_from 10 48 a t ≡ value_from a t
unfolding number_from value_from
digits_value a [] = refl
digits_value a (b ∷ t) = digits_value (a * 10 + (b - 48)) t

-- letters, and the number of the name that they make
pub letters-written : (t : List ℕ) → all_within 97 122 t ≡ true → length t ≤ 12 → Written 26 96 t
letters-written t = written 26 96 97 122 12 t (omega arith) (omega arith) (omega arith)

pub letters-name : (a : ℕ) (t : List ℕ) → number_from 26 96 a t ≡ name_from a t
unfolding number_from name_from
letters-name a [] = refl
letters-name a (b ∷ t) = letters-name (a * 26 + (b - 96)) t
