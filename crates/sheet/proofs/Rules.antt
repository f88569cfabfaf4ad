-- The test of a sheet and the rules are one. Assumes nothing.
use mathlib.Core.Path.{◌≡◌, refl, sym, ◌∙◌, ap}
use mathlib.Core.Bool.{Bool, true, false, ◌&&◌, ◌||◌, false≢true}
use mathlib.Core.List.{List, [], ◌∷◌, ◌++◌, map, map-append}
use Prim.Native.Nat.{ℕ, zero, suc, ◌+◌, ◌*◌, ◌/◌, ◌%◌, ◌≤◌, ◌<◌}
use native.Mathlib.Omega.{arith}
use native.Mathlib.Nat.{not-suc-le-zero}
use borrow.Author.Tests.{eqb-true, leb-true, eqb-false, leb-false, lt-leb, le-leb, eq-eqb}
use lib.Dec.{leb, eqb}
use lib.ListN.{length, get_or, take, set}
use lib.Seq.{take-suc, take-suc-set}
use native.Mathlib.Numerals.{add-one}
use Rattle.std.specs.List.{list_all, range_with_len}
use Rattle.std.proofs.lemmas.List.Folds.{list_all-append, list_all-map}
use Rattle.std.proofs.lemmas.List.FromFn.{map-range_with_len_more}
use Rattle.loan_charge.specs.CreditFactor.{hundredths}
use Rattle.sheet.specs.Sheet.{SheetRules, place_passes_lem, places_pass, sheet_passes}

both : (a b : Bool) → (a && b) ≡ true → (a ≡ true) × (b ≡ true)
both true b e = (refl, e)
both false b e = absurd (false≢true e)

either : (a b : Bool) → (a || b) ≡ true → (a ≡ false) → b ≡ true
either true b e f = absurd (false≢true (sym f))
either false b e f = e

-- From the test to the rules

pass-at : (s : List ℕ) (n k : ℕ) → places_pass s n ≡ true → k < n → place_passes_lem s k ≡ true
unfolding places_pass
pass-at s zero k e h = absurd (not-suc-le-zero h)
pass-at s (suc n) k e h = go (eqb k n) refl (both (places_pass s n) (place_passes_lem s n) e) (λ f g. pass-at s n k f g)
  where
    go : (t : Bool) → eqb k n ≡ t → (places_pass s n ≡ true) × (place_passes_lem s n ≡ true) → (places_pass s n ≡ true → k < n → place_passes_lem s k ≡ true) →
        place_passes_lem s k ≡ true
    go true f p r = ap (place_passes_lem s) (eqb-true k n f) ∙ p.1
    go false f p r = let d : k ≡ n → ⊥ = eqb-false k n f in r p.0 (omega arith)

-- what the test says of one place
pub record PlaceKeeps (s : List ℕ) (k : ℕ) : Type 0 where
  pub least : 1 ≤ get_or s k 0
  pub most : get_or s k 0 ≤ 300
  pub band : k < 60 → get_or s (k + 6) 0 ≤ get_or s k 0
  pub age : k % 6 < 5 → get_or s k 0 ≤ get_or s (k + 1) 0

place-keeps : (s : List ℕ) (k : ℕ) → place_passes_lem s k ≡ true → PlaceKeeps s k
unfolding place_passes_lem
place-keeps s k e =
    let x = get_or s k 0 in
    let (abc, d) = both (leb 1 x && leb x 300 && (leb 60 k || leb (get_or s (k + 6) 0) x)) (leb 5 (k % 6) || leb x (get_or s (k + 1) 0)) e in
    let (ab, c) = both (leb 1 x && leb x 300) (leb 60 k || leb (get_or s (k + 6) 0) x) abc in
    let (a, b) = both (leb 1 x) (leb x 300) ab in
    record {
      least = leb-true 1 x a;
      most = leb-true x 300 b;
      band = λ h. leb-true (get_or s (k + 6) 0) x (either (leb 60 k) (leb (get_or s (k + 6) 0) x) c (lt-leb 60 k h));
      age = λ h. leb-true x (get_or s (k + 1) 0) (either (leb 5 (k % 6)) (leb x (get_or s (k + 1) 0)) d (lt-leb 5 (k % 6) h));
    }

pub rules : (s : List ℕ) → sheet_passes s ≡ true → SheetRules s
unfolding sheet_passes
rules s e =
    record {
      size = eqb-true (length s) 66 p.0;
      least = λ k h. (at k h).least;
      most = λ k h. (at k h).most;
      bands = λ band age b a.
          let n : band * 6 + age + 6 ≡ (band + 1) * 6 + age = omega arith in
          rw (← n) ((at (band * 6 + age) (omega arith)).band (omega arith));
      ages = λ band age b a.
          let n : band * 6 + age + 1 ≡ band * 6 + (age + 1) = omega arith in
          rw (← n) ((at (band * 6 + age) (omega arith)).age (omega arith));
    }
  where
    p : (eqb (length s) 66 ≡ true) × (places_pass s 66 ≡ true)
    p = both (eqb (length s) 66) (places_pass s 66) e

    at : (k : ℕ) → k < 66 → PlaceKeeps s k
    at k h = place-keeps s k (pass-at s 66 k p.1 h)

-- From the rules to the test

-- a test that need not be made, or passes
unless : (a b : Bool) → (a ≡ false → b ≡ true) → (a || b) ≡ true
unless true b f = refl
unless false b f = f refl

place-passes : (s : List ℕ) → SheetRules s → (k : ℕ) → k < 66 → place_passes_lem s k ≡ true
unfolding place_passes_lem
place-passes s r k h =
    let q : k / 6 * 6 + k % 6 ≡ k = omega arith in
    let m : k % 6 < 6 = omega arith in
    let band : leb 60 k ≡ false → leb (get_or s (k + 6) 0) (get_or s k 0) ≡ true = λ e.
    let n : (k / 6 + 1) * 6 + k % 6 ≡ k + 6 = omega arith in
    le-leb (get_or s (k + 6) 0) (get_or s k 0) (rw (n, q) at (r.bands (k / 6) (k % 6) (omega (arith, leb-false 60 k e)) m)) in
    let age : leb 5 (k % 6) ≡ false → leb (get_or s k 0) (get_or s (k + 1) 0) ≡ true = λ e.
    let n : k / 6 * 6 + (k % 6 + 1) ≡ k + 1 = omega arith in
    le-leb (get_or s k 0) (get_or s (k + 1) 0) (rw (n, q) at (r.ages (k / 6) (k % 6) (omega arith) (omega (arith, leb-false 5 (k % 6) e)))) in
    rw (le-leb 1 (get_or s k 0) (r.least k h), le-leb (get_or s k 0) 300 (r.most k h), unless (leb 60 k) _ band, unless (leb 5 (k % 6)) _ age) refl

pub passes : (s : List ℕ) → SheetRules s → sheet_passes s ≡ true
unfolding sheet_passes places_pass
passes s r = rw (eq-eqb (length s) 66 r.size) (first 66 (omega arith))
  where
    first : (n : ℕ) → n ≤ 66 → places_pass s n ≡ true
    first zero h = refl
    first (suc n) h = rw (first n (omega arith), place-passes s r n (omega arith)) refl

alone : (a : Bool) → (a && true) ≡ a
alone true = refl
alone false = refl

-- the test of the first n places is that of all numbers below n
pub places : (s : List ℕ) (n : ℕ) → list_all (place_passes_lem s) (range_with_len 0 n) ≡ places_pass s n
unfolding places_pass
places s zero = refl
places s (suc n) =
    let p = place_passes_lem s in
    sym (list_all-map (λ b. b) p (range_with_len 0 (suc n)))
    ∙ ap (list_all (λ b. b)) (rw (add-one n) at (map-range_with_len_more p 0 n n (omega arith)))
    ∙ list_all-append (λ b. b) (map p (range_with_len 0 n)) (p n ∷ [])
    ∙ rw (list_all-map (λ b. b) p (range_with_len 0 n), places s n) (ap (λ (b : Bool). places_pass s n && b) (alone (p n)))

-- one rate more
pub filled : (l s : List ℕ) (k : ℕ) → k < length l → k < length s → take k l ≡ map hundredths (take k s) →
    take (suc k) (set l k (get_or s k 0 * 1000000000000000)) ≡ map hundredths (take (suc k) s)
filled l s k h g e =
    take-suc-set l k (get_or s k 0 * 1000000000000000) h ∙ ap (λ (x : List ℕ). x ++ (get_or s k 0 * 1000000000000000 ∷ [])) e
    ∙ sym (ap (map hundredths) (take-suc s k 0 g) ∙ map-append hundredths (take k s) (get_or s k 0 ∷ []))
