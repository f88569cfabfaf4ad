-- Tables place by place: filled by a function, and compared. Assumes nothing.
use mathlib.Core.Path.{◌≡◌, refl, sym, ◌∙◌, ap}
use mathlib.Core.Bool.{true}
use mathlib.Core.List.{List, [], ◌∷◌, ◌++◌}
use mathlib.Core.Logic.{◌↔◌}
use Prim.Native.Nat.{ℕ, zero, suc, ◌≤◌, ◌<◌}
use native.Mathlib.Decide.{dec_le}
use native.Mathlib.Omega.{arith}
use lib.Dec.{eqb}
use lib.ListN.{length, get_or, set, replicate, length-append, get_or-append}
use lib.Seq.{ext_get_or, get_or_at, set_at, append_snoc}
use borrow.Author.Tests.{eqb-true, eq-eqb}
use Rattle.line_forms.proofs.Bytes.{and_both}
use Rattle.book_model.specs.Joining.{same_places, places}

pub places-length : (n : ℕ) (f : ℕ → ℕ) → length (places n f) ≡ n
unfolding places
places-length zero f = refl
places-length (suc n) f = length-append (places n f) (f n ∷ []) ∙ omega (arith, places-length n f)

pub places-at : (n : ℕ) (f : ℕ → ℕ) (i : ℕ) → i < n → get_or (places n f) i 0 ≡ f i
unfolding places
places-at zero f i h = absurd (omega (arith, h))
places-at (suc n) f i h = go (places-at n f i) (dec_le n i)
  where
    go : (i < n → get_or (places n f) i 0 ≡ f i) → Dec (n ≤ i) → get_or (places n f ++ (f n ∷ [])) i 0 ≡ f i
    go before (yes k) = let last : i ≡ n = omega (arith, h, k) in rw last (get_or_at (places n f) (f n) [] 0 n (places-length n f))
    go before (no k) = get_or-append (places n f) (f n ∷ []) 0 i (omega (arith, k, places-length n f)) ∙ before (omega (arith, k))

-- a table of n places is known by them
pub places-are : (n : ℕ) (f : ℕ → ℕ) (xs : List ℕ) → length xs ≡ n → ((i : ℕ) → i < n → f i ≡ get_or xs i 0) → places n f ≡ xs
places-are n f xs e h = ext_get_or 0 (places n f) xs (places-length n f ∙ sym e)
    (λ i k. let l : i < n = omega (arith, k, places-length n f) in places-at n f i l ∙ h i l)

-- one place more, for a loop that fills a table
pub places-next : (f : ℕ → ℕ) (i m : ℕ) → set (places i f ++ replicate (suc m) 0) i (f i) ≡ places (suc i) f ++ replicate m 0
unfolding places
places-next f i m = set_at (places i f) 0 (replicate m 0) (f i) i (places-length i f) ∙ sym (append_snoc (places i f) (f i) (replicate m 0))

-- Compared

same_at : (n : ℕ) (xs ys : List ℕ) → same_places n xs ys ≡ true → (i : ℕ) → i < n → get_or xs i 0 ≡ get_or ys i 0
unfolding same_places
same_at zero xs ys e i h = absurd (omega (arith, h))
same_at (suc n) xs ys e i h =
    let (a, b) = and_both (same_places n xs ys) (eqb (get_or xs n 0) (get_or ys n 0)) e in
    go (same_at n xs ys a i) (eqb-true (get_or xs n 0) (get_or ys n 0) b) (dec_le n i)
  where
    go : (i < n → get_or xs i 0 ≡ get_or ys i 0) → get_or xs n 0 ≡ get_or ys n 0 → Dec (n ≤ i) → get_or xs i 0 ≡ get_or ys i 0
    go before last (yes k) = let f : i ≡ n = omega (arith, h, k) in rw f last
    go before last (no k) = before (omega (arith, k))

pub same_self : (n : ℕ) (xs ys : List ℕ) → xs ≡ ys → same_places n xs ys ≡ true
unfolding same_places
same_self zero xs ys e = refl
same_self (suc n) xs ys e = rw (same_self n xs ys e) (eq-eqb (get_or xs n 0) (get_or ys n 0) (ap (λ (l : List ℕ). get_or l n 0) e))

pub same_tables : (n : ℕ) (xs ys : List ℕ) → length xs ≡ n → length ys ≡ n → (same_places n xs ys ≡ true) ↔ (xs ≡ ys)
same_tables n xs ys e f = (
  λ s. ext_get_or 0 xs ys (e ∙ sym f) (λ i h. same_at n xs ys s i (omega (arith, h, e))),
  same_self n xs ys,
)
