-- Where the first newline stands. Assumes nothing.
use mathlib.Core.Path.{◌≡◌, refl, sym, ◌∙◌, ap}
use mathlib.Core.Bool.{Bool, true, false, not, ◌&&◌, true≢false}
use mathlib.Core.List.{List, [], ◌∷◌, ◌++◌}
use Prim.Native.Nat.{ℕ, zero, suc, ◌≤◌, ◌<◌}
use native.Mathlib.Omega.{arith}
use lib.Dec.{eqb}
use lib.ListN.{length, take, drop, get_or}
use lib.Seq.{take_all, drop-append-le}
use borrow.Author.Tests.{eqb-true}
use Rattle.memchr.specs.Find.{Nowhere, NoneBefore, Passes, is_byte}
use Rattle.line_bytes.specs.LineBytes.{newline, unbroken, index_after, index_of}

pub unbroken-append : (a b : List ℕ) → unbroken (a ++ b) ≡ (unbroken a && unbroken b)
unfolding unbroken
unbroken-append [] b = refl
unbroken-append (x ∷ a) b = go (eqb x newline) (unbroken-append a b)
  where
    go : (t : Bool) → unbroken (a ++ b) ≡ (unbroken a && unbroken b) → (not t && unbroken (a ++ b)) ≡ ((not t && unbroken a) && unbroken b)
    go true ih = refl
    go false ih = ih

pub index-unbroken : (s : List ℕ) → unbroken (take (index_of newline s) s) ≡ true
unfolding unbroken index_of
index-unbroken [] = refl
index-unbroken (x ∷ s) = go (eqb x newline) refl (index-unbroken s)
  where
    go : (t : Bool) → eqb x newline ≡ t → unbroken (take (index_of newline s) s) ≡ true → unbroken (take (index_after t (index_of newline s)) (x ∷ s)) ≡ true
    go true e ih = refl
    go false e ih = rw e ih

pub index_at : (s : List ℕ) → index_of newline s < length s → get_or s (index_of newline s) 0 ≡ newline
unfolding index_of
index_at [] h = absurd (omega arith)
index_at (x ∷ s) h = go (eqb x newline) refl h (index_at s)
  where
    go : (t : Bool) → eqb x newline ≡ t → index_after t (index_of newline s) < suc (length s) →
        (index_of newline s < length s → get_or s (index_of newline s) 0 ≡ newline) → get_or (x ∷ s) (index_after t (index_of newline s)) 0 ≡ newline
    go true e k ih = eqb-true x newline e
    go false e k ih = ih (omega arith)

-- bytes in which no newline is found are unbroken
pub none_found : (bytes : List ℕ) (end : ℕ) → end ≡ index_of newline bytes → length bytes ≤ end → unbroken bytes ≡ true
none_found bytes end found h = ap unbroken (sym (take_all end bytes h)) ∙ rw found (index-unbroken bytes)

-- no line before a place after which a newline stands
pub newline-last : (w : List ℕ) (rest : ℕ) → rest ≤ length w → unbroken (drop rest (w ++ (newline ∷ []))) ≡ true → ⊥
unfolding unbroken
newline-last w rest h e = go (unbroken (drop rest w)) (sym (unbroken-append (drop rest w) (newline ∷ []))
    ∙ ap unbroken (sym (drop-append-le rest w (newline ∷ []) h)) ∙ e)
  where
    go : (b : Bool) → (b && false) ≡ true → ⊥
    go true k = true≢false (sym k)
    go false k = true≢false (sym k)

-- The first byte that is a newline is where it stands first,
pub index-first : (s : List ℕ) (k : ℕ) → NoneBefore (Passes (is_byte newline) s) 0 (length s) k → Passes (is_byte newline) s k → index_of newline s ≡ k
unfolding index_of
index-first [] k n p = absurd (omega (arith, n.high))
index-first (x ∷ s) zero n p = rw p refl
index-first (x ∷ s) (suc k) n p =
    let first : eqb x newline ≡ false = go (eqb x newline) refl in
    rw first (ap suc (index-first s k later p))
  where
    go : (t : Bool) → eqb x newline ≡ t → t ≡ false
    go true e = absurd (n.before 0 (omega arith) (omega arith) e)
    go false e = refl

    later : NoneBefore (Passes (is_byte newline) s) 0 (length s) k
    later = record { low = omega arith; high = omega (arith, n.high); before = λ i a b. n.before (suc i) (omega arith) (omega arith) }

-- and where none is, the length.
pub index-nowhere : (s : List ℕ) → Nowhere (Passes (is_byte newline) s) 0 (length s) → index_of newline s ≡ length s
unfolding index_of
index-nowhere [] n = refl
index-nowhere (x ∷ s) n =
    let first : eqb x newline ≡ false = go (eqb x newline) refl in
    rw first (ap suc (index-nowhere s (λ i a b. n (suc i) (omega arith) (omega arith))))
  where
    go : (t : Bool) → eqb x newline ≡ t → t ≡ false
    go true e = absurd (n 0 (omega arith) (omega arith) e)
    go false e = refl
