-- Sums of a number over lines. Assumes nothing.
use mathlib.Core.Path.{◌≡◌, refl, ◌∙◌, ap, ap₂}
use mathlib.Core.List.{List, [], ◌∷◌, ◌++◌, Permᴰ}
use Prim.Native.Nat.{ℕ, ◌+◌}
use native.Mathlib.Omega.{arith}
use Rattle.line_forms.specs.declared.Content.{Content}
use Rattle.line_forms.specs.Claims.{line_content}
use Rattle.line_forms.specs.Readings.{line_of}
use Rattle.figures.specs.declared.Sums.{Sums}
use Rattle.figures.specs.Sums.{no_sums, plus, sum_of}
use Rattle.book_model.specs.History.{sums_by}
use Rattle.book_model.specs.LineKinds.{sum_by}
use Rattle.book_model.specs.Share.{share}
use Rattle.book_model.specs.Terms.{Basis}

pub sum_alike : (f g : Content → ℕ) → ((s : List ℕ) → f (line_content (line_of s)) ≡ g (line_content (line_of s))) → (kept : List (List ℕ)) →
    sum_by f kept ≡ sum_by g kept
unfolding sum_by
sum_alike f g e [] = refl
sum_alike f g e (s ∷ kept) = ap₂ ◌+◌ (e s) (sum_alike f g e kept)

pub sum_more : (f : Content → ℕ) (kept : List (List ℕ)) (s : List ℕ) → sum_by f (kept ++ (s ∷ [])) ≡ sum_by f kept + f (line_content (line_of s))
unfolding sum_by
sum_more f [] s = omega arith
sum_more f (r ∷ kept) s = omega (arith, sum_more f kept s)

pub sum-permuted : (f : Content → ℕ) {kept others : List (List ℕ)} → Permᴰ kept others → sum_by f kept ≡ sum_by f others
unfolding sum_by
sum-permuted f Permᴰ.nil = refl
sum-permuted f (Permᴰ.cons e p) = ap₂ (λ (s : List ℕ) (n : ℕ). f (line_content (line_of s)) + n) e (sum-permuted f p)
sum-permuted f (Permᴰ.swap {a} {b} {a'} {b'} {l} e g) =
    omega (arith, ap (λ (s : List ℕ). f (line_content (line_of s))) e, ap (λ (s : List ℕ). f (line_content (line_of s))) g)
sum-permuted f (Permᴰ.trans p q) = sum-permuted f p ∙ sum-permuted f q

-- a number of a book's sums adds up what each line brings to it
pub sums-number : (number : Sums → ℕ) → ((x y : Sums) → number (plus x y) ≡ number x + number y) → number no_sums ≡ 0 → (f : Content → ℕ) (g : Basis) →
    ((c : Content) → number (share g c) ≡ f c) → (kept : List (List ℕ)) → number (sums_by g kept) ≡ sum_by f kept
unfolding sums_by sum_of sum_by
sums-number number adds none f g each [] = none
sums-number number adds none f g each (s ∷ kept) =
    adds (share g (line_content (line_of s))) (sums_by g kept) ∙ ap₂ ◌+◌ (each (line_content (line_of s))) (sums-number number adds none f g each kept)
