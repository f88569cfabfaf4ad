-- The lines of an input, without a reader. Assumes nothing.
use Prim.Native.Nat.{ℕ}
use mathlib.Core.Bool.{Bool, true, false}
use mathlib.Core.List.Memᴰ
use mathlib.Core.List.{List, [], ◌∷◌, ◌++◌, append_assoc, append-nil, Memᴰ}
use mathlib.Core.Logic.{◌⊎◌, inl, inr}
use mathlib.Core.Path.{◌≡◌, refl, sym, ◌∙◌, ap, subst}
use lib.Dec.{eqb}
use borrow.Author.Tests.{eqb-true}
use Rattle.line_bytes.specs.LineBytes.{newline, unbroken}
use Rattle.line_bytes.proofs.FirstNewline.{unbroken-append}
use Rattle.driver.specs.Printed.{last_of, lines_from}
use Rattle.driver.specs.InputLines.{with_newlines, EndsOpen, InputLines}

abbrev Whole : (lines : List (List ℕ)) (input : List ℕ) → Type 0
Whole lines input = (with_newlines lines ≡ input) ⊎ EndsOpen lines input

-- a line that ended, and lines after it
one_more : (line : List ℕ) {lines : List (List ℕ)} {bytes : List ℕ} → Whole lines bytes → Whole (line ∷ lines) (line ++ (newline ∷ bytes))
unfolding with_newlines
one_more line (inl e) = inl (ap (λ (t : List ℕ). line ++ (newline ∷ t)) e)
one_more line (inr o) = inr (record {
  before = line ∷ o.before;
  byte = o.byte;
  rest = o.rest;
  lines_are = ap (λ (t : List (List ℕ)). line ∷ t) o.lines_are;
  input_is = append_assoc line (newline ∷ with_newlines o.before) (o.byte ∷ o.rest) ∙ ap (λ (t : List ℕ). line ++ (newline ∷ t)) o.input_is;
})

whole_from : (line bytes : List ℕ) → Whole (lines_from line bytes) (line ++ bytes)
unfolding lines_from last_of with_newlines
whole_from [] [] = inl refl
whole_from (b ∷ line) [] = inr (record { before = []; byte = b; rest = line; lines_are = refl; input_is = sym (append-nil (b ∷ line)) })
whole_from line (b ∷ bytes) = go (eqb b newline) refl (whole_from [] bytes) (whole_from (line ++ (b ∷ [])) bytes)
  where
    go : (t : Bool) → eqb b newline ≡ t → Whole (lines_from [] bytes) bytes → Whole (lines_from (line ++ (b ∷ [])) bytes) ((line ++ (b ∷ [])) ++ bytes) →
        Whole (lines_from line (b ∷ bytes)) (line ++ (b ∷ bytes))
    go true e h k = rw e (subst (λ (x : ℕ). Whole (line ∷ lines_from [] bytes) (line ++ (x ∷ bytes))) (sym (eqb-true b newline e)) (one_more line h))
    go false e h k = rw e (subst (Whole (lines_from (line ++ (b ∷ [])) bytes)) (append_assoc line (b ∷ []) bytes) k)

-- no line has a newline
unbroken-more : (line : List ℕ) (b : ℕ) → unbroken line ≡ true → eqb b newline ≡ false → unbroken (line ++ (b ∷ [])) ≡ true
unfolding unbroken
unbroken-more line b h e = unbroken-append line (b ∷ []) ∙ rw (h, e) refl

unended-from : (line bytes : List ℕ) → unbroken line ≡ true → (s : List ℕ) → Memᴰ s (lines_from line bytes) → unbroken s ≡ true
unfolding lines_from last_of unbroken
unended-from [] [] h s m = absurd (Memᴰ.not-nil m)
unended-from (b ∷ line) [] h s m = only m
  where
    only : Memᴰ s ((b ∷ line) ∷ []) → unbroken s ≡ true
    only (Memᴰ.head e) = ap unbroken e ∙ h
    only (Memᴰ.tail n) = absurd (Memᴰ.not-nil n)
unended-from line (b ∷ bytes) h s m =
    go (eqb b newline) refl (λ n. unended-from [] bytes refl s n) (λ k n. unended-from (line ++ (b ∷ [])) bytes k s n) m
  where
    among : (Memᴰ s (lines_from [] bytes) → unbroken s ≡ true) → Memᴰ s (line ∷ lines_from [] bytes) → unbroken s ≡ true
    among f (Memᴰ.head e) = ap unbroken e ∙ h
    among f (Memᴰ.tail n) = f n

    go : (t : Bool) → eqb b newline ≡ t → (Memᴰ s (lines_from [] bytes) → unbroken s ≡ true) →
        (unbroken (line ++ (b ∷ [])) ≡ true → Memᴰ s (lines_from (line ++ (b ∷ [])) bytes) → unbroken s ≡ true) →
        Memᴰ s (lines_from line (b ∷ bytes)) → unbroken s ≡ true
    go true e f g n = among f (rw e at n)
    go false e f g n = g (unbroken-more line b h e) (rw e at n)

pub input_lines : InputLines
unfolding unbroken
input_lines = record { unended = λ input s m. unended-from [] input refl s m; whole = λ input. whole_from [] input }
