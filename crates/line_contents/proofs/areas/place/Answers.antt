use Prim.Native.Nat.{ℕ, suc, ◌<◌}
use native.Mathlib.Omega.{arith}
use mathlib.Core.Bool.{true, false}
use mathlib.Core.List.{List, [], ◌∷◌}
use mathlib.Core.Path.{◌≡◌, refl, sym, ◌∙◌, ap}
use lib.ListN.{get_or}
use Rattle.line_forms.specs.Bytes.{same, all_within}
use Rattle.line_forms.specs.Contents.{areas}
use Rattle.line_forms.specs.Parsing.{place_of}
use Rattle.line_forms.proofs.Bytes.{same-eq}
use Rattle.line_forms.proofs.FieldLaws.{among, spelled, place-of}
use Rattle.line_contents.proofs.areas.place.Goals as goal

-- `place` meets its contract.

names-spelled : spelled areas ≡ true
unfolding spelled among same all_within
names-spelled = refl

-- the word is the name at a place
this : (w : List ℕ) (i : ℕ) → i < 12 → same w (get_or areas i []) ≡ true → i ≡ place_of w areas
this w i l h = sym (place-of areas i names-spelled l) ∙ ap (λ (x : List ℕ). place_of x areas) (sym (same-eq w (get_or areas i []) h))

-- one choice more that the word is not
not-this : (w n : List ℕ) (ns : List (List ℕ)) (i : ℕ) → same w n ≡ false → i ≡ place_of w ns → suc i ≡ place_of w (n ∷ ns)
unfolding place_of
not-this w n ns i h e = rw (h, e)

no-choice : (w : List ℕ) → 0 ≡ place_of w []
unfolding place_of
no-choice w = refl

pub returns-then-is : goal.returns-then-is
returns-then-is c =
    this _ 0 (omega arith) (sym c.is.ensures ∙ c.if-is.true)

pub returns-then-is-2 : goal.returns-then-is-2
returns-then-is-2 c =
    this _ 1 (omega arith) (sym c.is-2.ensures ∙ c.if-is-2.true)

pub returns-then-is-3 : goal.returns-then-is-3
returns-then-is-3 c =
    this _ 2 (omega arith) (sym c.is-3.ensures ∙ c.if-is-3.true)

pub returns-then-is-4 : goal.returns-then-is-4
returns-then-is-4 c =
    this _ 3 (omega arith) (sym c.is-4.ensures ∙ c.if-is-4.true)

pub returns-then-is-5 : goal.returns-then-is-5
returns-then-is-5 c =
    this _ 4 (omega arith) (sym c.is-5.ensures ∙ c.if-is-5.true)

pub returns-then-is-6 : goal.returns-then-is-6
returns-then-is-6 c =
    this _ 5 (omega arith) (sym c.is-6.ensures ∙ c.if-is-6.true)

pub returns-then-is-7 : goal.returns-then-is-7
returns-then-is-7 c =
    this _ 6 (omega arith) (sym c.is-7.ensures ∙ c.if-is-7.true)

pub returns-then-is-8 : goal.returns-then-is-8
returns-then-is-8 c =
    this _ 7 (omega arith) (sym c.is-8.ensures ∙ c.if-is-8.true)

pub returns-then-is-9 : goal.returns-then-is-9
returns-then-is-9 c =
    this _ 8 (omega arith) (sym c.is-9.ensures ∙ c.if-is-9.true)

pub returns-then-is-10 : goal.returns-then-is-10
returns-then-is-10 c =
    this _ 9 (omega arith) (sym c.is-10.ensures ∙ c.if-is-10.true)

pub returns-then-is-11 : goal.returns-then-is-11
returns-then-is-11 c =
    this _ 10 (omega arith) (sym c.is-11.ensures ∙ c.if-is-11.true)

pub returns-then-is-12 : goal.returns-then-is-12
returns-then-is-12 c =
    this _ 11 (omega arith) (sym c.is-12.ensures ∙ c.if-is-12.true)

pub returns : goal.returns
returns c =
    not-this _ _ _ _ (sym c.is.ensures ∙ c.if-is.false)
    (not-this _ _ _ _ (sym c.is-2.ensures ∙ c.if-is-2.false)
    (not-this _ _ _ _ (sym c.is-3.ensures ∙ c.if-is-3.false)
    (not-this _ _ _ _ (sym c.is-4.ensures ∙ c.if-is-4.false)
    (not-this _ _ _ _ (sym c.is-5.ensures ∙ c.if-is-5.false)
    (not-this _ _ _ _ (sym c.is-6.ensures ∙ c.if-is-6.false)
    (not-this _ _ _ _ (sym c.is-7.ensures ∙ c.if-is-7.false)
    (not-this _ _ _ _ (sym c.is-8.ensures ∙ c.if-is-8.false)
    (not-this _ _ _ _ (sym c.is-9.ensures ∙ c.if-is-9.false)
    (not-this _ _ _ _ (sym c.is-10.ensures ∙ c.if-is-10.false)
    (not-this _ _ _ _ (sym c.is-11.ensures ∙ c.if-is-11.false)
    (not-this _ _ _ _ (sym c.is-12.ensures ∙ c.if-is-12.false)
    (no-choice _))))))))))))
