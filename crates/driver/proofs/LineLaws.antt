-- A line more: what reading it gives, that the book stays sound and that the line number grows by at most 1. Assumes nothing.
use mathlib.Core.Path.{◌≡◌, refl, sym, ◌∙◌, ap, subst}
use mathlib.Core.Bool.{Bool, true, false, true≢false, false≢true}
use mathlib.Core.List.{List}
use Prim.Native.Nat.{ℕ, ◌+◌, ◌≤◌}
use native.Mathlib.Omega.{arith}
use lib.Dec.{eqb}
use borrow.Author.Tests.{eq-eqb, ne_eqb, eqb-true, eqb-false}
use Rattle.std.specs.Prelude.{Result, Ok, Err, is_ok}
use Rattle.std.specs.Result.{is_err}
use Rattle.exact.specs.Choice.{pick}
use Rattle.line_forms.specs.declared.refusal.Refusal.{Refusal}
use Rattle.line_forms.specs.Refusals.{number_of}
use Rattle.line_forms.proofs.Refusals.{number-some}
use Rattle.book_model.specs.Calls.{State, Answer, told, opening, feeding, Sound}
use Rattle.book_model.proofs.Demand1.{demand1}
use Rattle.driver.specs.Reading.{Stage, after, with_line}

pub line_refused : (p : Stage) (line : List ℕ) → (p.refusal ≡ 0 → ⊥) → p ≡ with_line p line
unfolding with_line
line_refused p line h = rw (ne_eqb p.refusal 0 h) refl

pub line-opens : (p : Stage) (line : List ℕ) → p.refusal ≡ 0 → p.number ≡ 1 → after (opening p.sheet line) p.number p.sheet ≡ with_line p line
unfolding with_line
line-opens p line e f = rw (eq-eqb p.refusal 0 e, eq-eqb p.number 1 f) refl

pub line-fed : (p : Stage) (line : List ℕ) → p.refusal ≡ 0 → (p.number ≡ 1 → ⊥) → after (feeding p.state line) p.number p.sheet ≡ with_line p line
unfolding with_line
line-fed p line e f = rw (eq-eqb p.refusal 0 e, ne_eqb p.number 1 f) refl

-- what holds of the stage after a line, from what holds in each of these cases
by_cases : (P : Stage → Type 0) (p : Stage) (line : List ℕ) → P p → P (after (opening p.sheet line) p.number p.sheet) →
    P (after (feeding p.state line) p.number p.sheet) → P (with_line p line)
by_cases P p line stays opens feeds = go (eqb p.refusal 0) refl (eqb p.number 1) refl
  where
    go : (a : Bool) → eqb p.refusal 0 ≡ a → (b : Bool) → eqb p.number 1 ≡ b → P (with_line p line)
    go true e true f = subst P (line-opens p line (eqb-true p.refusal 0 e) (eqb-true p.number 1 f)) opens
    go true e false f = subst P (line-fed p line (eqb-true p.refusal 0 e) (eqb-false p.number 1 f)) feeds
    go false e b f = subst P (line_refused p line (eqb-false p.refusal 0 e)) stays

pub line-sound : (p : Stage) (line : List ℕ) → Sound p.state → Sound (with_line p line).state
line-sound p line h =
    by_cases (λ (q : Stage). Sound q.state) p line h (demand1.opening_sound p.sheet line) (demand1.feeding_sound p.state line h)

-- the number after an answer
next-number : (a : Answer) (number : ℕ) (sheet : List ℕ) → (after a number sheet).number ≤ number + 1
next-number a number sheet = go (eqb a.refusal 0)
  where
    go : (t : Bool) → pick t (number + 1) number ≤ number + 1
    go true = omega arith
    go false = omega arith

pub line-number : (p : Stage) (line : List ℕ) → (with_line p line).number ≤ p.number + 1
line-number p line =
    by_cases (λ (q : Stage). q.number ≤ p.number + 1) p line (omega arith) (next-number (opening p.sheet line) p.number p.sheet)
    (next-number (feeding p.state line) p.number p.sheet)

-- what an answer's number tells
pub told-err : (r : Result Unit Refusal) → is_err r ≡ true → told r ≡ 0 → ⊥
told-err (Ok x) e z = absurd (false≢true e)
told-err (Err q) e z = number-some q z

pub told-ok : (r : Result Unit Refusal) → is_err r ≡ false → told r ≡ 0
told-ok (Ok x) e = refl
told-ok (Err q) e = absurd (true≢false e)

-- the number after an answer
pub number-after : (r : Result Unit Refusal) (n : ℕ) → pick (is_ok r) (n + 1) n ≡ pick (eqb (told r) 0) (n + 1) n
number-after (Ok x) n = refl
number-after (Err q) n = rw (ne_eqb (number_of q) 0 (number-some q)) refl

-- What end_line ensures: q is the stage it gives.
abbrev pub Ended : Stage → List ℕ → Stage → Type 0
Ended p line q = (q ≡ with_line p line) × (Sound q.state × (q.number ≤ p.number + 1))

pub ended_by : (p : Stage) (line : List ℕ) (q : Stage) → Sound p.state → q ≡ with_line p line → Ended p line q
ended_by p line q h e = (
  e,
  (
    subst (λ (x : Stage). Sound x.state) (sym e) (line-sound p line h),
    subst (λ (x : Stage). x.number ≤ p.number + 1) (sym e) (line-number p line),
  ),
)

module _ (p : Stage) (line : List ℕ) (sound : Sound p.state) where
  pub ended-refused : (p.refusal ≡ 0 → ⊥) → Ended p line p
  ended-refused h = ended_by p line p sound (line_refused p line h)

  -- The answer to the line, as the first or as one that is fed, and the number after it.
  pub ended-answered : p.refusal ≡ 0 → {n number : ℕ} {s : State} →
      record { refusal = n; state = s } ≡ pick (eqb p.number 1) (opening p.sheet line) (feeding p.state line) →
      number ≡ pick (eqb n 0) (p.number + 1) p.number → Ended p line (record { refusal = n; number = number; sheet = p.sheet; state = s })
  unfolding with_line
  ended-answered e {n} {number} {s} f g =
      ended_by p line (record { refusal = n; number = number; sheet = p.sheet; state = s }) sound
      ((λ i. record { refusal = n; number = g i; sheet = p.sheet; state = s })
      ∙ ap (λ (a : Answer). after a p.number p.sheet) f ∙ rw (eq-eqb p.refusal 0 e) refl)
