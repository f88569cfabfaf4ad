-- The numbers of refusals tell them apart.
use Rattle.std.specs.Prelude.{ℕ, ◌≤◌, ◌≡◌, ◌-◌, [], ◌∷◌, get_or}
use native.Mathlib.Omega.{arith}
use mathlib.Core.Path.{refl, sym, ◌∙◌, ap}
use Rattle.line_forms.specs.declared.refusal.Refusal.{Refusal}
use Rattle.line_forms.specs.declared.refusal.Refusal.TheVariants.{LongLine, NoForm, OutOfRange, OverCounted, LoanBeyond, LoansMissing, Misplaced, LinesFull}
use Rattle.line_forms.specs.declared.refusal.Refusal.TheVariants.{SmallBuffer, BadSheet, ValueSet, ValueLacking, MarkKept, MarksFull, NoMark, NotJoinable}
use Rattle.line_forms.specs.Refusals.{number_of, RefusalNumbers}

-- the refusal of a number
abbrev refusal_at : ℕ → Refusal
refusal_at n =
    get_or
    (LongLine ∷ NoForm ∷ OutOfRange ∷ OverCounted ∷ LoanBeyond ∷ LoansMissing ∷ Misplaced ∷ LinesFull ∷ SmallBuffer ∷ BadSheet ∷ ValueSet ∷ ValueLacking ∷ MarkKept ∷ MarksFull ∷ NoMark ∷ NotJoinable ∷ [])
    (n - 1)
    LongLine

refusal-at : (r : Refusal) → refusal_at (number_of r) ≡ r
refusal-at LongLine = refl
refusal-at NoForm = refl
refusal-at OutOfRange = refl
refusal-at OverCounted = refl
refusal-at LoanBeyond = refl
refusal-at LoansMissing = refl
refusal-at Misplaced = refl
refusal-at LinesFull = refl
refusal-at SmallBuffer = refl
refusal-at BadSheet = refl
refusal-at ValueSet = refl
refusal-at ValueLacking = refl
refusal-at MarkKept = refl
refusal-at MarksFull = refl
refusal-at NoMark = refl
refusal-at NotJoinable = refl

number-least : (r : Refusal) → 1 ≤ number_of r
number-least LongLine = omega arith
number-least NoForm = omega arith
number-least OutOfRange = omega arith
number-least OverCounted = omega arith
number-least LoanBeyond = omega arith
number-least LoansMissing = omega arith
number-least Misplaced = omega arith
number-least LinesFull = omega arith
number-least SmallBuffer = omega arith
number-least BadSheet = omega arith
number-least ValueSet = omega arith
number-least ValueLacking = omega arith
number-least MarkKept = omega arith
number-least MarksFull = omega arith
number-least NoMark = omega arith
number-least NotJoinable = omega arith

number-most : (r : Refusal) → number_of r ≤ 16
number-most LongLine = omega arith
number-most NoForm = omega arith
number-most OutOfRange = omega arith
number-most OverCounted = omega arith
number-most LoanBeyond = omega arith
number-most LoansMissing = omega arith
number-most Misplaced = omega arith
number-most LinesFull = omega arith
number-most SmallBuffer = omega arith
number-most BadSheet = omega arith
number-most ValueSet = omega arith
number-most ValueLacking = omega arith
number-most MarkKept = omega arith
number-most MarksFull = omega arith
number-most NoMark = omega arith
number-most NotJoinable = omega arith

pub refusal_numbers : RefusalNumbers
refusal_numbers = record {
  least = number-least;
  most = number-most;
  same = λ r q e. sym (refusal-at r) ∙ ap refusal_at e ∙ refusal-at q;
}

-- A refusal's number is not 0.
pub number-some : (r : Refusal) → number_of r ≡ 0 → ⊥
number-some r e = omega (arith, number-least r, e)
