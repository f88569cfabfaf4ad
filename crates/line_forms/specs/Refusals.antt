-- The number of each refusal (01, "Who can be turned down", and 02).
use Rattle.std.specs.Prelude.{ℕ, ◌≤◌, ◌≡◌}
use Rattle.line_forms.specs.declared.refusal.Refusal.{Refusal}
use Rattle.line_forms.specs.declared.refusal.Refusal.TheVariants.{LongLine, NoForm, OutOfRange, OverCounted, LoanBeyond, LoansMissing, Misplaced, LinesFull}
use Rattle.line_forms.specs.declared.refusal.Refusal.TheVariants.{SmallBuffer, BadSheet, ValueSet, ValueLacking, MarkKept, MarksFull, NoMark, NotJoinable}

abbrev pub number_of : Refusal → ℕ
number_of LongLine = 1
number_of NoForm = 2
number_of OutOfRange = 3
number_of OverCounted = 4
number_of LoanBeyond = 5
number_of LoansMissing = 6
number_of Misplaced = 7
number_of LinesFull = 8
number_of SmallBuffer = 9
number_of BadSheet = 10
number_of ValueSet = 11
number_of ValueLacking = 12
number_of MarkKept = 13
number_of MarksFull = 14
number_of NoMark = 15
number_of NotJoinable = 16

-- The numbers are from 1 to 16, so 0 is no refusal's, and no two refusals have one number.
pub record RefusalNumbers : Type 0 where
  pub least : (r : Refusal) → 1 ≤ number_of r
  pub most : (r : Refusal) → number_of r ≤ 16
  pub same : (r q : Refusal) → number_of r ≡ number_of q → r ≡ q
