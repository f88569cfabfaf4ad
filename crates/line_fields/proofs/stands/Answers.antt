use Prim.Native.Nat.{ℕ, ◌+◌, ◌-◌}
use mathlib.Core.Path.{◌≡◌, ◌∙◌}
use native.Mathlib.Omega.{arith}
use lib.ListN.{length}
use borrow.Author.Tests.{le-leb, lt-leb}
use Rattle.line_fields.proofs.stands.Goals as goal

-- `stands` meets its contract.

cut : (at n : ℕ) → at + n - at ≡ n
cut at n = omega arith

pub returns-then-size-at : goal.returns-then-size-at
returns-then-size-at c =
    let a = c.args in
    rw (lt-leb (a.at + length a.text.now) (length a.line.now) (omega arith))

pub returns-then-size-at-2 : goal.returns-then-size-at-2
returns-then-size-at-2 c =
    let a = c.args in
    rw (lt-leb (a.at + length a.text.now) (length a.line.now) (omega arith))

pub returns : goal.returns
returns c =
    let a = c.args in
    rw (le-leb (a.at + length a.text.now) (length a.line.now) (omega arith))
    (c.same.ensures ∙ rw (cut a.at (length a.text.now)))
