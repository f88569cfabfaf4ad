use Rattle.std.proofs.Common.{sym, ◌∙◌}
use Prim.Native.Nat.{◌+◌}
use native.Mathlib.Omega.{arith}
use Rattle.line_forms.proofs.Bytes.{Part, tested-part, more-part, run-part}
use Rattle.line_fields.proofs.many_digits.Goals as goal

pub returns-then-not-digit : goal.returns-then-not-digit
returns-then-not-digit c =
    let eight : Part 48 57 =
    tested-part 48 57 c.args.line.now c.args.at 8 (sym c.all_digits.ensures ∙ c.if-not-all_digits.false) in
    run-part eight (omega arith) (sym c.digit.ensures ∙ c.if-not-digit.true)

pub returns-then-not-digit-2 : goal.returns-then-not-digit-2
returns-then-not-digit-2 c =
    let eight : Part 48 57 =
    tested-part 48 57 c.args.line.now c.args.at 8 (sym c.all_digits.ensures ∙ c.if-not-all_digits.false) in
    let nine : Part 48 57 =
    more-part eight (eight.at + 9) (omega arith) (omega arith) (sym c.digit.ensures ∙ c.if-not-digit.false) in
    run-part nine (omega arith) (sym c.digit-2.ensures ∙ c.if-not-digit-2.true)
