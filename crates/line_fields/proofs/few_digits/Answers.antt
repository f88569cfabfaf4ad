use Rattle.std.proofs.Common.{sym, ◌∙◌}
use Prim.Native.Nat.{◌+◌}
use native.Mathlib.Omega.{arith}
use Rattle.line_forms.proofs.Bytes.{Part, no_part, more-part, run-part}
use Rattle.line_fields.proofs.few_digits.Goals as goal

pub returns-then-not-digit-2 : goal.returns-then-not-digit-2
returns-then-not-digit-2 c =
    let one : Part 48 57 =
    more-part (no_part 48 57 c.args.line.now c.args.at) (c.args.at + 1) (omega arith) (omega arith) (sym c.digit.ensures ∙ c.if-not-digit.false) in
    run-part one (omega arith) (sym c.digit-2.ensures ∙ c.if-not-digit-2.true)

pub returns-then-not-digit-3 : goal.returns-then-not-digit-3
returns-then-not-digit-3 c =
    let one : Part 48 57 =
    more-part (no_part 48 57 c.args.line.now c.args.at) (c.args.at + 1) (omega arith) (omega arith) (sym c.digit.ensures ∙ c.if-not-digit.false) in
    let two : Part 48 57 =
    more-part one (one.at + 2) (omega arith) (omega arith) (sym c.digit-2.ensures ∙ c.if-not-digit-2.false) in
    run-part two (omega arith) (sym c.digit-3.ensures ∙ c.if-not-digit-3.true)

pub returns-then-not-digit-4 : goal.returns-then-not-digit-4
returns-then-not-digit-4 c =
    let one : Part 48 57 =
    more-part (no_part 48 57 c.args.line.now c.args.at) (c.args.at + 1) (omega arith) (omega arith) (sym c.digit.ensures ∙ c.if-not-digit.false) in
    let two : Part 48 57 =
    more-part one (one.at + 2) (omega arith) (omega arith) (sym c.digit-2.ensures ∙ c.if-not-digit-2.false) in
    let three : Part 48 57 =
    more-part two (two.at + 3) (omega arith) (omega arith) (sym c.digit-3.ensures ∙ c.if-not-digit-3.false) in
    run-part three (omega arith) (sym c.digit-4.ensures ∙ c.if-not-digit-4.true)
