use Rattle.std.proofs.Common.{sym, ◌∙◌}
use native.Mathlib.Omega.{arith}
use Rattle.line_forms.proofs.Bytes.{Part, tested-part, run-part}
use Rattle.line_fields.proofs.six_digits.Goals as goal

pub returns-then-not-digit : goal.returns-then-not-digit
returns-then-not-digit c =
    let six : Part 48 57 =
    tested-part 48 57 c.args.line.now c.args.at 6 (sym c.all_digits.ensures ∙ c.if-not-all_digits.false) in
    run-part six (omega arith) (sym c.digit.ensures ∙ c.if-not-digit.true)
