use mathlib.Core.Path.{sym, ◌∙◌}
use native.Mathlib.Omega.{arith}
use Rattle.marks.proofs.Answers.{number_13, number_14, marked, inside, beyond}
use Rattle.marks.proofs.set_mark.Goals as goal

-- `set_mark` meets its contract.

pub returns-then-is_some-clause-refusal : goal.returns-then-is_some-clause-refusal
returns-then-is_some-clause-refusal c =
    let found = c.find.ensures in
    number_13 c.args.open_book.now.marks c.args.name found.place (omega arith) (inside c.find.result (sym c.is_some.ensures ∙ c.if-is_some.true) found.inside)

pub returns-in_default-clause-refusal : goal.returns-in_default-clause-refusal
returns-in_default-clause-refusal c =
    let found = c.find.ensures in
    let none = beyond c.find.result (sym c.is_some.ensures ∙ c.if-is_some.false) in
    number_14 c.args.open_book.now.marks c.args.name found.place (omega arith) (omega (arith, none)) c.in_default.ensures.place (omega arith)

pub returns-clause-refusal : goal.returns-clause-refusal
returns-clause-refusal c =
    let found = c.find.ensures in
    let none = beyond c.find.result (sym c.is_some.ensures ∙ c.if-is_some.false) in
    marked c.args.open_book.now.marks c.args.name found.place (omega arith) (omega (arith, none)) c.in-Some.ensures.place c.in-Some.ensures.inside
