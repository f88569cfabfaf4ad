use native.Mathlib.Omega.{arith}
use Rattle.marks.proofs.Answers.{number_15, returned}
use Rattle.marks.proofs.back_to.Goals as goal

-- `back_to` meets its contract.

pub returns-in_default-clause-refusal : goal.returns-in_default-clause-refusal
returns-in_default-clause-refusal c =
    number_15 c.args.open_book.now.marks c.args.name c.in_default.ensures.place (omega arith) (omega arith)

pub returns-clause-refusal : goal.returns-clause-refusal
returns-clause-refusal c =
    returned c.args.open_book.now.marks c.args.name c.in-Some.ensures.place (omega arith) c.in-Some.ensures.inside
