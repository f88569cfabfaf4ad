use mathlib.Core.Path.{◌∙◌, ap}
use native.Mathlib.Omega.{arith}
use lib.ListN.{length, drop}
use Rattle.line_forms.proofs.Bytes.{run_fits, run-within, within-bounds}
use Rattle.line_forms.proofs.NameLaws.{name-found, name-missing}
use Rattle.line_fields.proofs.Numbers.{letters-written, letters-name}
use Rattle.line_fields.proofs.name_at.Goals as goal

-- `name_at` meets its contract.

pub number_of-requires : goal.number_of-requires
number_of-requires c =
    let a = c.args in
    let t = c.run-letters.result.now in
    letters-written t
    (rw c.run-letters.ensures (run-within 97 122 (drop a.at a.line.now)))
    (within-bounds 1 12 (length t) c.if-n.true).1

pub overflow_add-result : goal.overflow_add-result
overflow_add-result c =
    record { fits = omega (arith, ap length c.run-letters.ensures, run_fits 97 122 c.args.line.now c.args.at, c.well_formed) }

pub returns-then-n : goal.returns-then-n
returns-then-n c =
    let a = c.args in
    let e = c.run-letters.ensures in
    let f = name-found a.line.now a.at (rw (← e) c.if-n.true) in
    (c.number_of.ensures ∙ letters-name 0 _ ∙ rw e f.0, rw e f.1)

pub returns : goal.returns
returns c =
    let a = c.args in
    let m = name-missing a.line.now a.at (rw (← c.run-letters.ensures) c.if-n.false) in
    (c.missing.ensures.0 ∙ m.0, c.missing.ensures.1 ∙ m.1)
