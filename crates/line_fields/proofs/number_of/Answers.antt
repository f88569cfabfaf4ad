use mathlib.Core.Path.{refl, sym, ◌∙◌}
use Prim.Native.Nat.{◌+◌, ◌<◌}
use native.Mathlib.Omega.{arith}
use native.Mathlib.Nat.{pow-zero}
use lib.ListN.{length}
use Rattle.line_fields.proofs.Numbers.{number_step, number-end, number_more, number_fits, worth-most}
use borrow.Author.Rules.{rules}
use Rattle.line_fields.proofs.number_of.Goals as goal

pub loop-i-init : goal.loop-i-init
loop-i-init c =
    (search rules, omega (arith, pow-zero (c.args.base + 1)), refl)

pub overflow_mul-value : goal.overflow_mul-value
overflow_mul-value c =
    let l = c.loop-i in
    let a = c.args in
    record { fits = omega (arith, number_fits a.base a.before l.value a.part.now l.i (omega arith) c.requires l.invariant.1) }

pub worth_at-requires : goal.worth_at-requires
worth_at-requires c =
    let l = c.loop-i in
    let a = c.args in
    (search rules, (worth-most a.base a.before l.value a.part.now l.i (omega arith) c.requires).0)

pub overflow_add-value : goal.overflow_add-value
overflow_add-value c =
    let l = c.loop-i in
    let a = c.args in
    let f = number_fits a.base a.before l.value a.part.now l.i (omega arith) c.requires l.invariant.1 in
    record { fits = omega (arith, c.worth_at.ensures.0) }

pub loop-i-preserved : goal.loop-i-preserved
loop-i-preserved c =
    let l = c.loop-i in
    let a = c.args in
    let e = c.worth_at.ensures.0 in
    let m : l.i < length a.part.now = omega arith in (
      search rules,
      rw e (number_more a.base a.before l.value a.part.now l.i m c.requires l.invariant.1),
      l.invariant.2 ∙ number_step a.base a.before l.value a.part.now l.i m ∙ rw e,
    )

pub returns : goal.returns
returns c =
    let l = c.loop-i in
    let a = c.args in
    sym (l.invariant.2 ∙ number-end a.base a.before l.value a.part.now l.i (omega arith))
