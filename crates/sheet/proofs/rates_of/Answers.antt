use mathlib.Core.List.{map}
use mathlib.Core.Path.{◌≡◌, sym, ◌∙◌, ap}
use native.Mathlib.Numerals.{add-one}
use native.Mathlib.Omega.{arith}
use lib.ListN.{length, length-set}
use lib.Seq.{take_all}
use Rattle.loan_charge.specs.CreditFactor.{hundredths}
use Rattle.sheet.proofs.Rules.{rules, filled}
use Rattle.sheet.proofs.rates_of.Goals as goal

pub bounds-sheet-k : goal.bounds-sheet-k
bounds-sheet-k c =
    omega (arith, (rules c.args.sheet.now c.requires).size)

pub overflow_mul-rate : goal.overflow_mul-rate
overflow_mul-rate c =
    record { fits = omega (arith, (rules c.args.sheet.now c.requires).most c.loop-k.k (omega arith)) }

pub loop-k-preserved : goal.loop-k-preserved
loop-k-preserved c =
    let l = c.loop-k in
    let sheet = c.args.sheet.now in (
      length-set l.rate-items l.k _ ∙ l.invariant.0,
      rw (add-one l.k)
          (filled l.rate-items sheet l.k (omega (arith, l.invariant.0)) (omega (arith, (rules c.args.sheet.now c.requires).size)) l.invariant.1),
    )

pub returns : goal.returns
returns c =
    let l = c.loop-k in
    let sheet = c.args.sheet.now in
    let e : l.k ≡ 66 = omega arith in
    let n : length c.args.sheet.now ≡ 66 = (rules c.args.sheet.now c.requires).size in
    sym (take_all l.k l.rate-items (omega (arith, l.invariant.0))) ∙ l.invariant.1 ∙ ap (map hundredths) (take_all l.k sheet (omega arith))
