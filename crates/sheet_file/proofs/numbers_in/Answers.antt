use native.Mathlib.Omega.{arith}
use mathlib.Core.Path.{◌≡◌, ◌∙◌}
use Rattle.sheet_file.proofs.NumberTexts.{next_at, leads-on}
use Rattle.sheet_file.proofs.Reading.{reading-start, reading-next, reading-end, reading-past}
use Rattle.sheet_file.proofs.numbers_in.Goals as goal

pub loop-at-init : goal.loop-at-init
loop-at-init c =
    reading-start c.args.bytes.now c.clear.ensures

pub loop-at-smaller : goal.loop-at-smaller
loop-at-smaller c =
    let next : c.after_separator-at.result ≡ next_at c.args.bytes.now c.loop-at.at =
    c.after_separator-at.ensures ∙ rw c.number_at-n.ensures.1 in
    omega (arith, next, leads-on c.args.bytes.now c.loop-at.at (omega arith))

pub loop-at-preserved : goal.loop-at-preserved
loop-at-preserved c =
    let next : c.after_separator-at.result ≡ next_at c.args.bytes.now c.loop-at.at =
    c.after_separator-at.ensures ∙ rw c.number_at-n.ensures.1 in
    let p = c.put-count.ensures in
    reading-next c.loop-at.invariant (omega arith) c.number_at-n.ensures.0 next p.0 p.1

pub returns-then-at-bytes : goal.returns-then-at-bytes
returns-then-at-bytes c =
    reading-end c.loop-at.invariant c.if-at-bytes.true

pub returns : goal.returns
returns c =
    reading-past c.loop-at.invariant (omega (arith, c.if-at-bytes.false)) c.clear-2.ensures
