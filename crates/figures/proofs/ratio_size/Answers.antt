use mathlib.Core.Path.{sym, ◌∙◌, ap, ap₂}
use Prim.Native.Nat.{◌+◌, min}
use Rattle.fixed_point.specs.declared.Division.{Division}
use Rattle.figures.proofs.DivisionLaws.{size-limit, size-up, size-down}
use Rattle.figures.proofs.ratio_size.Goals as goal

-- `figures::ratio_size` meets its contract: at the limit, rounded up, rounded down. Assumes nothing.

pub returns-then-n-d-ge10000 : goal.returns-then-n-d-ge10000
returns-then-n-d-ge10000 c =
    sym (size-limit c.args.negative c.args.n c.args.d c.requires.0 c.if-n-d-ge10000.true)

pub returns-then-negative : goal.returns-then-negative
returns-then-negative c =
    let up = size-up c.args.n c.args.d c.requires.0 c.if-n-d-ge10000.false in
    let x = c.divide_scaled-x.ensures in
    rw c.if-negative.true (ap₂ ◌+◌ (ap (λ (t : Division). t.quotient) x) (c.min.ensures
    ∙ ap (λ (t : Division). min t.remainder 1) x) ∙ sym up)

pub returns : goal.returns
returns c =
    let down = size-down c.args.n c.args.d c.requires.0 c.if-n-d-ge10000.false in
    rw c.if-negative.false (ap (λ (t : Division). t.quotient) c.divide_scaled-x.ensures ∙ sym down)
