use mathlib.Core.Path.{◌≡◌, refl, ◌∙◌, ap}
use Prim.Native.Nat.{ℕ, ◌*◌}
use native.Mathlib.Omega.{arith}
use Rattle.figures.specs.Division.{divided}
use Rattle.figures.proofs.DivisionLaws.{step_gives}
use Rattle.figures.proofs.divide_scaled.Goals as goal

-- `figures::divide_scaled` meets its contract: a division, and three steps of it, each ten times finer. Assumes nothing.

pub returns : goal.returns
returns c =
    let n = c.args.n in
    let d = c.args.d in
    let scaled : n * 15 * 10 * 10 * 10 ≡ n * 15000 = omega arith in
    step_gives (n * 15 * 10 * 10) d c.division_step-hundreds.result c.division_step.result
    (step_gives (n * 15 * 10) d c.division_step-tens.result c.division_step-hundreds.result
    (step_gives (n * 15) d (divided (n * 15) d) c.division_step-tens.result refl c.requires.0 c.division_step-tens.ensures)
    c.requires.0 c.division_step-hundreds.ensures)
    c.requires.0 c.division_step.ensures
    ∙ ap (λ (x : ℕ). divided x d) scaled
