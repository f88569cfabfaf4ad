use mathlib.Core.Path.{◌≡◌, refl}
use native.Mathlib.Omega.{arith}
use Rattle.exponential.specs.Exponential.{decrease}
use Rattle.exponential.proofs.Steps.{half-square-most, parts-fit, decrease-most}
use Rattle.exponential.proofs.decrease_of.Goals as goal

-- `exponential::decrease_of` meets its contract: half the square is at most r, and its product with the third part fits. Assumes nothing.

pub overflow_sub-r : goal.overflow_sub-r
overflow_sub-r c =
    omega (arith, half-square-most c.args.r c.ranges.r.fits, c.half_square-s.ensures)

pub overflow_mul-s : goal.overflow_mul-s
overflow_mul-s c =
    rw (c.third_part-v.ensures, c.half_square-s.ensures) (omega (arith, parts-fit c.args.r c.ranges.r.fits))

pub overflow_add-r : goal.overflow_add-r
overflow_add-r c =
    rw (c.third_part-v.ensures, c.half_square-s.ensures) (omega (arith, parts-fit c.args.r c.ranges.r.fits))

pub returns : goal.returns
unfolding decrease
returns c =
    let r = c.args.r in
    let e : c.saturating_sub.result ≡ decrease r = rw (c.saturating_sub.ensures, c.third_part-v.ensures, c.half_square-s.ensures) refl in
    (e, omega (arith, e, decrease-most r c.ranges.r.fits))
