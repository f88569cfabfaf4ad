use mathlib.Core.Path.{refl}
use native.Mathlib.Omega.{arith}
use Rattle.exponential.specs.Exponential.{third_part_lem}
use Rattle.exponential.proofs.Steps.{half-square-most}
use Rattle.exponential.proofs.third_part.Goals as goal

-- `exponential::third_part` meets its contract: half the square is at most r. Assumes nothing.

pub overflow_sub-result : goal.overflow_sub-result
overflow_sub-result c =
    omega (arith, half-square-most c.args.r c.ranges.r.fits, c.requires)

pub returns : goal.returns
unfolding third_part_lem
returns c =
    rw c.requires refl
