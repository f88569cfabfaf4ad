use native.Mathlib.Omega.{arith}
use Rattle.loan_charge.proofs.Gauss.{distance-bound}
use Rattle.loan_charge.proofs.charge.Bell.deviations_from.Goals as goal

pub overflow_mul-result : goal.overflow_mul-result
overflow_mul-result c =
    omega (arith, c.distance_from.ensures, distance-bound c.args.z.w c.args.self.mean c.args.z.most c.args.self.mean_most)
