use native.Mathlib.Omega.{arith}
use Rattle.loan_charge.proofs.Gauss.{deviations-bound}
use Rattle.loan_charge.proofs.charge.Bell.exponent_of.Goals as goal

pub scaled_product-requires : goal.scaled_product-requires
scaled_product-requires c =
    let b = c.args.self in
    let h = deviations-bound c.args.z.w b.mean b.deviation c.args.z.most b.mean_most b.deviation_least in
    (omega (arith, c.deviations_from-t.ensures), omega (arith, c.deviations_from-t.ensures))
