use native.Mathlib.Omega.{arith}
use Rattle.loan_charge.proofs.Money.{at-most}
use Rattle.loan_charge.proofs.Sizes.{sum-most, factor_most}
use Rattle.loan_charge.proofs.charge.Charged.base_units.Goals as goal

-- `charge::base_units` meets its contract: the curves' sum is small enough for the product by m. Assumes nothing.

pub times_rate-requires : goal.times_rate-requires
times_rate-requires c =
    let l = c.args.self.loan in
    let ok = c.args.self.chargeable in
    let most = at-most c.curves_at-sum.ensures (sum-most l ok) in
    (omega (arith, most.plus), omega (arith, most.minus), omega (arith, c.factor_of-m.ensures, factor_most l.factor ok.factor_most))
