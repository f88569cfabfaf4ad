use native.Mathlib.Omega.{arith}
use Prim.Native.Nat.{◌*◌, ◌/◌, ◌^◌}
use Rattle.exponential.proofs.Laws as Exponential
use Rattle.coefficients.proofs.CoefficientLaws.{scaled-c, tenths-b}
use Rattle.loan_charge.proofs.charge.Charged.rate_units.Goals as goal

-- `charge::rate_units` meets its contract: c, b and the exponential are in their ranges. Assumes nothing.

pub rate_of-requires : goal.rate_of-requires
rate_of-requires c =
    let t = c.remaining-remaining.result in (
      omega (arith, c.rate_c.ensures, (scaled-c t.months t.in_range t.first).most),
      omega (arith, c.rate_b.ensures, (tenths-b t.months t.in_range t.first).most),
      omega (arith, c.exp_upper-e.ensures, Exponential.bounded (c.args.self.loan.months * 2 ^ 38 / 120)),
    )
