use mathlib.Core.Path.{subst⁻¹}
use Rattle.loan_charge.specs.declared.charge.Heights.{Heights}
use Rattle.loan_charge.proofs.Money.{AtMostOne}
use Rattle.loan_charge.proofs.Sizes.{heights-small}
use Rattle.loan_charge.proofs.charge.Curve.units.Goals as goal

-- `charge::curve_units` meets its contract. Assumes nothing.

pub weigh-requires : goal.weigh-requires
weigh-requires c =
    let small : AtMostOne c.heights_at.result =
    subst⁻¹ (λ (h : Heights). AtMostOne h) c.heights_at.ensures (heights-small c.args.y) in
    (small.first, small.second)
