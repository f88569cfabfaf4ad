use Prim.Native.Nat.{◌/◌, ◌%◌}
use mathlib.Core.Path.{sym}
use native.Mathlib.Nat.{div-add-mod'}
use Rattle.loan_charge.proofs.Money.{parts-sum}
use Rattle.loan_charge.specs.Computation.{scaled_sum_lem}
use Rattle.loan_charge.proofs.charge.Balance.scaled_sum.Goals as goal

-- `charge::scaled_sum` meets its contract: each product of a part is bounded, and together they are the quotient. Assumes nothing.

pub returns : goal.returns
unfolding scaled_sum_lem
returns c =
    parts-sum c.args.self.cents (c.args.x / 1073741824) (c.args.x % 1073741824) (c.args.y / 1073741824) (c.args.y % 1073741824) c.args.x c.args.y
    (sym (div-add-mod' c.args.x 1073741824)) (sym (div-add-mod' c.args.y 1073741824))
