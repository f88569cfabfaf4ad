use Rattle.line_forms.specs.declared.Kind.{Kind}
use Rattle.other_charges.specs.Charges.{add_on_thousandths}
use Rattle.other_charges.proofs.ChargeLaws.{add-on-bounded}
use native.Mathlib.Nat.{mul-le-mul}
use mathlib.Core.Path.{◌≡◌}
use Prim.Native.Nat.{ℕ, ◌+◌, ◌*◌, ◌≤◌}
use native.Mathlib.Omega.{arith}
use Rattle.other_charges.proofs.derivative_parts.Goals as goal

addon-small : {r : ℕ} (kind : Kind) (months : ℕ) → r ≡ add_on_thousandths kind months → r ≤ 150
addon-small kind months e = rw e (add-on-bounded kind months)

-- notional × add-on × pays
added : (n a p : ℕ) → n ≤ 100000000000 → a ≤ 150 → p ≤ 100 → n * a * p ≤ 100000000000 * 150 * 100
added n a p h k l = mul-le-mul (mul-le-mul h k) l

pub overflow_mul-result-2 : goal.overflow_mul-result-2
overflow_mul-result-2 c =
    omega (
      arith,
      mul-le-mul c.requires.1
          (addon-small c.args.d.kind c.args.d.months c.add_on-addon.ensures),
    )

pub overflow_mul-result-3 : goal.overflow_mul-result-3
overflow_mul-result-3 c =
    omega (
      arith,
      added c.args.d.notional c.add_on-addon.result c.args.d.payments c.requires.1
          (addon-small c.args.d.kind c.args.d.months c.add_on-addon.ensures) c.requires.2,
    )

pub overflow_add-result : goal.overflow_add-result
overflow_add-result c =
    omega (
      arith,
      added c.args.d.notional c.add_on-addon.result c.args.d.payments c.requires.1
          (addon-small c.args.d.kind c.args.d.months c.add_on-addon.ensures) c.requires.2,
    )

pub overflow_mul-result-4 : goal.overflow_mul-result-4
overflow_mul-result-4 c =
    let total : c.saturating_sub-cost.result * 1000 + c.args.d.notional * c.add_on-addon.result * c.args.d.payments ≤ 1600000000000000 = omega (
      arith,
      added c.args.d.notional c.add_on-addon.result c.args.d.payments c.requires.1
          (addon-small c.args.d.kind c.args.d.months c.add_on-addon.ensures) c.requires.2,
    ) in omega (arith, mul-le-mul total c.requires.3)
