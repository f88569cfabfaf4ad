use native.Mathlib.Nat.{mul-le-mul}
use Rattle.other_charges.specs.Charges.{provision_tenths_lem}
use Rattle.other_charges.proofs.ChargeLaws.{tenths-bounded}
use mathlib.Core.Path.{◌≡◌}
use Prim.Native.Nat.{ℕ, ◌≤◌}
use native.Mathlib.Omega.{arith}
use Rattle.other_charges.proofs.provision_parts.Goals as goal

tenths-small : {r : ℕ} (term done : ℕ) → r ≡ provision_tenths_lem term done → r ≤ 60
tenths-small term done e = rw e (tenths-bounded term done)

pub overflow_mul-result : goal.overflow_mul-result
overflow_mul-result c =
    omega (
      arith,
      mul-le-mul c.requires.0
          (tenths-small c.args.term c.args.done c.provision_tenths-tenths.ensures),
    )

pub overflow_mul-result-2 : goal.overflow_mul-result-2
overflow_mul-result-2 c =
    omega (
      arith,
      mul-le-mul
          (mul-le-mul c.requires.0
          (tenths-small c.args.term c.args.done c.provision_tenths-tenths.ensures)) c.requires.1,
    )
