use native.Mathlib.Omega.{arith}
use Prim.Native.Nat.{◌*◌}
use borrow.Author.Tests.{lt-ltb, le-ltb}
use Rattle.loan_charge.specs.CreditFactor.{unscored_factor_lem}
use Rattle.loan_charge.proofs.credit.unscored_factor.Goals as goal

-- `loans / 20 < unscored` is the test of the definition.

pub returns-then-loans-unscored : goal.returns-then-loans-unscored
unfolding unscored_factor_lem
returns-then-loans-unscored c =
    simp (lt-ltb c.args.loans (20 * c.args.unscored) (omega arith))

pub returns-else-loans-unscored : goal.returns-else-loans-unscored
unfolding unscored_factor_lem
returns-else-loans-unscored c =
    simp (le-ltb c.args.loans (20 * c.args.unscored) (omega arith))
