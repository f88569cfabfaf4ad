use native.Mathlib.Omega.{arith}
use Rattle.exponential.specs.Exponential.{lowered}
use Rattle.exponential.proofs.lower.Goals as goal

-- `exponential::lower` meets its contract: what is taken away is at most the number itself. Assumes nothing.

pub returns : goal.returns
unfolding lowered
returns c =
    omega arith
