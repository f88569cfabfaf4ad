use mathlib.Core.Path.{sym, subst, ap}
use native.Mathlib.Omega.{arith}
use Rattle.book_model.specs.Calls.{State, Sound}
use Rattle.book_model.proofs.Feeding.{refused-sound}
use Rattle.line_bytes.specs.LineBytes.{unbroken}
use Rattle.driver.proofs.start.Goals as goal

-- `start` meets its contract.

pub returns-clause-running : goal.returns-clause-running
unfolding unbroken
returns-clause-running c =
    record {
      sound = subst (λ (x : State). Sound x) (sym c.reset.ensures) refused-sound;
      number = omega arith;
      unended = ap unbroken c.new.ensures;
    }
