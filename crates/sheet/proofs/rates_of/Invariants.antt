use mathlib.Core.List.{map}
use mathlib.Core.Path.{◌≡◌}
use lib.ListN.{length, take}
use Rattle.loan_charge.specs.CreditFactor.{hundredths}
use Rattle.sheet.proofs.rates_of.Given as goal

-- `rates_of` meets its contract: after k turns the first k rates are those of the sheet.

abbrev pub invariant-loop-k : goal.invariant-loop-k
invariant-loop-k l = (length l.rate-items ≡ 66) × (take l.k l.rate-items ≡ map hundredths (take l.k l.sheet))
