use mathlib.Core.Path.{refl}
use Rattle.loan_charge.specs.CreditFactor.{built_in_sheet}
use Rattle.sheet.proofs.built_in.Goals as goal

-- The table of the code is the one of the definition, computed.

pub returns : goal.returns
unfolding built_in_sheet
returns c =
    refl
