use Rattle.sheet.proofs.Loading.{built_in}
use Rattle.sheet.proofs.Rules.{passes}
use Rattle.sheet.proofs.built_in_rates.Goals as goal

-- `built_in_rates` meets its contract: the regulator's table keeps the rules.

pub rates_of-requires : goal.rates_of-requires
rates_of-requires c =
    rw c.built_in.ensures (passes _ built_in)
