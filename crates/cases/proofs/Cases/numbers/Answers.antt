-- The number read goes to its place.
use Rattle.std.proofs.Common.{rules}
use Rattle.cases.specs.Numbers.{number_in, after_numbers}
use Rattle.cases.proofs.Numbers.{filled}
use Rattle.cases.proofs.Cases.numbers.Goals as goal

pub loop-number-preserved : goal.loop-number-preserved
loop-number-preserved g c =
    (search rules, filled _ _ _ (λ k. number_in (after_numbers k c.args.self.now.rest.now)) (search rules) (search rules) c.loop-number.invariant.1, search rules)
