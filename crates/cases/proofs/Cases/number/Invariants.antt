-- What is left to read goes on with the number so far.
use Rattle.std.proofs.Common.{length, ◌≡◌}
use Rattle.cases.specs.Numbers.{number_from, number_in, after_number}
use Rattle.cases.proofs.Cases.number.Given as goal

abbrev pub invariant-loop-b : goal.invariant-loop-b
invariant-loop-b l =
    (number_from l.value l.rest ≡ number_in l.initial.rest)
    × (after_number l.rest ≡ after_number l.initial.rest)

abbrev pub decreases-loop-b : goal.decreases-loop-b
decreases-loop-b l = length l.rest
