-- Ends: each turn takes a case, so the measure is what is left of the block.
use Rattle.std.proofs.Common.{length}
use Rattle.cases.proofs.try_block.Given as goal

abbrev pub decreases-loop-cases : goal.decreases-loop-cases
decreases-loop-cases g l = length l.cases.rest.now
