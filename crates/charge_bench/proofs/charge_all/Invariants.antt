-- The number by which the loans differ stays below 2^31 - 1.
use Rattle.std.proofs.Common.{◌<◌}
use Rattle.charge_bench.proofs.charge_all.Given as goal

abbrev pub invariant-loop : goal.invariant-loop
invariant-loop l = l.x < 2147483647
