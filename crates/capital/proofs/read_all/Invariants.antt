-- What was read so far, of which each read got at most 65,536 bytes.
use Rattle.std.proofs.Common.{◌*◌, ◌≤◌}
use Rattle.driver.specs.Reading.{reading_of, Running}
use Rattle.capital.specs.Reads.{Reached}
use Rattle.capital.proofs.read_all.Given as goal

abbrev pub invariant-loop : goal.invariant-loop
invariant-loop g l =
    Running l.run l.open_book × Reached l.sheet (reading_of l.run l.sheet l.open_book) l.run.read × (l.run.read ≤ 65536 * l.counter)
