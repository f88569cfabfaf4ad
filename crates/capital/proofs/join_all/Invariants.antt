-- The books of the files before this one are joined: as many as there are arguments from the first file on. Nothing is written yet.
use Rattle.std.proofs.Common.{◌≡◌, ◌+◌, ◌-◌}
use Rattle.book_model.specs.Calls.{Sound}
use Rattle.book_model.specs.JoiningLaws.{without_marks}
use Rattle.regions.proofs.NextFile.{Enough}
use Rattle.capital.proofs.Files.{SoFar}
use Rattle.capital.proofs.join_all.Given as goal

abbrev pub invariant-loop-file : goal.invariant-loop-file
invariant-loop-file l =
    Sound (without_marks l.total) × Enough (without_marks l.total)
    × SoFar l.asked l.sheet (without_marks l.initial.total) (l.file - l.from) (without_marks l.total) (l.file - l.from + 2)
    × (l.out ≡ l.initial.out)
