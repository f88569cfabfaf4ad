-- So many numbers are read as places are filled.
use Rattle.std.proofs.Common.{ℕ, ◌≡◌, ◌<◌, length, slice_index}
use Rattle.cases.specs.Numbers.{number_in, after_numbers}
use Rattle.cases.proofs.Cases.numbers.Given as goal

abbrev pub invariant-loop-number : goal.invariant-loop-number
invariant-loop-number g l =
    (l.self.rest.now ≡ after_numbers l.number-index l.initial.self.rest.now)
    × ((k : ℕ) → k < l.number-index → slice_index l.number-items k ≡ number_in (after_numbers k l.initial.self.rest.now))
    × (length l.number-items ≡ g.row.N)
