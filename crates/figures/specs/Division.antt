-- Need not be believed: division with its remainder, as the code computes it.
use Rattle.std.specs.Prelude.{ℕ, ◌/◌, ◌%◌}
use Rattle.fixed_point.specs.declared.Division.{Division}

-- x divided by d
abbrev pub divided : ℕ → ℕ → Division
divided x d = record { quotient = x / d; remainder = x % d }
