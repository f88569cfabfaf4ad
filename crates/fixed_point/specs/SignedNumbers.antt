-- Need not be believed: signed numbers, as the code computes them.
use Rattle.std.specs.Prelude.{ℕ, ◌+◌, ◌-◌}
use Rattle.fixed_point.specs.declared.Signed.{Signed}

-- the number plus - minus, with one side 0
abbrev pub signed_difference : ℕ → ℕ → Signed
signed_difference plus minus = record { plus = plus - minus; minus = minus - plus }

-- two signed numbers together, side by side
abbrev pub signed_plus : Signed → Signed → Signed
signed_plus x y = record { plus = x.plus + y.plus; minus = x.minus + y.minus }
