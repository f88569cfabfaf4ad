-- Need not be believed: products and quotients of fixed-point numbers, as the code computes them.
use Rattle.std.specs.Prelude.{ℕ, ◌+◌, ◌*◌, ◌/◌, ◌%◌, ◌^◌}
use Rattle.fixed_point.specs.declared.Division.{Division}

-- the product of two numbers of which one is in units of 2^-40, in the units of the other, rounded down
abbrev pub scaled_product_lem : ℕ → ℕ → ℕ
scaled_product_lem a b = a * b / 2 ^ 40

-- One step of a long division by `divisor`: quotient and remainder so far, both times f, brought back to a remainder below the divisor.
abbrev pub division_step_lem : Division → ℕ → ℕ → Division
division_step_lem so_far divisor f = record {
  quotient = so_far.quotient * f + so_far.remainder * f / divisor;
  remainder = so_far.remainder * f % divisor;
}
