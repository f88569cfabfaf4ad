-- exp(-y) as document 01, "The exponential", has it: no real number, but a bracket for each order.
use Rattle.std.specs.Prelude.{ℕ, zero, suc, ◌+◌, ◌*◌}
use Rattle.exact.specs.Fraction.{Fraction, Proper, quotient, whole, reciprocal, ◌⊕◌, ◌⊗◌, ◌≼◌}

unfoldable pub factorial : ℕ → ℕ
factorial zero = 1
factorial (suc n) = suc n * factorial n

unfoldable pub power : Fraction → ℕ → Fraction
power y zero = whole 1
power y (suc n) = power y n ⊗ y

-- y^k / k!
abbrev pub series_term : Fraction → ℕ → Fraction
series_term y k = power y k ⊗ quotient 1 (factorial k)

-- E(n): the sum of y^k / k! for k from 0 to n
unfoldable pub partial_sum : ℕ → Fraction → Fraction
partial_sum zero y = series_term y zero
partial_sum (suc n) y = partial_sum n y ⊕ series_term y (suc n)

-- E(n) + 2 y^(n+1) / (n+1)!
abbrev pub sum_with_tail : ℕ → Fraction → Fraction
sum_with_tail n y = partial_sum n y ⊕ whole 2 ⊗ series_term y (suc n)

-- The bracket of order n: from 1 / (E(n) + 2 y^(n+1) / (n+1)!) to 1 / E(n)
abbrev pub bracket_low : ℕ → Fraction → Fraction
bracket_low n y = reciprocal (sum_with_tail n y)

abbrev pub bracket_high : ℕ → Fraction → Fraction
bracket_high n y = reciprocal (partial_sum n y)

-- Order n is allowed for the exponent y: n + 2 is at least 2y
pub record Allowed (n : ℕ) (y : Fraction) : Type 0 where
  pub reaches : whole 2 ⊗ y ≼ whole (n + 2)

-- the value v lies in the bracket of order n of exp(-y)
pub record InBracket (n : ℕ) (y v : Fraction) : Type 0 where
  pub proper : Proper v
  pub low : bracket_low n y ≼ v
  pub high : v ≼ bracket_high n y
