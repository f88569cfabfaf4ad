-- Need not be believed: Promise.antt says what it is worth. exp(-y) in fixed point, from the table and, between two entries, the first terms
-- of the alternating series.
use Rattle.std.specs.Prelude.{ℕ, ◌+◌, ◌*◌, ◌-◌, ◌/◌, ◌%◌, ◌^◌, min}
use Rattle.fixed_point.specs.Quotient.{scaled_product_lem}
use Rattle.exponential.specs.Table.{entry}

-- For a remainder r below one 64th, in units of 2^-38, 1 - exp(-r) is nearly r - r²/2 (1 - r/3 (1 - r/4)).

-- r²/2 in units of 2^-40, rounded down
unfoldable pub half_square_lem : ℕ → ℕ
half_square_lem r = r * r / 2 ^ 37

-- r/3 (1 - r/4) in units of 2^-32, rounded down: 8 r - half_square_lem r is 8 r (1 - r/4), and 178956970 is 2^32 / 24 rounded down
unfoldable pub third_part_lem : ℕ → ℕ
third_part_lem r = (8 * r - half_square_lem r) * 178956970 / 2 ^ 38

-- The whole in units of 2^-40, rounded down. Half the square is taken away, so that its rounding down leaves up to one unit too much:
-- one unit more is taken away.
unfoldable pub decrease : ℕ → ℕ
decrease r = 4 * r - half_square_lem r + half_square_lem r * third_part_lem r / 2 ^ 32 - 1

-- t (1 - d), rounded up
unfoldable pub lowered : ℕ → ℕ → ℕ
lowered t d = t - scaled_product_lem t d

-- exp(-x) in units of 2^-40, for x up to 24 in units of 2^-38: the entry at or below x, lowered for the remainder
unfoldable pub exp_within : ℕ → ℕ
exp_within x = lowered (entry (x / 2 ^ 32)) (decrease (x % 2 ^ 32))

-- exp(-y): at an entry's exponent the entry, from 24 on the last entry. No other crate unfolds this: its laws are those of proofs/Laws.antt.
unfoldable pub exp_upper_lem : ℕ → ℕ
exp_upper_lem y = exp_within (min y (1536 * 2 ^ 32))
