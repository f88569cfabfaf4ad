-- The numbers of a text, each ended by a byte that is no digit.
use Rattle.std.specs.Prelude.{ℕ, ◌+◌, ◌-◌, ◌*◌, ◌^◌, zero, suc, min, List, [], ◌∷◌, if◌then◌else◌}
use Rattle.std.specs.Char.{is_ascii_digit}

-- Another digit; past the largest 64-bit number it stays at that.
abbrev pub with_digit : ℕ → ℕ → ℕ
with_digit value b = min (min (value * 10) (2 ^ 64 - 1) + (b - 48)) (2 ^ 64 - 1)

abbrev pub number_from : ℕ → List ℕ → ℕ
number_from value [] = value
number_from value (b ∷ s) = if is_ascii_digit b then number_from (with_digit value b) s else value

-- The number at the head of a text; 0 where there is none.
abbrev pub number_in : List ℕ → ℕ
number_in s = number_from 0 s

-- What follows it.
abbrev pub after_number : List ℕ → List ℕ
after_number [] = []
after_number (b ∷ s) = if is_ascii_digit b then after_number s else s

-- What follows so many numbers.
abbrev pub after_numbers : ℕ → List ℕ → List ℕ
after_numbers zero s = s
after_numbers (suc n) s = after_number (after_numbers n s)
