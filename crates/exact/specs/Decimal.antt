-- Numbers as decimal text, as lines of the book and of the report have them: digits are the bytes 48 to 57.
use Rattle.std.specs.Prelude.{ℕ, zero, suc, ◌+◌, ◌*◌, ◌-◌, ◌/◌, ◌%◌, List, [], ◌∷◌, ◌++◌}

-- the byte of a digit
abbrev pub digit : ℕ → ℕ
digit d = 48 + d

-- the digits of n, but none for 0; at most k of them
unfoldable pub leading : ℕ → ℕ → List ℕ
leading zero n = []
leading (suc k) zero = []
leading (suc k) (suc m) = leading k (suc m / 10) ++ (digit (suc m % 10) ∷ [])

-- the decimal digits of n, without a leading zero; n bounds how many stand before the last
unfoldable pub digits : ℕ → List ℕ
unfolding leading
digits n = leading n (n / 10) ++ (digit (n % 10) ∷ [])

-- the number that digits after the number a write
unfoldable pub value_from : ℕ → List ℕ → ℕ
value_from a [] = a
value_from a (d ∷ t) = value_from (a * 10 + (d - 48)) t

-- the number that digits write
abbrev pub value_of : List ℕ → ℕ
value_of t = value_from 0 t
