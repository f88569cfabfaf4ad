-- 01, "A book, line by line": "D is 0 or decimal digits without a leading zero, at most 14 digits; S is D or a minus sign and a non-zero D."
use Rattle.std.specs.Prelude.{ℕ, ◌^◌, Bool, ◌&&◌, not, List, ◌∷◌, leb, ltb, eqb, length, get_or}
use Rattle.exact.specs.Choice.{pick}
use Rattle.exact.specs.Decimal.{digits}
unfoldable pub use Rattle.exact.specs.Decimal.{value_from}
use Rattle.line_forms.specs.Bytes.{all_within}
use Rattle.fixed_point.specs.declared.Signed.{Signed}

-- Writing. The digits are the bytes 48 to 57, the minus sign is 45.

-- n written as a D
abbrev pub decimal : ℕ → List ℕ
decimal n = digits n

-- the most digits of a D, and the numbers that it can write
abbrev pub most_digits : ℕ
most_digits = 14

abbrev pub limit : ℕ
limit = 10 ^ most_digits

-- a number written as an S
unfoldable pub signed_text : Signed → List ℕ
signed_text n = pick (eqb n.minus 0) (decimal n.plus) (45 ∷ decimal n.minus)

-- Reading.

-- 1 to `most_digits` digits, the first not 0 unless it is the only one
unfoldable pub is_numeral : List ℕ → Bool
is_numeral t =
    ltb 0 (length t) && leb (length t) most_digits && not (eqb (get_or t 0 0) 48 && ltb 1 (length t)) && all_within 48 57 t
