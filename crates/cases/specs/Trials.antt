-- How the answer to a case is judged.
use Rattle.std.specs.Prelude.{ℕ, List, ◌+◌, ◌^◌, Bool, ◌&&◌, ltb, leb, max}
use Rattle.fixed_point.specs.declared.Signed.{Signed}
use Rattle.cases.specs.declared.Range.{Range}
use Rattle.cases.specs.Numbers.{number_in, after_numbers}

-- Whether x is at most y; false where a part of one reaches 2 ^ 62.
abbrev pub is_at_most : Signed → Signed → Bool
is_at_most x y = ltb (max (max (max x.plus x.minus) y.plus) y.minus) (2 ^ 62) && leb (x.plus + y.minus) (y.plus + x.minus)

-- Four numbers: what is above 0 and what is below, of the least and of the greatest number allowed.
abbrev pub range_in : List ℕ → Range
range_in s =
    record {
      least = record { plus = number_in s; minus = number_in (after_numbers 1 s) };
      greatest = record { plus = number_in (after_numbers 2 s); minus = number_in (after_numbers 3 s) };
    }
