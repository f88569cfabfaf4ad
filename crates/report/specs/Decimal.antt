-- Numbers as text: 01, "its numbers written as S but with as many digits as they need".
use Rattle.std.specs.Prelude.{ℕ, ◌-◌, List, ◌++◌, ltb}
use Rattle.exact.specs.Choice.{pick}
use Rattle.exact.specs.Text.{text}
pub use Rattle.exact.specs.Decimal.{digit, value_of}
unfoldable pub use Rattle.exact.specs.Decimal.{leading, digits, value_from}
use Rattle.fixed_point.specs.declared.Signed.{Signed}

-- 01, S: the digits, after a minus sign where the number is below 0
unfoldable pub signed : Signed → List ℕ
unfolding digits
signed v =
    pick (ltb v.plus v.minus) (text "-" ++ digits (v.minus - v.plus)) (digits (v.plus - v.minus))
