-- Numbers and the line of a refusal as text, as document 01 has them.
use Rattle.std.specs.Prelude.{◌≡◌}
use Rattle.exact.specs.Text.{text}
use Rattle.report.specs.Decimal.{digits, signed}
use Rattle.report.specs.Line.{refusal_line}

-- a number as S, with as many digits as it needs
pub record NumberTexts : Type 0 where
  pub zero : digits 0 ≡ text "0"
  pub several : digits 1075 ≡ text "1075"
  pub negative : signed (record { plus = 7; minus = 1207 }) ≡ text "-1200"
  pub no_sign : signed (record { plus = 5; minus = 5 }) ≡ text "0"

-- `(refused N L)`
pub record RefusalText : Type 0 where
  pub refused : refusal_line 12 345 ≡ text "(refused 12 345)\n"
