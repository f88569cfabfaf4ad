-- The fields of a line as text.
use Rattle.std.specs.Prelude.{ℕ, List}
use Rattle.report.specs.Decimal.{digits, signed}
use Rattle.report.specs.declared.Field.{Field}
use Rattle.report.specs.declared.Field.TheVariants.{Count, Number, Word}

abbrev pub field_text : Field → List ℕ
field_text (Count n) = digits n
field_text (Number value) = signed value
field_text (Word word) = word.now
