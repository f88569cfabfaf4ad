-- Five lines of a report.
use Rattle.std.specs.Prelude.{ℕ, List, [], ◌∷◌, ◌++◌}
use Rattle.fixed_point.specs.declared.Signed.{Signed}
use Rattle.exact.specs.Text.{text}
use Rattle.report.specs.Decimal.{signed}
use Rattle.report.specs.Line.{line}

abbrev pub sample : Signed → Signed → List ℕ
sample a b =
    line (text "total") (signed a ∷ [])
    ++ line (text "supplement") (signed (record { plus = a.minus; minus = a.plus }) ∷ [])
    ++ line (text "capital") (signed b ∷ [])
    ++ line (text "required") (signed a ∷ [])
    ++ line (text "ratio") (text "none" ∷ [])
