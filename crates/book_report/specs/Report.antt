-- The report's ten lines (document 01, "The rest, and closing"): each number as an S, each line ended by a newline.
use Rattle.std.specs.Prelude.{ℕ, List, [], ◌∷◌, ◌++◌, Option, Some, None}
use Prim.Native.String.{String}
use Rattle.exact.specs.Text.{text}
use Rattle.fixed_point.specs.declared.Signed.{Signed}
use Rattle.figures.specs.declared.Figures.{Figures}
use Rattle.report.specs.Decimal.{signed}
use Rattle.report.specs.Line.{line}

-- a number at or above 0
abbrev pub unsigned : ℕ → Signed
unsigned n = record { plus = n; minus = 0 }

-- (NAME VALUE)
abbrev pub value_line : String → Signed → List ℕ
value_line name value = line (text name) (signed value ∷ [])

-- (ratio VALUE), or (ratio none) where nothing is required
unfoldable pub ratio_line : Option Signed → List ℕ
ratio_line (Some value) = value_line "ratio" value
ratio_line None = line (text "ratio") (text "none" ∷ [])

-- the first five lines
abbrev pub head_text : Figures → List ℕ
head_text f =
    value_line "loans" (unsigned f.loans)
    ++ value_line "total" f.total
    ++ value_line "supplement" f.supplement
    ++ value_line "home" (unsigned f.home)
    ++ value_line "moved" (unsigned f.moved)

-- the last five
abbrev pub tail_text : Figures → List ℕ
tail_text f =
    value_line "rest" (unsigned f.rest)
    ++ value_line "oper" (unsigned f.oper)
    ++ value_line "required" (unsigned f.required)
    ++ value_line "capital" f.capital
    ++ ratio_line f.ratio

unfoldable pub report_text : Figures → List ℕ
report_text f = head_text f ++ tail_text f
