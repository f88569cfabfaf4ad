-- How long a report can be. Assumes nothing.
use mathlib.Core.List.{List, ◌++◌}
use Prim.Native.Nat.{ℕ, ◌+◌, ◌^◌, ◌≤◌, ◌<◌}
use Prim.Native.String.{String}
use native.Mathlib.Omega.{arith}
use lib.ListN.{length, length-append}
use Rattle.exact.specs.Text.{text}
use Rattle.fixed_point.specs.declared.Signed.{Signed}
use Rattle.figures.specs.declared.Figures.{Figures}
use Rattle.std.specs.Prelude.{Option, Some, None}
use Rattle.figures.specs.Figures.{RatioBounds, FigureBounds}
use Rattle.report.proofs.Lines.{one-length, value-line-length}
use Rattle.book_report.specs.Report.{unsigned, value_line, ratio_line, report_text}

-- at most n bytes
record Fits (s : List ℕ) (n : ℕ) : Type 0 where
  most : length s ≤ n

together : {a b : List ℕ} {x y : ℕ} → Fits a x → Fits b y → Fits (a ++ b) (x + y)
together {a} {b} h k = record { most = omega (arith, length-append a b, h.most, k.most) }

-- a line of a number of 64 bits
value_most : (name : String) (v : Signed) → v.plus < 2 ^ 64 → v.minus < 2 ^ 64 → Fits (value_line name v) (length (text name) + 25)
value_most name v p q = record { most = value-line-length (text name) v p q }

ratio-most : (r : Option Signed) → RatioBounds r → Fits (ratio_line r) 30
unfolding ratio_line RatioBounds
ratio-most (Some v) h = value_most "ratio" v (omega (arith, h.above)) (omega (arith, h.below))
ratio-most None h = record { most = omega (arith, one-length (text "ratio") (text "none")) }

lines_most : (f : Figures) → FigureBounds f → Fits (report_text f) 307
unfolding report_text
lines_most f h =
    together
    (together
    (together
    (together
    (together (value_most "loans" (unsigned f.loans) (omega (arith, h.loans)) (omega arith))
    (value_most "total" f.total (omega (arith, h.total.above)) (omega (arith, h.total.below))))
    (value_most "supplement" f.supplement (omega (arith, h.supplement.above)) (omega (arith, h.supplement.below))))
    (value_most "home" (unsigned f.home) (omega (arith, h.home)) (omega arith)))
    (value_most "moved" (unsigned f.moved) (omega (arith, h.moved)) (omega arith)))
    (together
    (together
    (together
    (together (value_most "rest" (unsigned f.rest) (omega (arith, h.rest)) (omega arith))
    (value_most "oper" (unsigned f.oper) (omega (arith, h.oper)) (omega arith)))
    (value_most "required" (unsigned f.required) (omega (arith, h.required)) (omega arith)))
    (value_most "capital" f.capital (omega (arith, h.capital.above)) (omega (arith, h.capital.below))))
    (ratio-most f.ratio h.ratio))

pub report-most : (f : Figures) → FigureBounds f → length (report_text f) ≤ 307
report-most f h = (lines_most f h).most
