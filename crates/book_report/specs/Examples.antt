-- Two reports as text, as document 01 prints its ten lines. Which figure stands in which line, its sign and `none` are seen here: in the worked
-- report of document 01 the first five are 0.
use Rattle.std.specs.Prelude.{◌≡◌, ◌++◌, Option, Some, None}
use Rattle.exact.specs.Text.{text}
use Rattle.figures.specs.declared.Figures.{Figures}
use Rattle.fixed_point.specs.declared.Signed.{Signed}
use Rattle.book_report.specs.Report.{report_text}

-- ten figures of which no two are alike
abbrev pub ten_figures : Option Signed → Figures
ten_figures ratio = record {
  loans = 1;
  total = record { plus = 0; minus = 23 };
  supplement = record { plus = 456; minus = 0 };
  home = 78;
  moved = 90;
  rest = 123456789012345678;
  oper = 10;
  required = 11;
  capital = record { plus = 0; minus = 12 };
  ratio = ratio;
}

pub record ReportTexts : Type 0 where
  pub ten : report_text (ten_figures (Some (record { plus = 0; minus = 13 }))) ≡
      text "(loans 1)\n(total -23)\n(supplement 456)\n(home 78)\n(moved 90)\n"
      ++ text "(rest 123456789012345678)\n(oper 10)\n(required 11)\n(capital -12)\n(ratio -13)\n"
  pub none : report_text (ten_figures None) ≡
      text "(loans 1)\n(total -23)\n(supplement 456)\n(home 78)\n(moved 90)\n"
      ++ text "(rest 123456789012345678)\n(oper 10)\n(required 11)\n(capital -12)\n(ratio none)\n"
