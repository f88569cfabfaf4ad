-- The two reports as text. Assumes nothing.
use mathlib.Core.Path.{refl}
use Rattle.exact.specs.Decimal.{leading, digits}
use Rattle.report.specs.Decimal.{signed}
use Rattle.book_report.specs.Report.{report_text, ratio_line}
use Rattle.book_report.specs.Examples.{ReportTexts}

pub report-texts : ReportTexts
unfolding report_text ratio_line signed digits leading
report-texts = record { ten = refl; none = refl }
