-- A table as text, by computation. Assumes nothing.
use mathlib.Core.Path.{refl}
use Rattle.exact.specs.Decimal.{leading, digits}
use Rattle.report.specs.Decimal.{signed}
use Rattle.cell_report.specs.CellReport.{bands_text}
use Rattle.cell_report.specs.Examples.{CellTexts}

pub cell-texts : CellTexts
unfolding bands_text signed digits leading
cell-texts = record { sixty = refl; last_place = refl }
