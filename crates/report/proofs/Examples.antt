-- Numbers and the line of a refusal as text, by computation. Assumes nothing.
use mathlib.Core.Path.{refl}
use Rattle.exact.specs.Decimal.{leading, digits}
use Rattle.report.specs.Decimal.{signed}
use Rattle.report.specs.Examples.{NumberTexts, RefusalText}

pub number-texts : NumberTexts
unfolding leading digits signed
number-texts = record { zero = refl; several = refl; negative = refl; no_sign = refl }

pub refusal-text : RefusalText
unfolding leading digits
refusal-text = record { refused = refl }
