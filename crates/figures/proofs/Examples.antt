-- Document 01's examples 10, 11 and 12, by computation. Assumes nothing.
use mathlib.Core.Path.{refl}
use Rattle.figures.specs.Figures.{required_of, admitted, capital_of, ratio_size_lem, ratio_of, figures_of}
use Rattle.figures.specs.Examples.{Examples}

pub examples : Examples
unfolding required_of admitted capital_of ratio_size_lem ratio_of figures_of
examples = record { b_10 = refl; c_10 = refl; b_11 = refl; c_11 = refl; figures_12 = refl }
