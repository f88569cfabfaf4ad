-- Document 01's examples 2 to 4, by computation. Assumes nothing.
use mathlib.Core.Path.{refl}
use mathlib.Core.Bool.{Bool, true, false}
use lib.Dec.{lit≤}
use Rattle.exact.specs.Fraction.{quotient, negated, Equals}
use Rattle.exact.proofs.Dependence.{equals-of}
use Rattle.coefficients.specs.Coefficients.{curve_a_lem, weight_1a, weight_2a, deviation_2a}
use Rattle.coefficients.specs.Examples.{Example2, Example3, Example4}

pub example2 : Example2
unfolding curve_a_lem weight_1a
example2 = record { at192 = equals-of (lit≤ tt) (lit≤ tt) refl; at193 = equals-of (lit≤ tt) (lit≤ tt) refl }

pub example3 : Example3
unfolding curve_a_lem deviation_2a
example3 = record { at186 = equals-of (lit≤ tt) (lit≤ tt) refl; at187 = equals-of (lit≤ tt) (lit≤ tt) refl }

at_8 : (first : Bool) → Equals (curve_a_lem first 8).weight2 (negated (quotient 25 3))
unfolding curve_a_lem weight_2a
at_8 true = equals-of (lit≤ tt) (lit≤ tt) refl
at_8 false = equals-of (lit≤ tt) (lit≤ tt) refl

at_9 : (first : Bool) → Equals (curve_a_lem first 9).weight2 (quotient 5 4)
unfolding curve_a_lem weight_2a
at_9 true = equals-of (lit≤ tt) (lit≤ tt) refl
at_9 false = equals-of (lit≤ tt) (lit≤ tt) refl

pub example4 : Example4
example4 = record { at8 = at_8; at9 = at_9 }
