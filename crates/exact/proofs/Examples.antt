-- Document 01's first example, by computation. Assumes nothing.
use mathlib.Core.Path.{refl}
use lib.Dec.{lit≤}
use Rattle.exact.specs.Exponential.{factorial, power, partial_sum}
use Rattle.exact.proofs.Dependence.{equals-of}
use Rattle.exact.specs.Examples.{Example1}

pub example1 : Example1
unfolding factorial power partial_sum
example1 = record { low = equals-of (lit≤ tt) (lit≤ tt) refl; high = equals-of (lit≤ tt) (lit≤ tt) refl }
