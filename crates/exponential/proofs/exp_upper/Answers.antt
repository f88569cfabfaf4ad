use Prim.Native.Nat.{◌/◌}
use mathlib.Core.Path.{refl}
use native.Mathlib.Omega.{arith}
use Rattle.exponential.specs.Exponential.{exp_within, exp_upper_lem}
use Rattle.exponential.proofs.Entries.{entry-bounded}
use Rattle.exponential.proofs.exp_upper.Goals as goal

-- `exponential::exp_upper` meets its contract: the exponent within 24 has an entry, and what it leaves has 32 bits. Assumes nothing.

pub lower-requires : goal.lower-requires
lower-requires c =
    let x = c.min-x.result in (
      rw c.requires (entry-bounded (x / 4294967296) (omega (arith, c.min-x.ensures))),
      omega (arith, c.decrease_of.ensures.1),
    )

pub returns : goal.returns
unfolding exp_upper_lem exp_within
returns c =
    rw (c.lower.ensures, c.decrease_of.ensures.0, c.requires, c.min-x.ensures) refl
