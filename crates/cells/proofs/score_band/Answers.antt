use Rattle.book_model.specs.Cells.{band_of}
use mathlib.Core.Path.{refl, ap}
use Prim.Native.Nat.{ℕ, ◌+◌}
use native.Mathlib.Omega.{arith}
use Rattle.cells.proofs.score_band.Goals as goal

pub returns-in-Scored : goal.returns-in-Scored
unfolding band_of
returns-in-Scored c =
    rw c.in-Scored.is (ap (λ (n : ℕ). n + 1) c.band.ensures.0, omega (arith, c.band.ensures.1))

pub returns-in-Unscored : goal.returns-in-Unscored
unfolding band_of
returns-in-Unscored c =
    rw c.in-Unscored.is (refl, omega arith)
