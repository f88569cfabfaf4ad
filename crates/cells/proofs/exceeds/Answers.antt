use mathlib.Core.Bool.{Bool, true, false}
use Prim.Native.Nat.{◌≤◌}
use native.Mathlib.Omega.{arith}
use mir.Val.{bool_byte}
use Rattle.book_model.proofs.Tests.{byte-pick}
use Rattle.cells.proofs.exceeds.Goals as goal

byte-small : (t : Bool) → bool_byte t ≤ 1
byte-small true = omega arith
byte-small false = omega arith

pub returns : goal.returns
returns c =
    rw c.from.ensures (byte-pick _, byte-small _)
