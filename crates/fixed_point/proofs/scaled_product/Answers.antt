use Prim.Native.Nat.{◌/◌, ◌%◌}
use native.Mathlib.Nat.{div-add-mod'}
use mathlib.Core.Path.{sym}
use Rattle.fixed_point.proofs.Laws.{halves}
use Rattle.fixed_point.proofs.scaled_product.Goals as goal

-- `fixed_point::scaled_product` meets its contract: the products of halves are together the quotient. Assumes nothing.

pub returns : goal.returns
returns c =
    halves (c.args.a / 1048576) (c.args.a % 1048576) (c.args.b / 1048576) (c.args.b % 1048576) c.args.a c.args.b
    (sym (div-add-mod' c.args.a 1048576)) (sym (div-add-mod' c.args.b 1048576))
