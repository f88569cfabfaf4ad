use mathlib.Core.Path.{sym}
use Prim.Native.Nat.{◌/◌, ◌%◌}
use native.Mathlib.Nat.{div-add-mod'}
use Rattle.fixed_point.proofs.Laws.{half-products}
use Rattle.fixed_point.proofs.small_product.Goals as goal

pub returns : goal.returns
returns c =
    half-products c.args.a (c.args.b / 1048576) (c.args.b % 1048576) c.args.b (sym (div-add-mod' c.args.b 1048576))
