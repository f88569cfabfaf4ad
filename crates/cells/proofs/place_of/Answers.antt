use native.Mathlib.Omega.{arith}
use Rattle.book_model.proofs.Adjustments.{ratio-ranges}
use Rattle.cells.proofs.place_of.Goals as goal

-- `place_of` meets its contract: the adjusted value and balance fit 64 bits, and a hundred times either does.

pub overflow_mul-p : goal.overflow_mul-p
overflow_mul-p c =
    let z = ratio-ranges c.args.a c.args.l c.requires.0 c.requires.1 in
    omega (arith, z.value_most, z.over_most)

pub overflow_mul-q : goal.overflow_mul-q
overflow_mul-q c =
    let z = ratio-ranges c.args.a c.args.l c.requires.0 c.requires.1 in
    omega (arith, z.value_most, z.over_most)

pub ltv_column-requires : goal.ltv_column-requires
ltv_column-requires c =
    let z = ratio-ranges c.args.a c.args.l c.requires.0 c.requires.1 in
    (omega (arith, z.value_most, z.over_most), omega (arith, z.value_most, z.over_most))
