-- The two cases of the sign: a minus sign and the digits after it, or the digits.
use Rattle.std.proofs.Common.{arith}
use Rattle.report.proofs.Decimal.{signed-negative, signed-positive}
use Rattle.report.proofs.Onto.{written-more}
use Rattle.report.proofs.put_signed.Goals as goal

pub put_bytes-at-requires : goal.put_bytes-at-requires
put_bytes-at-requires c =
    let room = rw (signed-negative c.args.value c.if-value.true) at c.requires in omega (arith, room)

pub slice_bounds-put_number-count : goal.slice_bounds-put_number-count
slice_bounds-put_number-count c =
    let room = rw (signed-negative c.args.value c.if-value.true) at c.requires in omega (arith, room)

pub slice_bounds-put_number-start : goal.slice_bounds-put_number-start
slice_bounds-put_number-start c =
    let room = rw (signed-negative c.args.value c.if-value.true) at c.requires in omega (arith, room)

pub put_number-requires : goal.put_number-requires
put_number-requires c =
    let room = rw (signed-negative c.args.value c.if-value.true) at c.requires in omega (arith, room)

pub overflow_add-result : goal.overflow_add-result
overflow_add-result c =
    let room = rw (signed-negative c.args.value c.if-value.true) at c.requires in omega (arith, room)

pub put_number-requires-else-value : goal.put_number-requires-else-value
put_number-requires-else-value c = rw (signed-positive c.args.value c.if-value.false) at c.requires

pub returns-then-value : goal.returns-then-value
returns-then-value c =
    rw (signed-negative c.args.value c.if-value.true) (written-more c.put_bytes-at.ensures c.put_number.ensures)

pub returns-else-value : goal.returns-else-value
returns-else-value c = rw (signed-positive c.args.value c.if-value.false) c.put_number-else-value.ensures
