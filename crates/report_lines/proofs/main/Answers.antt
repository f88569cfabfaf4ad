-- What is printed is within the buffer.
use Rattle.std.proofs.Common.{arith}
use Rattle.exact.specs.Decimal.{digits, leading}
use Rattle.report.specs.Decimal.{signed}
use Rattle.report_lines.proofs.main.Goals as goal

pub slice_bounds-write_all-end : goal.slice_bounds-write_all-end
unfolding signed digits leading
slice_bounds-write_all-end c = omega (arith, c.put_sample-n.ensures.count)

pub put_refusal-m-requires : goal.put_refusal-m-requires
unfolding digits leading
put_refusal-m-requires c = omega arith

pub slice_bounds-write_all-end-2 : goal.slice_bounds-write_all-end-2
unfolding digits leading
slice_bounds-write_all-end-2 c = omega (arith, c.put_refusal-m.ensures.count)
