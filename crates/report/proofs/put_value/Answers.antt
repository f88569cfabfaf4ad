-- A number of 64 bits has at most 21 bytes.
use Rattle.std.proofs.Common.{arith}
use Rattle.report.proofs.Lines.{value-line-length}
use Rattle.report.proofs.put_value.Goals as goal

pub put_line-requires : goal.put_line-requires
put_line-requires c = omega (arith, value-line-length c.args.name.now c.args.value (omega arith) (omega arith))

pub returns-clause-short : goal.returns-clause-short
returns-clause-short c =
    omega (arith, value-line-length c.args.name.now c.args.value (omega arith) (omega arith), c.put_line.ensures.count)
