-- A number of 64 bits has at most 21 bytes.
use Rattle.std.proofs.Common.{◌≡◌, Some, None, arith}
use Rattle.exact.specs.Text.{text}
use Rattle.report.proofs.Lines.{value-line-length}
use Rattle.book_report.specs.Report.{ratio_line}
use Rattle.book_report.proofs.put_ratio.Goals as goal

pub put_line-requires : goal.put_line-requires
put_line-requires c =
    omega (arith, value-line-length (text "ratio") c.in-Some.value (omega arith) (omega arith))

pub returns-in-Some-clause-line : goal.returns-in-Some-clause-line
unfolding ratio_line
returns-in-Some-clause-line c =
    let e : c.args.ratio ≡ Some c.in-Some.value = cc in rw e c.put_line.ensures

pub returns-in-Some-clause-short : goal.returns-in-Some-clause-short
returns-in-Some-clause-short c =
    omega (arith, c.put_line.ensures.count, value-line-length (text "ratio") c.in-Some.value (omega arith) (omega arith))

pub returns-in-None-clause-line : goal.returns-in-None-clause-line
unfolding ratio_line
returns-in-None-clause-line c = let e : c.args.ratio ≡ None = cc in rw e c.put_line-in-None.ensures
