use native.Mathlib.Omega.{arith}
use Rattle.report.proofs.Decimal.{signed-length}
use Rattle.report.proofs.Onto.{added}
use Rattle.report.proofs.add_value.Goals as goal

pub put_field-requires : goal.put_field-requires
put_field-requires c =
    omega (arith, (signed-length 19 c.args.value (omega arith) (omega arith)))

pub overflow_add-result : goal.overflow_add-result
overflow_add-result c =
    omega (arith, (signed-length 19 c.args.value (omega arith) (omega arith)), c.put_field.ensures.count)

pub returns : goal.returns
returns c =
    record {
      value = added c.put_field.ensures;
      short = omega (arith, (signed-length 19 c.args.value (omega arith) (omega arith)), c.put_field.ensures.count);
    }
