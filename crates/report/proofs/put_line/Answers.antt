-- The line from its name, its fields and its end. Its length gives the room for each.
use Rattle.std.proofs.Common.{arith}
use lib.Seq.{take_all}
use Rattle.report.proofs.Fields.{fields_more, next_room}
use Rattle.report.proofs.Lines.{begin, field, end}
use Rattle.report.proofs.Onto.{written-more}
use Rattle.report.proofs.put_line.Goals as goal

pub loop-field-init : goal.loop-field-init
loop-field-init c = (begin (written-more c.put_bytes-at.ensures c.put_bytes-at-2.ensures), omega arith)

pub slice_bounds-put_field-count : goal.slice_bounds-put_field-count
slice_bounds-put_field-count c =
    omega (arith, next_room c.args.fields.now c.loop-field.field-index (omega arith) c.requires c.loop-field.invariant.0)

pub slice_bounds-put_field-start : goal.slice_bounds-put_field-start
slice_bounds-put_field-start c =
    omega (arith, next_room c.args.fields.now c.loop-field.field-index (omega arith) c.requires c.loop-field.invariant.0)

pub put_field-at-requires : goal.put_field-at-requires
put_field-at-requires c =
    omega (arith, next_room c.args.fields.now c.loop-field.field-index (omega arith) c.requires c.loop-field.invariant.0)

pub overflow_add-at-in-loop-field : goal.overflow_add-at-in-loop-field
overflow_add-at-in-loop-field c =
    omega (
      arith,
      next_room c.args.fields.now c.loop-field.field-index (omega arith) c.requires c.loop-field.invariant.0,
      c.put_field-at.ensures.count,
    )

pub loop-field-preserved : goal.loop-field-preserved
loop-field-preserved c =
    (rw (fields_more c.args.fields.now c.loop-field.field-index (omega arith)) (field c.loop-field.invariant.0 c.put_field-at.ensures), omega arith)

pub returns : goal.returns
returns c =
    let whole = rw (take_all c.loop-field.field-index c.args.fields.now (omega arith)) at c.loop-field.invariant.0 in
    end whole c.put_bytes.ensures
