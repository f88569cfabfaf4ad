-- The line is written as far as the fields so far, and the buffer keeps its length.
use Rattle.std.proofs.Common.{◌≡◌, length, map, take}
use Rattle.report.specs.Fields.{field_text}
use Rattle.report.proofs.Lines.{Begun}
use Rattle.report.proofs.put_line.Given as goal

abbrev pub invariant-loop-field : goal.invariant-loop-field
invariant-loop-field l =
    Begun l.fn.out l.name (map field_text (take l.field-index l.fields)) l.at l.out × (length l.out ≡ length l.fn.out)
