-- The text, and after it the bytes that stood there.
use Rattle.std.proofs.Common.{refl}
use Rattle.report.specs.Line.{onto}
use Rattle.report.proofs.put_bytes.Goals as goal

pub returns : goal.returns
unfolding onto
returns c = record { count = refl; bytes = rw c.copy_from_slice.ensures.after refl }
