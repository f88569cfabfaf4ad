-- A space, and the field to what remains after it.
use Rattle.report.proofs.Onto.{written-more}
use Rattle.report.proofs.put_field.Goals as goal

pub returns : goal.returns
returns c = written-more c.put_bytes-at.ensures c.put_text.ensures
