use borrow.Author.Tests.{lt-ltb, le-ltb}
use Rattle.line_forms.specs.Readings.{header_of}
use Rattle.line_forms.specs.Claims.{HeaderReading}
use Rattle.line_forms.proofs.HeaderLaws.{header_reading}
use Rattle.line_reading.proofs.Clauses.{both}
use Rattle.line_reading.proofs.read_header.Goals as goal

-- `read_header` meets its contract.

pub returns-then-line-gt-LONGEST_LINE : goal.returns-then-line-gt-LONGEST_LINE
unfolding header_of
returns-then-line-gt-LONGEST_LINE c =
    let answer = both (HeaderReading _) (rw (lt-ltb 240 _ c.if-line-gt-LONGEST_LINE.true)) (header_reading _) in
    record {
      equation = answer.0;
      reading = answer.1;
    }

pub returns : goal.returns
unfolding header_of
returns c =
    let answer = both (HeaderReading _) (rw (le-ltb 240 _ c.if-line-gt-LONGEST_LINE.false, ← c.content.ensures) c.header_for.ensures) (header_reading _) in
    record {
      equation = answer.0;
      reading = answer.1;
    }
