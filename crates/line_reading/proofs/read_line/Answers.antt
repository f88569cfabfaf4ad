use borrow.Author.Tests.{lt-ltb, le-ltb}
use Rattle.line_forms.specs.Readings.{line_of}
use Rattle.line_forms.specs.Claims.{LineReading}
use Rattle.line_forms.proofs.LineLaws.{line_reading}
use Rattle.line_reading.proofs.Clauses.{both}
use Rattle.line_reading.proofs.read_line.Goals as goal

-- `read_line` meets its contract.

pub returns-then-line-gt-LONGEST_LINE : goal.returns-then-line-gt-LONGEST_LINE
unfolding line_of
returns-then-line-gt-LONGEST_LINE c =
    let answer = both (LineReading _) (rw (lt-ltb 240 _ c.if-line-gt-LONGEST_LINE.true)) (line_reading _) in
    record {
      equation = answer.0;
      reading = answer.1;
    }

pub returns : goal.returns
unfolding line_of
returns c =
    let answer = both (LineReading _) (rw (le-ltb 240 _ c.if-line-gt-LONGEST_LINE.false, ← c.content.ensures) c.line_for.ensures) (line_reading _) in
    record {
      equation = answer.0;
      reading = answer.1;
    }
