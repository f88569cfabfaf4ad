use Rattle.std.proofs.Common.{arith, ◌∙◌, ◌-◌, ap₂, length, drop, length-drop}
use lib.Seq.{take_all}
use Rattle.line_bytes.specs.LineBytes.{with_tail}
use Rattle.driver.specs.Reading.{stage_at}
use Rattle.driver.proofs.Runs.{lines-read}
use Rattle.driver.proofs.read_lines.Goals as goal

-- `read_lines` meets its contract.

pub returns : goal.returns
returns c =
    let a = c.args in
    let r = a.run.now in
    let l = c.lines-rest in
    let rest = drop l.result a.bytes.now in
    let left = c.hold.ensures ∙ ap₂ with_tail c.requires.3 (take_all (length a.bytes.now - l.result) rest (omega (arith, length-drop l.result a.bytes.now))) in
    let answer = lines-read (stage_at r.progress a.sheet.now a.open_book.now) l.new.p a.sheet.now l.new.open_book a.bytes.now c.hold.new.self l.result
    r.read l.ensures.equation l.ensures.rest.1 l.ensures.sound (omega (arith, l.ensures.number, l.ensures.rest.0, c.requires.1)) left in
    record {
      equation = answer.0;
      running = answer.1.0;
      read = answer.1.1;
    }
