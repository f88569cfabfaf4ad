use mathlib.Core.Path.{◌≡◌, ◌∙◌, ap}
use mathlib.Core.List.{[]}
use Prim.Native.Nat.{◌+◌, ◌-◌}
use native.Mathlib.Omega.{arith}
use lib.ListN.{length, drop, length-drop}
use lib.Seq.{take_all}
use Rattle.driver.specs.Reading.{with_bytes, stage_at}
use Rattle.driver.proofs.Runs.{held_more, all_held, line-and-more}
use Rattle.driver.proofs.step.Goals as goal

-- `step` meets its contract.

pub returns-then-chunk-end : goal.returns-then-chunk-end
returns-then-chunk-end c =
    let a = c.args in
    let e = c.line_end-end in
    let answer = all_held a.run.now a.sheet.now a.open_book.now a.chunk.now c.requires.0 c.is_empty.ensures.few e.result e.ensures.equation
    c.hold.new.self c.hold.ensures c.if-chunk-end.true e.ensures.inside.1 in
    record {
      equation = answer.0;
      running = answer.1.0;
      read = answer.1.1;
    }

pub end_held-requires : goal.end_held-requires
end_held-requires c =
    let a = c.args in
    let e = c.line_end-end in
    let r = c.requires.0 in (
      record {
        sound = r.sound;
        number = omega (arith, r.number);
        unended = held_more a.run.now a.sheet.now a.open_book.now a.chunk.now r c.is_empty.ensures.few e.result e.ensures.equation c.hold.new.self c.hold.ensures;
      },
      omega (arith, r.number, c.requires.1),
      c.requires.2,
    )

pub returns-clause-equation : goal.returns-clause-equation
returns-clause-equation c =
    let a = c.args in
    let e = c.line_end-end in
    let n = c.end_held in
    let next = stage_at n.new.run.progress a.sheet.now n.new.open_book in
    let d : length (drop (e.result + 1) a.chunk.now) ≡ length a.chunk.now - (e.result + 1) = length-drop (e.result + 1) a.chunk.now in
    let more = c.read_lines-2.ensures.equation
    ∙ ap (with_bytes (record { stage = next; tail = [] })) (take_all (length a.chunk.now - (e.result + 1)) (drop (e.result + 1) a.chunk.now) (omega arith)) in
    line-and-more a.run.now a.sheet.now a.open_book.now a.chunk.now c.requires.0 c.is_empty.ensures.few e.result e.ensures.equation next c.hold.new.self
    c.hold.ensures (omega (arith, c.if-chunk-end.false)) n.ensures.equation more
