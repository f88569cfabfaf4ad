use Rattle.std.proofs.Common.{◌≡◌, ◌+◌, ◌-◌, length, take, drop, arith, ap, sym}
use lib.ListN.{length-drop}
use lib.Seq.{take_all}
use Rattle.line_bytes.proofs.FirstNewline.{index-first, index-nowhere}
use Rattle.line_bytes.proofs.newlines.line_end.Goals as goal

pub returns-in-Some-clause-equation : goal.returns-in-Some-clause-equation
returns-in-Some-clause-equation c =
    let hay = drop c.args.from c.args.chunk.now in
    let whole : take (length c.args.chunk.now - c.args.from) hay ≡ hay = take_all _ hay (omega (arith, length-drop c.args.from c.args.chunk.now)) in
    let k = rw whole at c.in-Some.ensures in
    ap (λ n. c.args.from + n) (sym (index-first hay c.in-Some.n k.0 k.1))

pub returns-in-None-clause-equation : goal.returns-in-None-clause-equation
returns-in-None-clause-equation c =
    let hay = drop c.args.from c.args.chunk.now in
    let whole : take (length c.args.chunk.now - c.args.from) hay ≡ hay = take_all _ hay (omega (arith, length-drop c.args.from c.args.chunk.now)) in
    let k = rw whole at c.in-None.ensures in
    omega (arith, index-nowhere hay k, length-drop c.args.from c.args.chunk.now)
