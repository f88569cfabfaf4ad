use Rattle.std.proofs.Common.{◌≡◌, ◌+◌, ◌-◌, arith}
use Rattle.std.proofs.lemmas.Slice.{drop-put_mid}
use Rattle.line_bytes.proofs.Held.{tail-put}
use Rattle.line_bytes.proofs.hold.Goals as goal

pub returns-clause-equation : goal.returns-clause-equation
returns-clause-equation c =
    let a = c.args in
    let size : a.held + c.min-n.result - a.held ≡ c.min-n.result = omega arith in
    rw (size, c.copy_from_slice.ensures.after) (tail-put a.tail.now a.bytes.now a.held c.min-n.result (omega arith) (omega arith) (omega (arith, c.min-n.ensures)))

pub returns-clause-rest : goal.returns-clause-rest
returns-clause-rest c =
    let a = c.args in
    drop-put_mid a.held _ a.tail.now _ (a.held + c.min-n.result) (omega arith) (omega arith) (omega (arith, c.copy_from_slice.ensures.len))
