use Rattle.std.proofs.Common.{◌∙◌, ap}
use Rattle.line_bytes.specs.LineBytes.{with_tail}
use Rattle.line_bytes.proofs.Held.{rest-later}
use Rattle.line_bytes.proofs.Tail.hold.Goals as goal

pub returns : goal.returns
returns c = c.hold-self-inside.ensures.equation ∙ ap (λ line. with_tail line c.args.bytes.now) c.self.view_is

-- newlines stand after what is held then, too
pub invariant_of-self : goal.invariant_of-self
invariant_of-self c =
    let h = c.hold-self-inside in
    (h.ensures.few.1, rest-later c.self.inside.bytes h.new.tail c.self.inside.held h.result h.ensures.few.0 c.self.invariant.1 h.ensures.rest)
