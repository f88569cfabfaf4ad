use Rattle.std.proofs.Common.{◌∙◌, ap}
use Rattle.std.specs.Prelude.{◌++◌, ◌∷◌, []}
use Rattle.line_bytes.specs.LineBytes.{newline}
use Rattle.line_bytes.proofs.Held.{ended-by-rest}
use Rattle.line_bytes.proofs.Tail.ended.Goals as goal

pub returns-clause-line : goal.returns-clause-line
returns-clause-line c =
    let t = c.self.inside in
    ended-by-rest t.bytes t.held c.self.invariant.0 c.self.invariant.1 ∙ ap (λ line. line ++ newline ∷ []) c.self.view_is
