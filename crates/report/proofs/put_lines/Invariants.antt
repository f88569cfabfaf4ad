-- The lines so far are written, and the buffer keeps its length.
use Rattle.std.proofs.Common.{◌≡◌, ◌+◌, ◌≤◌, [], ◌∷◌, length, take, sum_by}
use Rattle.std.specs.List.{flat_map}
use Rattle.report.specs.Decimal.{signed}
use Rattle.report.specs.Line.{line, Written}
use Rattle.report.proofs.put_lines.Given as goal

abbrev pub invariant-loop-name : goal.invariant-loop-name
invariant-loop-name l =
    (l.at ≤ sum_by (λ p. length p.0.now + 25) (take l.name-index l.lines))
    × (length l.out ≡ length l.fn.out)
    × Written l.fn.out (flat_map (λ p. line p.0.now (signed p.1 ∷ [])) (take l.name-index l.lines)) l.at l.out
