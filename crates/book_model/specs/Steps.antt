-- What the functions below the calls answer. Nothing here has to be believed: the calls' contracts do not name it.
use Rattle.std.specs.Prelude.{ℕ, eqb}
use Rattle.exact.specs.Choice.{pick}
use Rattle.line_forms.specs.declared.MarkLine.{MarkLine}

-- A part of a state after a mark or return that meets the refusal n: what a return gives back of it, what a mark makes of it, what it was.
abbrev pub part_marked : {A : Type 0} → ℕ → MarkLine → (returned marked before : A) → A
part_marked n m returned marked before = pick (eqb n 0) (pick m.back returned marked) before
