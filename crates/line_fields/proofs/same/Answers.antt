use mathlib.Core.Path.{refl, sym, ◌∙◌, ap}
use Prim.Native.Nat.{◌+◌}
use native.Mathlib.Omega.{arith}
use mathlib.Core.Bool.{Bool, ◌&&◌}
use lib.Dec.{eqb}
use lib.ListN.{drop, get_or}
use Rattle.line_forms.specs.Bytes.{same}
use Rattle.line_forms.proofs.Bytes.{same_step, same_end, same_length, and_assoc, and-true}
use borrow.Author.Rules.{rules}
use Rattle.line_fields.proofs.same.Goals as goal

pub returns-then-a-b : goal.returns-then-a-b
returns-then-a-b c =
    sym (same_length c.args.a.now c.args.b.now c.if-a-b.true)

pub loop-i-init : goal.loop-i-init
loop-i-init c =
    (search rules, refl)

pub loop-i-preserved : goal.loop-i-preserved
loop-i-preserved c =
    let a = c.args.a.now in
    let b = c.args.b.now in
    let l = c.loop-i in (
      search rules,
      l.invariant.1 ∙ ap (λ (q : Bool). l.all && q) (same_step a b l.i (omega arith) (omega arith)) ∙
          and_assoc l.all (eqb (get_or a l.i 0) (get_or b l.i 0)) (same (drop (l.i + 1) a) (drop (l.i + 1) b)),
    )

pub returns : goal.returns
returns c =
    let a = c.args.a.now in
    let b = c.args.b.now in
    let l = c.loop-i in
    sym (l.invariant.1 ∙ rw (same_end a b l.i (omega arith) (omega arith), and-true l.all))
