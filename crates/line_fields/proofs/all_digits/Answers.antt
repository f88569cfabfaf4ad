use mathlib.Core.Path.{refl, sym, ◌∙◌, ap}
use Prim.Native.Nat.{◌+◌}
use native.Mathlib.Omega.{arith}
use mathlib.Core.Bool.{Bool, ◌&&◌}
use lib.ListN.{drop, get_or}
use Rattle.line_forms.specs.Bytes.{all_within, within}
use Rattle.line_forms.proofs.Bytes.{all-step, all_end, and_assoc, and-true}
use borrow.Author.Rules.{rules}
use Rattle.line_fields.proofs.all_digits.Goals as goal

pub loop-i-init : goal.loop-i-init
loop-i-init c =
    (search rules, refl)

pub loop-i-preserved : goal.loop-i-preserved
loop-i-preserved c =
    let t = c.args.part.now in
    let l = c.loop-i in (
      search rules,
      l.invariant.1 ∙ ap (λ (q : Bool). l.all && q) (all-step 48 57 t l.i (omega arith)) ∙
          and_assoc l.all (within 48 57 (get_or t l.i 0)) (all_within 48 57 (drop (l.i + 1) t)) ∙ rw c.digit-all.ensures,
    )

pub returns : goal.returns
returns c =
    let l = c.loop-i in
    sym (l.invariant.1 ∙ rw (all_end 48 57 c.args.part.now l.i (omega arith), and-true l.all))
