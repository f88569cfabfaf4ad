use mathlib.Core.Path.{refl, ◌∙◌}
use native.Mathlib.Omega.{arith}
use Rattle.book_model.specs.Joining.{may_join_lem, same_factors_lem, same_index_lem}
use Rattle.joining.proofs.Laws.{places-equal}
use Rattle.joining.proofs.may_join.Goals as goal

-- `may_join` meets its contract.

pub returns : goal.returns
unfolding may_join_lem same_factors_lem same_index_lem
returns c =
    let a = c.args in
    let x = a.first.now in
    let y = a.second.now in
    rw (
      c.eq.ensures ∙ places-equal 66 x.rates y.rates (omega arith) (omega arith),
      c.eq-2.ensures ∙ places-equal 1584 x.index y.index (omega arith) (omega arith),
      c.header.ensures,
      c.keeps_choices.ensures,
      c.keeps_choices-2.ensures,
      c.added_header-joined.ensures,
    )
    refl
