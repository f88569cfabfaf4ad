use mathlib.Core.Path.{refl}
use Rattle.book_model.specs.Joining.{keeps_choices_lem}
use Rattle.joining.proofs.Laws.{same-answer}
use Rattle.joining.proofs.keeps_choices.Goals as goal

-- `keeps_choices` meets its contract.

pub returns : goal.returns
unfolding keeps_choices_lem
returns c =
    rw (
      same-answer c.on_aged_table.result c.on_aged_table-2.result,
      same-answer c.many_unscored.result c.many_unscored-2.result,
      c.on_aged_table.ensures,
      c.on_aged_table-2.ensures,
      c.many_unscored.ensures,
      c.many_unscored-2.ensures,
    )
    refl
