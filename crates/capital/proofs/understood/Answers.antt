-- The word is tried as each that can be asked for.
use mathlib.Core.Path.{sym, ◌∙◌}
use Rattle.capital.proofs.CommandWords.{is-after, is-cells, is-sheet, is_join, is_unknown, when-some, when-none, none-tested}
use Rattle.capital.proofs.understood.Goals as goal

pub returns-then-is_some : goal.returns-then-is_some
returns-then-is_some c = is-after _ _ _ (when-some _ (sym c.is_some.ensures ∙ c.if-is_some.true))

pub returns-then-same-words : goal.returns-then-same-words
returns-then-same-words c = is-cells _ _ _ (when-none _ (sym c.is_some.ensures ∙ c.if-is_some.false)) c.same.ensures c.if-same-words.true

pub returns-then-same-is_none : goal.returns-then-same-is_none
returns-then-same-is_none c =
    is-sheet _ _ _ (when-none _ (sym c.is_some.ensures ∙ c.if-is_some.false)) c.same.ensures c.if-same-words.false c.same-2.ensures
    (rw (none-tested _ c.is_none.ensures) at c.if-same-is_none.true)

pub returns-then-same-more : goal.returns-then-same-more
returns-then-same-more c =
    is_join _ _ _ (when-none _ (sym c.is_some.ensures ∙ c.if-is_some.false)) c.same.ensures c.if-same-words.false c.same-2.ensures
    (rw (none-tested _ c.is_none.ensures) at c.if-same-is_none.false) c.same-3.ensures c.if-same-more.true

pub returns : goal.returns
returns c =
    is_unknown _ _ _ (when-none _ (sym c.is_some.ensures ∙ c.if-is_some.false)) c.same.ensures c.if-same-words.false c.same-2.ensures
    (rw (none-tested _ c.is_none.ensures) at c.if-same-is_none.false) c.same-3.ensures c.if-same-more.false
