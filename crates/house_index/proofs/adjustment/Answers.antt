use mathlib.Core.Path.{sym, ◌∙◌}
use Rattle.book_model.specs.HouseIndex.{values_at}
use Rattle.book_model.proofs.Adjustments.{indexed-is, kept-is}
use Rattle.book_model.proofs.IndexTables.{loan-months}
use Rattle.house_index.proofs.adjustment.Goals as goal

-- `adjustment` meets its contract: a loan that goes by the index has both months in the table.

pub value_at-requires : goal.value_at-requires
value_at-requires c =
    (loan-months _ c.requires (sym c.is_indexed.ensures ∙ c.if-is_indexed.true)).1

pub value_at-requires-then-is_indexed : goal.value_at-requires-then-is_indexed
value_at-requires-then-is_indexed c =
    (loan-months _ c.requires (sym c.is_indexed.ensures ∙ c.if-is_indexed.true)).0

pub returns-then-is_indexed : goal.returns-then-is_indexed
returns-then-is_indexed c =
    rw (c.value_at.ensures, c.value_at-then-is_indexed.ensures)
    (sym (indexed-is (values_at c.args.index.now) c.args.l (sym c.is_indexed.ensures ∙ c.if-is_indexed.true)))

pub returns : goal.returns
returns c =
    sym (kept-is (values_at c.args.index.now) c.args.l (sym c.is_indexed.ensures ∙ c.if-is_indexed.false))
