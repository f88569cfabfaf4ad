use mathlib.Core.Path.{sym, ◌∙◌}
use Rattle.book_model.proofs.Closings.{gives-6, gives-9, gives-0}
use Rattle.limits.proofs.may_close.Goals as goal

-- `may_close` meets its contract.

pub returns-then-is_short : goal.returns-then-is_short
returns-then-is_short c =
    let a = c.args in
    gives-6 a.least a.b.now.header a.b.now.sums.counts a.size (sym c.is_short.ensures ∙ c.if-is_short.true)

pub returns-then-size-least : goal.returns-then-size-least
returns-then-size-least c =
    let a = c.args in
    gives-9 a.least a.b.now.header a.b.now.sums.counts a.size (sym c.is_short.ensures ∙ c.if-is_short.false) c.if-size-least.true

pub returns : goal.returns
returns c =
    let a = c.args in
    gives-0 a.least a.b.now.header a.b.now.sums.counts a.size (sym c.is_short.ensures ∙ c.if-is_short.false) c.if-size-least.false
