use mathlib.Core.Path.{◌∙◌, ap}
use Rattle.book_model.specs.Calls.{empty_book}
use Rattle.book_model.proofs.refused.Goals as goal

-- `refused` meets its contract.

pub returns : goal.returns
returns c =
    let d = c.default.ensures in
    c.empty.ensures ∙ ap empty_book (λ i. record { loans = d.0 i; unscored = d.1.0 i; fresh = d.1.1.0 i; held = d.1.1.1 i })
