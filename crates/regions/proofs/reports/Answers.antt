use mathlib.Core.List.{[]}
use mathlib.Core.Path.{◌∙◌}
use Rattle.driver.specs.Reading.{stage_at}
use Rattle.regions.proofs.NextFile.{reports-tested, is_ok-told}
use Rattle.regions.proofs.reports.Goals as goal

-- `reports` meets its contract.

pub returns : goal.returns
returns c =
    let a = c.args in
    reports-tested (stage_at a.p [] a.open_book.now) (c.is_ok.ensures.value ∙ is_ok-told a.p.answer) c.is_short.ensures
