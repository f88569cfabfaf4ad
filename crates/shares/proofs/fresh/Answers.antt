use mathlib.Core.Path.{refl, ◌∙◌}
use Rattle.book_model.specs.LineKinds.{fresh_count}
use Rattle.book_model.proofs.Tests.{byte-pick}
use Rattle.shares.proofs.fresh.Goals as goal

pub returns-in-Scored : goal.returns-in-Scored
unfolding fresh_count
returns-in-Scored c =
    rw c.in-Scored.is (c.from.ensures ∙ byte-pick _)

pub returns-in-Unscored : goal.returns-in-Unscored
unfolding fresh_count
returns-in-Unscored c =
    rw c.in-Unscored.is refl
