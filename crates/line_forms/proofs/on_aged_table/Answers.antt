use Rattle.line_forms.specs.Contents.{on_aged_table_lem}
use Rattle.line_forms.proofs.HeaderCounts.{nine-tenths}
use Rattle.line_forms.proofs.on_aged_table.Goals as goal

-- `on_aged_table` meets its contract.

pub returns : goal.returns
unfolding on_aged_table_lem
returns c =
    nine-tenths c.args.h.fresh c.args.h.loans
