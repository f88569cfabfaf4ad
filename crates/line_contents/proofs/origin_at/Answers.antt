use Rattle.line_forms.specs.Contents.{origin_form}
use Rattle.line_forms.proofs.Readers.{Reading, skipped, last}
use Rattle.line_contents.proofs.origin_at.Goals as goal

-- `origin_at` meets its contract.

pub returns : goal.returns
returns c =
    let r : Reading c.args.line.now origin_form c.args.at =
    skipped c.skip.ensures c.six_at-from.ensures
    (skipped c.skip-2.ensures c.area_at-area.ensures
    (last c.skip-3.ensures)) in
    (r.values, r.ends)
