use mathlib.Core.Path.{sym, ◌∙◌}
use Rattle.std.proofs.Common.{rules}
use Rattle.book.proofs.Answers.{opened, sheet-refused, header-refused}
use Rattle.book.proofs.open_sheet.Goals as goal

-- `open_sheet` meets its contract.

pub returns-in_err-header : goal.returns-in_err-header
returns-in_err-header c =
    let a = c.args in
    let answer = header-refused a.sheet.now a.line.now c.read_header.ensures.equation c.in_err-header.field-0.0 c.in_err-header.was c.from_residual.result (search rules)
    c.reset.ensures in
    record {
      equation = answer.0;
      sound = answer.1;
    }

pub returns-then-not-passes : goal.returns-then-not-passes
returns-then-not-passes c =
    let a = c.args in
    let answer = sheet-refused a.sheet.now a.line.now c.read_header.ensures.equation c.in_ok-header.header c.in_ok-header.was
    (sym c.passes.ensures ∙ search rules) c.reset.ensures in
    record {
      equation = answer.0;
      sound = answer.1;
    }

pub returns : goal.returns
returns c =
    let a = c.args in
    let answer = opened a.sheet.now a.line.now c.read_header.ensures.equation c.in_ok-header.header c.in_ok-header.was
    (sym c.passes.ensures ∙ search rules) c.reset.ensures c.empty-open_book.ensures c.fill.ensures in
    record {
      equation = answer.0;
      sound = answer.1;
    }
