use mathlib.Core.Path.{refl, sym, ◌∙◌, ap}
use mathlib.Core.List.{[]}
use native.Mathlib.Omega.{arith}
use lib.ListN.{length}
use Rattle.std.proofs.Common.{rules}
use Rattle.line_forms.proofs.Refusals.{number-some}
use Rattle.book_model.specs.Calls.{Answer}
use Rattle.book_model.specs.JoiningLaws.{without_marks}
use Rattle.driver.specs.Reading.{Stage, stage_at}
use Rattle.printing.proofs.Answers.{refusal-room}
use Rattle.regions.specs.Regions.{reports}
use Rattle.regions.proofs.NextFile.{file-alone, file-16, file-on}
use Rattle.regions.proofs.join_file.Goals as goal

pub returns-then-not-reports : goal.returns-then-not-reports
unfolding reports
returns-then-not-reports c =
    let a = c.args in
    let file : Stage = stage_at a.p [] (without_marks a.own.now) in
    file-alone a.asked (without_marks a.before.now) a.file file (sym c.reports.ensures ∙ search rules) c.put_answer.ensures

pub put_refusal-requires : goal.put_refusal-requires
put_refusal-requires c =
    refusal-room c.number.result c.args.file (length c.args.out.now) (omega arith) (omega arith) (omega (arith, c.requires.2))

pub returns-in-Err : goal.returns-in-Err
unfolding reports
returns-in-Err c =
    let a = c.args in
    let file : Stage = stage_at a.p [] (without_marks a.own.now) in
    let e = c.in-Err.ensures.equation in
    file-16 a.asked (without_marks a.before.now) a.file file (sym c.reports.ensures ∙ search rules)
    (c.number.ensures ∙ ap (λ (x : Answer). x.refusal) e) (λ z. number-some c.in-Err.refusal (sym c.number.ensures ∙ z))
    c.put_refusal.ensures

pub returns : goal.returns
unfolding reports
returns c =
    let a = c.args in
    let file : Stage = stage_at a.p [] (without_marks a.own.now) in
    let e = c.in_default.ensures.equation in
    file-on a.asked (without_marks a.before.now) a.file file (sym c.reports.ensures ∙ search rules)
    (sym (ap (λ (x : Answer). x.refusal) e)) (ap (λ (x : Answer). x.state) e) refl
