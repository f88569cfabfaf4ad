-- The first file is refused alone, or the others are joined to it.
use Rattle.std.proofs.Common.{◌≡◌, ◌+◌, ◌-◌, ◌∙◌, sym, arith, rules}
use Rattle.regions.specs.Regions.{reports}
use Rattle.regions.proofs.NextFile.{parts}
use Rattle.book_model.proofs.Joining.{without-marks-sound}
use Rattle.capital.proofs.Files.{first_alone, first_read}
use Rattle.capital.proofs.answer_files.Goals as goal

pub returns-then-not-reports : goal.returns-then-not-reports
unfolding reports
returns-then-not-reports c =
    let (input, e) = c.in_ok-p.ensures.read in
    first_alone c.args.asked c.args.sheet.now c.in_ok-p.p c.read_file.new.open_book input e (c.args.arguments - c.args.from) (omega (arith, c.requires.1))
    (sym c.reports.ensures ∙ search rules) c.put_answer.ensures

pub join_all-requires : goal.join_all-requires
join_all-requires c = (
  without-marks-sound c.in_ok-p.ensures.sound,
  (parts _ (sym c.reports.ensures ∙ search rules)).2,
  omega (arith, c.requires.0),
  omega (arith, c.requires.1),
  c.table-exps.ensures,
)

pub returns : goal.returns
unfolding reports
returns c =
    let (input, e) = c.in_ok-p.ensures.read in
    let n : c.args.arguments - c.args.from ≡ 1 + (c.args.arguments - (c.args.from + 1)) = omega (arith, c.requires.1) in
    first_read c.args.asked c.args.sheet.now c.in_ok-p.p c.read_file.new.open_book input e (c.args.arguments - c.args.from)
    (sym c.reports.ensures ∙ search rules) (c.args.arguments - (c.args.from + 1)) n c.join_all.ensures
