use Rattle.book_model.proofs.Feeding.{fed-refused}
use Rattle.book_model.proofs.Ranged.{ranged}
use mathlib.Core.Path.{sym, ◌∙◌, ap}
use Rattle.book_model.specs.Calls.{feeding_line}
use Rattle.book.proofs.Answers.{fed}
use Rattle.book.proofs.feed_with.Goals as goal

pub feed_line-requires : goal.feed_line-requires
feed_line-requires c =
    (c.requires.0, rw c.read_line-read.ensures.equation (ranged c.args.line.now), c.requires.1)

pub returns-in_default : goal.returns-in_default
returns-in_default c =
    let answer = fed c.args.open_book.now c.args.line.now c.read_line-read.ensures.equation c.requires.0 c.feed_line.ensures in
    record {
      equation = answer.0;
      sound = answer.1;
    }

pub returns : goal.returns
returns c =
    let s = c.args.open_book.now in
    let answer = fed s c.args.line.now c.read_line-read.ensures.equation c.requires.0
    (fed-refused s c.in-Refusal.refusal ∙ ap (feeding_line s) (sym c.in-Refusal.is)) in
    record {
      equation = answer.0;
      sound = answer.1;
    }
