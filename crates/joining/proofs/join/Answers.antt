use mathlib.Core.Path.{sym, ◌∙◌}
use Rattle.std.proofs.Common.{rules}
use Rattle.book_model.specs.Calls.{State, state_at}
use Rattle.book_model.specs.JoiningLaws.{without_marks}
use Rattle.book_model.specs.Joining.{may_join_lem}
use Rattle.joining.proofs.Laws.{cells-small, book-asks, gives-joined, gives-refused}
use Rattle.joining.proofs.join.Goals as goal

pub returns-then-not-may_join : goal.returns-then-not-may_join
unfolding may_join_lem
returns-then-not-may_join c =
    let first : State = without_marks c.args.first.now in
    let second : State = without_marks c.args.second.now in
    let answer = gives-refused first second c.requires.0 c.requires.1 (sym c.may_join.ensures ∙ search rules) c.reset.ensures in
    record {
      equation = answer.0;
      sound = answer.1;
    }

pub joined_book-joined-requires : goal.joined_book-joined-requires
unfolding may_join_lem
joined_book-joined-requires c =
    book-asks (without_marks c.args.first.now) (without_marks c.args.second.now) c.requires.0 c.requires.1 (sym c.may_join.ensures ∙ search rules)

pub added_cells-joined-requires : goal.added_cells-joined-requires
added_cells-joined-requires c =
    (cells-small (without_marks c.args.first.now) c.requires.0, cells-small (without_marks c.args.second.now) c.requires.1)

pub returns : goal.returns
unfolding may_join_lem
returns c =
    let first : State = without_marks c.args.first.now in
    let second : State = without_marks c.args.second.now in
    let answer = gives-joined first second c.requires.0 c.requires.1 (sym c.may_join.ensures ∙ search rules)
    (λ i. state_at (c.joined_book-joined.ensures i) first.rates (c.added_cells-joined.ensures i) first.index (c.clear.ensures i)) in
    record {
      equation = answer.0;
      sound = answer.1;
    }
