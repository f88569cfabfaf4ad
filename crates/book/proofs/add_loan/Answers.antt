use Rattle.book_model.specs.Ranges.{AdjustmentRanges}
use Rattle.book.proofs.Answers.{ranges, loan-asks, cell-asks, loan-taken}
use Rattle.book.proofs.add_loan.Goals as goal

pub place_of-place-requires : goal.place_of-place-requires
place_of-place-requires c =
    let ranged : AdjustmentRanges c.adjustment-a.result =
    ranges c.args.open_book.now c.args.l c.loan_beyond.ensures c.if-loan_beyond.false c.adjustment-a.ensures
    c.is_lacking.ensures c.if-is_lacking.false c.requires.0 in
    (c.requires.1, ranged)

pub loan-share-requires : goal.loan-share-requires
loan-share-requires c =
    let ranged : AdjustmentRanges c.adjustment-a.result =
    ranges c.args.open_book.now c.args.l c.loan_beyond.ensures c.if-loan_beyond.false c.adjustment-a.ensures
    c.is_lacking.ensures c.if-is_lacking.false c.requires.0 in
    (c.requires.1, ranged, c.requires.2, c.requires.0.rates)

pub add_cell-requires : goal.add_cell-requires
add_cell-requires c =
    let k = cell-asks c.args.open_book.now c.args.l c.loan_beyond.ensures c.if-loan_beyond.false c.adjustment-a.ensures
    c.is_lacking.ensures c.if-is_lacking.false c.loan-share.ensures c.requires.0 c.requires.1 in
    (c.place_of-place.ensures.1, k.0, k.1)

pub add_share-requires : goal.add_share-requires
add_share-requires c =
    loan-asks c.args.open_book.now c.args.l c.loan_beyond.ensures c.if-loan_beyond.false c.adjustment-a.ensures
    c.is_lacking.ensures c.if-is_lacking.false c.loan-share.ensures c.requires.0 c.requires.1

pub returns-clause-state : goal.returns-clause-state
returns-clause-state c =
    loan-taken c.args.open_book.now c.args.l c.loan_beyond.ensures c.if-loan_beyond.false c.adjustment-a.ensures
    c.is_lacking.ensures c.if-is_lacking.false c.loan-share.ensures c.place_of-place.ensures.0
    c.add_share.ensures c.add_cell.ensures
