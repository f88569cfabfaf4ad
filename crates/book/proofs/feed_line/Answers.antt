use mathlib.Core.Path.{refl, subst}
use Rattle.line_forms.specs.declared.Line.{Line}
use Rattle.line_forms.specs.declared.Line.TheVariants.{Policy as PolicyLine, Derivative as DerivativeLine, Asset as AssetLine, Amount as AmountLine}
use Rattle.line_forms.specs.Claims.{line_content}
use Rattle.book_model.specs.Cells.{cells_with}
use Rattle.book_model.specs.HouseIndex.{index_with}
use Rattle.book_model.specs.LineKinds.{content_kind}
use Rattle.book_model.specs.Ranges.{Ranged, PolicyRanges, AmountRanges}
use Rattle.book_model.specs.Share.{share}
use Rattle.book_model.proofs.Feeding.{fed-refused}
use mathlib.Core.Path.{sym, ◌∙◌, ap}
use Rattle.book_model.specs.Calls.{feeding_line}
use Rattle.book.proofs.Answers.{loan-fed, index-fed, mark-fed, other-asked, other-fed}
use Rattle.book.proofs.feed_line.Goals as goal

-- `feed_line` meets its contract.

pub add_loan-requires : goal.add_loan-requires
add_loan-requires c =
    (c.requires.0, subst (λ (l : Line). Ranged (line_content l)) c.in-Loan.is c.requires.1, c.requires.2)

pub policy-requires : goal.policy-requires
policy-requires c =
    let r : PolicyRanges c.in-Policy.p =
    subst (λ (l : Line). Ranged (line_content l)) c.in-Policy.is c.requires.1 in r.premium

pub amount-requires : goal.amount-requires
amount-requires c =
    let r : AmountRanges c.in-Amount.a =
    subst (λ (l : Line). Ranged (line_content l)) c.in-Amount.is c.requires.1 in r.plus

pub derivative-requires : goal.derivative-requires
derivative-requires c =
    subst (λ (l : Line). Ranged (line_content l)) c.in-Derivative.is c.requires.1

pub asset-requires : goal.asset-requires
asset-requires c =
    subst (λ (l : Line). Ranged (line_content l)) c.in-Asset.is c.requires.1

pub add_index-requires : goal.add_index-requires
add_index-requires c =
    (c.requires.0.book, subst (λ (l : Line). Ranged (line_content l)) c.in-Index.is c.requires.1)

pub returns-in-Loan : goal.returns-in-Loan
returns-in-Loan c =
    loan-fed c.args.open_book.now c.in-Loan.l c.in-Loan.is c.add_loan.ensures.refusal c.add_loan.ensures.state

pub returns-in-Index : goal.returns-in-Index
returns-in-Index c =
    index-fed c.args.open_book.now c.in-Index.i c.in-Index.is c.add_index.ensures.refusal c.add_index.ensures.state

pub returns-in-Mark : goal.returns-in-Mark
returns-in-Mark c =
    mark-fed c.args.open_book.now c.in-Mark.m c.in-Mark.is c.feed.ensures.refusal c.feed.ensures.state

pub returns-in-Refusal : goal.returns-in-Refusal
returns-in-Refusal c =
    let s = c.args.open_book.now in
    fed-refused s c.in-Refusal.refusal ∙ ap (feeding_line s) (sym c.in-Refusal.is)

pub add_other-requires : goal.add_other-requires
unfolding share content_kind
add_other-requires c =
    other-asked c.args.open_book.now (PolicyLine c.in-Policy.p) refl c.in-Policy.is c.policy.ensures refl refl c.requires.0 c.requires.1

pub returns-in-Policy : goal.returns-in-Policy
unfolding share content_kind cells_with index_with
returns-in-Policy c =
    other-fed c.args.open_book.now (PolicyLine c.in-Policy.p) refl c.in-Policy.is c.policy.ensures (λ A f x. refl) refl refl refl
    c.add_other.ensures.refusal c.add_other.ensures.book

pub add_other-requires-in-Derivative : goal.add_other-requires-in-Derivative
unfolding share content_kind
add_other-requires-in-Derivative c =
    other-asked c.args.open_book.now (DerivativeLine c.in-Derivative.d) refl c.in-Derivative.is c.derivative.ensures refl refl c.requires.0 c.requires.1

pub returns-in-Derivative : goal.returns-in-Derivative
unfolding share content_kind cells_with index_with
returns-in-Derivative c =
    other-fed c.args.open_book.now (DerivativeLine c.in-Derivative.d) refl c.in-Derivative.is c.derivative.ensures (λ A f x. refl) refl refl refl
    c.add_other-in-Derivative.ensures.refusal c.add_other-in-Derivative.ensures.book

pub add_other-requires-in-Asset : goal.add_other-requires-in-Asset
unfolding share content_kind
add_other-requires-in-Asset c =
    other-asked c.args.open_book.now (AssetLine c.in-Asset.a) refl c.in-Asset.is c.asset.ensures refl refl c.requires.0 c.requires.1

pub returns-in-Asset : goal.returns-in-Asset
unfolding share content_kind cells_with index_with
returns-in-Asset c =
    other-fed c.args.open_book.now (AssetLine c.in-Asset.a) refl c.in-Asset.is c.asset.ensures (λ A f x. refl) refl refl refl
    c.add_other-in-Asset.ensures.refusal c.add_other-in-Asset.ensures.book

pub add_other-requires-in-Amount : goal.add_other-requires-in-Amount
unfolding share content_kind
add_other-requires-in-Amount c =
    other-asked c.args.open_book.now (AmountLine c.in-Amount.a) refl c.in-Amount.is c.amount.ensures refl refl c.requires.0 c.requires.1

pub returns-in-Amount : goal.returns-in-Amount
unfolding share content_kind cells_with index_with
returns-in-Amount c =
    other-fed c.args.open_book.now (AmountLine c.in-Amount.a) refl c.in-Amount.is c.amount.ensures (λ A f x. refl) refl refl refl
    c.add_other-in-Amount.ensures.refusal c.add_other-in-Amount.ensures.book
