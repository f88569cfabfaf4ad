-- What is known of the numbers of a line or header that is read: the ranges of document 01, as far as the book's code needs them.
-- Nothing here has to be believed: proofs/Ranged.antt has it of every line, from the laws of line reading, and proofs/Feeding.antt of what a loan adds.
use Rattle.std.specs.Prelude.{◌+◌, ◌≤◌, ◌<◌, ◌%◌, Result, Ok, Err}
use Rattle.line_forms.specs.declared.Header.{Header}
use Rattle.line_forms.specs.declared.IndexValue.{IndexValue}
use Rattle.line_forms.specs.declared.Loan.{Loan}
use Rattle.line_forms.specs.declared.MarkLine.{MarkLine}
use Rattle.line_forms.specs.declared.Policy.{Policy}
use Rattle.line_forms.specs.declared.Derivative.{Derivative}
use Rattle.line_forms.specs.declared.Asset.{Asset}
use Rattle.line_forms.specs.declared.Amount.{Amount}
use Rattle.line_forms.specs.declared.Content.{Content}
use Rattle.line_forms.specs.declared.Content.TheVariants.{Header as header, Loan as loan, Policy as policy, Derivative as derivative, Asset as asset}
use Rattle.line_forms.specs.declared.Content.TheVariants.{Amount as amount, Index as index, Mark as mark, NoForm}
use Rattle.line_forms.specs.declared.refusal.Refusal.{Refusal as Reason}
use Rattle.cell_report.specs.declared.Cell.{Cell}
use Rattle.book_model.specs.declared.Adjustment.{Adjustment}
use Rattle.book_model.specs.HouseIndex.{InTable}

pub record LoanRanges (l : Loan) : Type 0 where
  pub balance_least : 1 ≤ l.balance
  pub balance_most : l.balance ≤ 200000000
  pub value_most : l.value ≤ 10000000000
  pub months_least : 1 ≤ l.amortization
  pub months_most : l.amortization ≤ 480
  pub month_least : 1 ≤ l.from % 100
  pub month_most : l.from % 100 ≤ 12
  pub area : l.area < 12

pub record PolicyRanges (p : Policy) : Type 0 where
  pub premium : p.premium ≤ 100000000

pub record DerivativeRanges (d : Derivative) : Type 0 where
  pub cost : d.cost.plus ≤ 100000000000
  pub notional : d.notional ≤ 100000000000
  pub payments : d.payments ≤ 100
  pub factor : d.factor ≤ 10000

pub record AssetRanges (a : Asset) : Type 0 where
  pub amount : a.amount ≤ 100000000000
  pub factor : a.factor ≤ 10000

pub record AmountRanges (a : Amount) : Type 0 where
  pub plus : a.amount.plus ≤ 100000000000
  pub minus : a.amount.minus ≤ 100000000000

pub record IndexRanges (i : IndexValue) : Type 0 where
  pub place : InTable i.area i.month
  pub value_least : 1 ≤ i.value
  pub value_most : i.value ≤ 1000000

pub record MarkRanges (m : MarkLine) : Type 0 where
  pub name_least : 1 ≤ m.name

abbrev pub Ranged : Content → Type 0
Ranged (header h) = Unit {0}
Ranged (loan l) = LoanRanges l
Ranged (policy p) = PolicyRanges p
Ranged (derivative d) = DerivativeRanges d
Ranged (asset a) = AssetRanges a
Ranged (amount a) = AmountRanges a
Ranged (index i) = IndexRanges i
Ranged (mark m) = MarkRanges m
Ranged NoForm = Unit {0}

-- What a loan's property value is adjusted by where both values are set.
pub record AdjustmentRanges (a : Adjustment) : Type 0 where
  pub own_least : 1 ≤ a.own
  pub own_most : a.own ≤ 1000000
  pub last_most : a.last ≤ 1000000

-- What a loan adds to its cell.
pub record CellRanges (x : Cell) : Type 0 where
  pub count : x.count ≤ 300000000
  pub balance : x.balance ≤ 300000000
  pub plus : x.charge.plus ≤ 300000000
  pub minus : x.charge.minus ≤ 300000000

-- A header that is read.
pub record HeaderRanges (h : Header) : Type 0 where
  pub loans : h.loans ≤ 1000000
  pub scores : h.unscored + h.fresh ≤ h.loans
  pub held : h.held ≤ 10000000000000

abbrev pub RangedHeader : Result Header Reason → Type 0
RangedHeader (Ok h) = HeaderRanges h
RangedHeader (Err r) = Unit {0}
