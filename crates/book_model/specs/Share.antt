-- What a line adds to the sums of its book (document 01, "The rest, and closing"): plain numbers, each line's by itself.
-- Amounts of rest and moved are in ten-millionths of a cent, the paper's exact charges by the laws of other_charges.
use Rattle.std.specs.Prelude.{ℕ, ◌-◌}
use Rattle.fixed_point.specs.declared.Signed.{Signed}
use Rattle.loan_charge.specs.Computation.{charge_of}
use Rattle.loan_charge.specs.declared.charge.LoanCharge.{LoanCharge}
use Rattle.line_forms.specs.declared.Loan.{Loan}
use Rattle.line_forms.specs.declared.Class.{Class}
use Rattle.line_forms.specs.declared.Class.TheVariants.{Home, Multi}
use Rattle.line_forms.specs.declared.Derivative.{Derivative}
use Rattle.line_forms.specs.declared.Asset.{Asset}
use Rattle.line_forms.specs.declared.Item.{Item}
use Rattle.line_forms.specs.declared.Item.TheVariants.{Claims, Lossc, Stated, Equity, Aoci, B, C}
use Rattle.line_forms.specs.declared.Content.{Content}
use Rattle.line_forms.specs.declared.Content.TheVariants.{Header as header, Loan as loan, Policy as policy, Derivative as derivative, Asset as asset}
use Rattle.line_forms.specs.declared.Content.TheVariants.{Amount as amount, Index as index, Mark as mark, NoForm}
use Rattle.other_charges.specs.Charges.{claims_percent, loss_components_percent, stated_percent}
use Rattle.other_charges.specs.Parts.{asset_parts_lem, share_parts_lem, derivative_parts_lem, provision_parts_lem}
use Rattle.figures.specs.declared.Money.{Money}
use Rattle.figures.specs.declared.Sums.{Sums}
use Rattle.figures.specs.Sums.{no_sums, zero_signed, zero_money, money_of}
use Rattle.book_model.specs.declared.Adjustment.{Adjustment}
use Rattle.book_model.specs.HouseIndex.{adjustment_of}
use Rattle.book_model.specs.LineKinds.{a_loan, another, kind_counts}
use Rattle.book_model.specs.Terms.{Terms, Basis, inputs_with}

-- the two numbers of a loan
unfoldable pub numbers_with : Terms → Adjustment → Loan → LoanCharge
numbers_with t a l = charge_of (inputs_with t a l)

abbrev pub loan_numbers : Basis → Loan → LoanCharge
loan_numbers g l = numbers_with g.terms (adjustment_of g.index l) l

unfoldable pub share_with : Terms → Adjustment → Loan → Sums
share_with t a l = record {
  counts = kind_counts (a_loan l);
  total = (numbers_with t a l).total;
  supplement = (numbers_with t a l).supplement;
  rest = zero_money;
  moved = zero_money;
  equity = zero_signed;
  aoci = zero_signed;
  b = 0;
  c = 0;
}

abbrev pub loan_share : Basis → Loan → Sums
loan_share g l = share_with g.terms (adjustment_of g.index l) l

-- a line that is no loan, with what it adds to each sum
abbrev pub other_share : (rest moved : Money) (equity aoci : Signed) (b c : ℕ) → Sums
other_share rest moved equity aoci b c = record {
  counts = kind_counts another;
  total = zero_signed;
  supplement = zero_signed;
  rest = rest;
  moved = moved;
  equity = equity;
  aoci = aoci;
  b = b;
  c = c;
}

-- a line that adds n ten-millionths of a cent to rest
abbrev pub rest_share : ℕ → Sums
rest_share n = other_share (money_of n) zero_money zero_signed zero_signed 0 0

-- a line that adds n ten-millionths of a cent to moved
abbrev pub moved_share : ℕ → Sums
moved_share n = other_share zero_money (money_of n) zero_signed zero_signed 0 0

-- a line that adds to capital
abbrev pub capital_share : (equity aoci : Signed) (b c : ℕ) → Sums
capital_share equity aoci b c = other_share zero_money zero_money equity aoci b c

-- multi-unit provisions count 1.25 times, in ten-thousandths
abbrev pub multi_factor : ℕ
multi_factor = 12500

-- Home provisions only move between headings.
unfoldable pub policy_share : Class → (premium term completed : ℕ) → Sums
policy_share Home premium term completed = moved_share (provision_parts_lem premium term completed 10000)
policy_share Multi premium term completed = rest_share (provision_parts_lem premium term completed multi_factor)

unfoldable pub derivative_share : Derivative → Sums
derivative_share d =
    rest_share (derivative_parts_lem d.kind (d.cost.plus - d.cost.minus) d.notional d.months d.payments d.factor)

unfoldable pub asset_share : Asset → Sums
asset_share a = rest_share (asset_parts_lem a.amount a.factor)

unfoldable pub amount_share : Item → Signed → Sums
amount_share Claims x = rest_share (share_parts_lem x.plus claims_percent)
amount_share Lossc x = rest_share (share_parts_lem x.plus loss_components_percent)
amount_share Stated x = rest_share (share_parts_lem x.plus stated_percent)
amount_share Equity x = capital_share x zero_signed 0 0
amount_share Aoci x = capital_share zero_signed x 0 0
amount_share B x = capital_share zero_signed zero_signed x.plus 0
amount_share C x = capital_share zero_signed zero_signed 0 x.plus

-- What the data of a line adds; an index value, a mark, a return and a refused line add nothing.
unfoldable pub share : Basis → Content → Sums
share g (header h) = no_sums
share g (loan l) = loan_share g l
share g (policy p) = policy_share p.class p.premium p.term p.completed
share g (derivative d) = derivative_share d
share g (asset a) = asset_share a
share g (amount a) = amount_share a.item a.amount
share g (index i) = no_sums
share g (mark m) = no_sums
share g NoForm = no_sums
