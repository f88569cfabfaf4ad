-- What the ranges say of the numbers of an accepted line or header, as facts.
use Prim.Native.Nat.{ℕ, ◌+◌, ◌≤◌, ◌<◌, ◌%◌}
use mathlib.Core.Path.{◌≡◌}
use mathlib.Core.Bool.{true, ◌&&◌}
use mathlib.Core.List.{List}
use mathlib.Core.Logic.{◌⊎◌}
use Rattle.loan_charge.specs.declared.Score.{Score}
use Rattle.loan_charge.specs.declared.Score.TheVariants.{Scored, Unscored}
use Rattle.line_forms.specs.Bytes.{within}
use Rattle.line_forms.specs.Contents.{header_in_range, score_in_range, loan_in_range, policy_in_range, money_in_range, derivative_in_range, asset_in_range}
use Rattle.line_forms.specs.Contents.{amount_in_range, month_in_range, index_in_range, in_range, SignFits}
use Rattle.line_forms.specs.Readings.{line_of, header_of}
use Rattle.fixed_point.specs.declared.Signed.{Signed}
use Rattle.line_forms.specs.declared.Header.{Header}
use Rattle.line_forms.specs.declared.Loan.{Loan}
use Rattle.line_forms.specs.declared.Policy.{Policy}
use Rattle.line_forms.specs.declared.Derivative.{Derivative}
use Rattle.line_forms.specs.declared.Asset.{Asset}
use Rattle.line_forms.specs.declared.Amount.{Amount}
use Rattle.line_forms.specs.declared.IndexValue.{IndexValue}
use Rattle.line_forms.specs.declared.Content.TheVariants.{Loan as loan, Policy as policy, Derivative as derivative, Asset as asset, Amount as amount, Index as index}
use Rattle.line_forms.specs.declared.Line.TheVariants.{Loan as LoanLine, Policy as PolicyLine, Derivative as DerivativeLine}
use Rattle.line_forms.specs.declared.Line.TheVariants.{Asset as AssetLine, Amount as AmountLine, Index as IndexLine}
use Rattle.std.specs.Prelude.{Ok}
use Rattle.line_forms.proofs.Bytes.{and_both, within-bounds}
use Rattle.line_forms.proofs.LineLaws.{line-accepted}
use Rattle.line_forms.proofs.HeaderLaws.{header-accepted}

-- a ≤ n ≤ b
pub record Between (a b n : ℕ) : Type 0 where
  pub low : a ≤ n
  pub high : n ≤ b

between : (low high n : ℕ) → within low high n ≡ true → Between low high n
between low high n h = let k = within-bounds low high n h in record { low = k.0; high = k.1 }

pub record HeaderBounds (h : Header) : Type 0 where
  pub loans : Between 0 1000000 h.loans
  pub held : Between 0 10000000000000 h.held
  pub scores : h.unscored + h.fresh ≤ h.loans

pub header-bounds : (s : List ℕ) (h : Header) → header_of s ≡ Ok h → HeaderBounds h
unfolding in_range header_in_range
header-bounds s h e =
    let k = (header-accepted s h).0 e in
    let a = and_both (within 0 1000000 h.loans) (within 0 10000000000000 h.held) k.1 in
    record {
      loans = between 0 1000000 h.loans a.0;
      held = between 0 10000000000000 h.held a.1;
      scores = k.2;
    }

abbrev pub ScoreBounds : Score → Type 0
ScoreBounds (Scored n age) = Between 300 900 n × Between 0 600 age
ScoreBounds Unscored = Unit {0}

score-bounds : (q : Score) → score_in_range q ≡ true → ScoreBounds q
unfolding score_in_range
score-bounds (Scored n age) h =
    let k = and_both (within 300 900 n) (within 0 600 age) h in
    (between 300 900 n k.0, between 0 600 age k.1)
score-bounds Unscored h = tt

-- a month between two others
pub record MonthBounds (low high n : ℕ) : Type 0 where
  pub whole : Between low high n
  pub month : Between 1 12 (n % 100)

month-bounds : (low high n : ℕ) → month_in_range low high n ≡ true → MonthBounds low high n
unfolding month_in_range
month-bounds low high n h =
    let k = and_both (within low high n) (within 1 12 (n % 100)) h in
    record { whole = between low high n k.0; month = between 1 12 (n % 100) k.1 }

pub record LoanBounds (l : Loan) : Type 0 where
  pub balance : Between 1 200000000 l.balance
  pub value : Between 1 10000000000 l.value
  pub amortization : Between 1 480 l.amortization
  pub term : Between 1 480 l.term
  pub score : ScoreBounds l.score
  pub supplement : Between 0 1 l.supplement
  pub from : MonthBounds 190001 209912 l.from
  pub area : l.area < 12

pub loan-bounds : (s : List ℕ) (l : Loan) → line_of s ≡ LoanLine l → LoanBounds l
unfolding in_range loan_in_range
loan-bounds s l e =
    let r = (line-accepted s (loan l) tt).0 e in
    let a1 = within 1 200000000 l.balance in
    let a2 = within 1 10000000000 l.value in
    let a3 = within 1 480 l.amortization in
    let a4 = within 1 480 l.term in
    let a5 = score_in_range l.score in
    let a6 = within 0 1 l.supplement in
    let m = and_both (a1 && a2 && a3 && a4 && a5 && a6) (month_in_range 190001 209912 l.from) r.1 in
    let f = and_both (a1 && a2 && a3 && a4 && a5) a6 m.0 in
    let g = and_both (a1 && a2 && a3 && a4) a5 f.0 in
    let h = and_both (a1 && a2 && a3) a4 g.0 in
    let i = and_both (a1 && a2) a3 h.0 in
    let j = and_both a1 a2 i.0 in
    record {
      balance = between 1 200000000 l.balance j.0;
      value = between 1 10000000000 l.value j.1;
      amortization = between 1 480 l.amortization i.1;
      term = between 1 480 l.term h.1;
      score = score-bounds l.score g.1;
      supplement = between 0 1 l.supplement f.1;
      from = month-bounds 190001 209912 l.from m.1;
      area = r.0.1.1.1.1.1.1.1.0;
    }

pub record PolicyBounds (p : Policy) : Type 0 where
  pub premium : Between 0 100000000 p.premium
  pub term : Between 1 480 p.term
  pub completed : Between 0 40 p.completed

pub policy-bounds : (s : List ℕ) (p : Policy) → line_of s ≡ PolicyLine p → PolicyBounds p
unfolding in_range policy_in_range
policy-bounds s p e =
    let k = ((line-accepted s (policy p) tt).0 e).1 in
    let f = and_both (within 0 100000000 p.premium && within 1 480 p.term) (within 0 40 p.completed) k in
    let g = and_both (within 0 100000000 p.premium) (within 1 480 p.term) f.0 in
    record {
      premium = between 0 100000000 p.premium g.0;
      term = between 1 480 p.term g.1;
      completed = between 0 40 p.completed f.1;
    }

-- money without a range of its own, of which one part is 0
pub record MoneyBounds (n : Signed) : Type 0 where
  pub plus : Between 0 100000000000 n.plus
  pub minus : Between 0 100000000000 n.minus
  pub sign : (n.plus ≡ 0) ⊎ (n.minus ≡ 0)

money-bounds : (n : Signed) → money_in_range n ≡ true → (n.plus ≡ 0) ⊎ (n.minus ≡ 0) → MoneyBounds n
unfolding money_in_range
money-bounds n h z =
    let k = and_both (within 0 100000000000 n.plus) (within 0 100000000000 n.minus) h in
    record {
      plus = between 0 100000000000 n.plus k.0;
      minus = between 0 100000000000 n.minus k.1;
      sign = z;
    }

pub record DerivativeBounds (d : Derivative) : Type 0 where
  pub cost : MoneyBounds d.cost
  pub notional : Between 0 100000000000 d.notional
  pub months : Between 0 600 d.months
  pub payments : Between 1 100 d.payments
  pub factor : Between 0 10000 d.factor

pub derivative-bounds : (s : List ℕ) (d : Derivative) → line_of s ≡ DerivativeLine d → DerivativeBounds d
unfolding in_range derivative_in_range
derivative-bounds s d e =
    let k = (line-accepted s (derivative d) tt).0 e in
    let a1 = money_in_range d.cost in
    let a2 = within 0 100000000000 d.notional in
    let a3 = within 0 600 d.months in
    let a4 = within 1 100 d.payments in
    let f = and_both (a1 && a2 && a3 && a4) (within 0 10000 d.factor) k.1 in
    let g = and_both (a1 && a2 && a3) a4 f.0 in
    let h = and_both (a1 && a2) a3 g.0 in
    let i = and_both a1 a2 h.0 in
    record {
      cost = money-bounds d.cost i.0 k.0.1.0.2;
      notional = between 0 100000000000 d.notional i.1;
      months = between 0 600 d.months h.1;
      payments = between 1 100 d.payments g.1;
      factor = between 0 10000 d.factor f.1;
    }

pub record AssetBounds (a : Asset) : Type 0 where
  pub amount : Between 0 100000000000 a.amount
  pub factor : Between 0 10000 a.factor

pub asset-bounds : (s : List ℕ) (a : Asset) → line_of s ≡ AssetLine a → AssetBounds a
unfolding in_range asset_in_range
asset-bounds s a e =
    let k = ((line-accepted s (asset a) tt).0 e).1 in
    let f = and_both (within 0 100000000000 a.amount) (within 0 10000 a.factor) k in
    record {
      amount = between 0 100000000000 a.amount f.0;
      factor = between 0 10000 a.factor f.1;
    }

-- an amount, with a sign only where its form has one
pub record AmountBounds (a : Amount) : Type 0 where
  pub plus : Between 0 100000000000 a.amount.plus
  pub minus : Between 0 100000000000 a.amount.minus
  pub sign : SignFits a.item a.amount

pub amount-bounds : (s : List ℕ) (a : Amount) → line_of s ≡ AmountLine a → AmountBounds a
unfolding in_range amount_in_range money_in_range
amount-bounds s a e =
    let k = (line-accepted s (amount a) tt).0 e in
    let f = and_both (within 0 100000000000 a.amount.plus) (within 0 100000000000 a.amount.minus) k.1 in
    record {
      plus = between 0 100000000000 a.amount.plus f.0;
      minus = between 0 100000000000 a.amount.minus f.1;
      sign = k.0.1;
    }

pub record IndexBounds (i : IndexValue) : Type 0 where
  pub area : i.area < 12
  pub month : MonthBounds 200501 201512 i.month
  pub value : Between 1 1000000 i.value

pub index-bounds : (s : List ℕ) (i : IndexValue) → line_of s ≡ IndexLine i → IndexBounds i
unfolding in_range index_in_range
index-bounds s i e =
    let r = (line-accepted s (index i) tt).0 e in
    let f = and_both (month_in_range 200501 201512 i.month) (within 1 1000000 i.value) r.1 in
    record {
      area = r.0.0;
      month = month-bounds 200501 201512 i.month f.0;
      value = between 1 1000000 i.value f.1;
    }
