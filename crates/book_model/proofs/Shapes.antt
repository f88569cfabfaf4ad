-- What every line that is no loan adds, beside what it adds exactly: once for all forms. Assumes nothing.
use mathlib.Core.Path.{◌≡◌, refl}
use Prim.Native.Nat.{ℕ, ◌+◌, ◌-◌, ◌*◌, ◌≤◌}
use native.Mathlib.Omega.{arith}
use Rattle.fixed_point.proofs.Laws.{bounded}
use Rattle.fixed_point.specs.declared.Signed.{Signed}
use Rattle.exact.specs.Fraction.{Fraction, whole}
use Rattle.line_forms.specs.declared.Loan.{Loan}
use Rattle.line_forms.specs.declared.Class.{Class}
use Rattle.line_forms.specs.declared.Class.TheVariants.{Home, Multi}
use Rattle.line_forms.specs.declared.Derivative.{Derivative}
use Rattle.line_forms.specs.declared.Asset.{Asset}
use Rattle.line_forms.specs.declared.Item.{Item}
use Rattle.line_forms.specs.declared.Item.TheVariants.{Claims, Lossc, Stated, Equity, Aoci, B, C}
use Rattle.line_forms.specs.declared.Content.{Content}
use Rattle.line_forms.specs.declared.Content.TheVariants.{Header as header, Loan as loan, Policy as policy, Derivative as derivative, Asset as asset}
use Rattle.line_forms.specs.declared.Content.TheVariants.{Amount as amount, Index as index, Mark as mark, NoForm}
use Rattle.other_charges.specs.Charges.{claims_percent, loss_components_percent, stated_percent, provision_tenths_lem, add_on_thousandths}
use Rattle.other_charges.specs.Parts.{asset_parts_lem, derivative_parts_lem, provision_parts_lem}
use Rattle.other_charges.proofs.ChargeLaws.{InParts, asset-is, share-is, derivative-is, provision-is, multi-provision-is, tenths-bounded, add-on-bounded}
use Rattle.figures.specs.declared.Sums.{Sums}
use Rattle.figures.specs.Sums.{no_sums, zero_signed, money_of, Bounded}
use Rattle.book_model.specs.Exact.{ExactShare, exact_other, nothing, exact_policy, exact_amount, exact_share}
use Rattle.book_model.specs.HouseIndex.{index_line}
use Rattle.book_model.specs.LineKinds.{another, content_kind, kind_counts}
use Rattle.book_model.specs.Ranges.{Ranged, DerivativeRanges, AssetRanges}
use Rattle.book_model.specs.Share.{other_share, multi_factor, policy_share, derivative_share, asset_share, amount_share, share}
use Rattle.book_model.specs.Terms.{Basis}

-- sums beside exact ones: rest and moved in ten-millionths are the exact charges; what goes to capital is bounded where the numbers are
pub record Adds (s : Sums) (x : ExactShare) (InRange : Type 0) : Type 0 where
  pub rest : ℕ
  pub moved : ℕ
  pub equity : Signed
  pub aoci : Signed
  pub b : ℕ
  pub c : ℕ
  pub exact_rest_law : Fraction
  pub exact_moved_law : Fraction
  pub sums : s ≡ other_share (money_of rest) (money_of moved) equity aoci b c
  pub exactly : x ≡ exact_other exact_rest_law exact_moved_law
  pub rest_is : InParts exact_rest_law rest
  pub moved_is : InParts exact_moved_law moved
  pub bounds : InRange → Bounded (other_share (money_of rest) (money_of moved) equity aoci b c)

pub no-parts : InParts (whole 0) 0
no-parts = record { proper = record { positive = omega arith }; same = record { crossed = refl } }

-- the largest charge of a line, in ten-millionths: a derivative's
abbrev largest : ℕ
largest = 16000000000000000000

-- to rest alone, to moved alone, to capital alone
adds-rest : {R : Type 0} (x : Fraction) (n : ℕ) → InParts x n → (R → n ≤ largest) →
    Adds (other_share (money_of n) (money_of 0) zero_signed zero_signed 0 0) (exact_other x (whole 0)) R
unfolding kind_counts
adds-rest x n p h = record {
  rest = n;
  moved = 0;
  equity = zero_signed;
  aoci = zero_signed;
  b = 0;
  c = 0;
  exact_rest_law = x;
  exact_moved_law = whole 0;
  sums = refl;
  exactly = refl;
  rest_is = p;
  moved_is = no-parts;
  bounds = λ r. let k : n ≤ largest = h r in omega arith;
}

adds-moved : {R : Type 0} (x : Fraction) (n : ℕ) → InParts x n → (R → n ≤ 100000000 * 60 * 12500) →
    Adds (other_share (money_of 0) (money_of n) zero_signed zero_signed 0 0) (exact_other (whole 0) x) R
unfolding kind_counts
adds-moved x n p h = record {
  rest = 0;
  moved = n;
  equity = zero_signed;
  aoci = zero_signed;
  b = 0;
  c = 0;
  exact_rest_law = whole 0;
  exact_moved_law = x;
  sums = refl;
  exactly = refl;
  rest_is = no-parts;
  moved_is = p;
  bounds = λ r. let k : n ≤ 100000000 * 60 * 12500 = h r in omega arith;
}

-- amounts of capital that are in range
pub record CapitalInRange (equity aoci : Signed) (b c : ℕ) : Type 0 where
  pub equity_plus : equity.plus ≤ 100000000000
  pub equity_minus : equity.minus ≤ 100000000000
  pub aoci_plus : aoci.plus ≤ 100000000000
  pub aoci_minus : aoci.minus ≤ 100000000000
  pub b_most : b ≤ 100000000000
  pub c_most : c ≤ 100000000000

adds-capital : {R : Type 0} (equity aoci : Signed) (b c : ℕ) → (R → CapitalInRange equity aoci b c) →
    Adds (other_share (money_of 0) (money_of 0) equity aoci b c) nothing R
unfolding kind_counts
adds-capital equity aoci b c h = record {
  rest = 0;
  moved = 0;
  equity = equity;
  aoci = aoci;
  b = b;
  c = c;
  exact_rest_law = whole 0;
  exact_moved_law = whole 0;
  sums = refl;
  exactly = refl;
  rest_is = no-parts;
  moved_is = no-parts;
  bounds = λ r. let k : CapitalInRange equity aoci b c = h r in omega arith;
}

-- Charges in ten-millionths are bounded.
provision-small : (premium term completed scale : ℕ) → premium ≤ 100000000 → scale ≤ 12500 →
    provision_parts_lem premium term completed scale ≤ 100000000 * 60 * 12500
provision-small premium term completed scale h k =
    bounded (premium * provision_tenths_lem term completed) scale (100000000 * 60) 12500
    (bounded premium (provision_tenths_lem term completed) 100000000 60 h (tenths-bounded term completed)) k

derivative-small : (d : Derivative) → DerivativeRanges d →
    derivative_parts_lem d.kind (d.cost.plus - d.cost.minus) d.notional d.months d.payments d.factor ≤ 1600000000000000 * 10000
derivative-small d r =
    let a : ℕ = add_on_thousandths d.kind d.months in
    let h : d.notional * add_on_thousandths d.kind d.months * d.payments ≤ 100000000000 * 150 * 100 =
    bounded (d.notional * a) d.payments (100000000000 * 150) 100
    (bounded d.notional a 100000000000 150 r.notional (add-on-bounded d.kind d.months)) r.payments in
    bounded ((d.cost.plus - d.cost.minus) * 1000 + d.notional * add_on_thousandths d.kind d.months * d.payments) d.factor 1600000000000000 10000
    (omega (arith, h, r.cost)) r.factor

asset-small : (a : Asset) → AssetRanges a → asset_parts_lem a.amount a.factor ≤ 100000000000 * 10000 * 1000
asset-small a r = omega (arith, bounded a.amount a.factor 100000000000 10000 r.amount r.factor)

policy-adds : (k : Class) (premium term completed : ℕ) → Adds (policy_share k premium term completed) (exact_policy k premium term completed)
    (premium ≤ 100000000)
unfolding policy_share exact_policy
policy-adds Home premium term completed =
    adds-moved _ _ (provision-is premium term completed) (λ r. provision-small premium term completed 10000 r (omega arith))
policy-adds Multi premium term completed =
    adds-rest _ _ (multi-provision-is premium term completed) (λ r. omega (arith, provision-small premium term completed multi_factor r (omega arith)))

-- an amount in range
pub record AmountInRange (x : Signed) : Type 0 where
  pub plus : x.plus ≤ 100000000000
  pub minus : x.minus ≤ 100000000000

amount-adds : (i : Item) (x : Signed) → Adds (amount_share i x) (exact_amount i x.plus) (AmountInRange x)
unfolding amount_share exact_amount
amount-adds Claims x = adds-rest _ _ (share-is x.plus claims_percent) (λ r. omega arith)
amount-adds Lossc x = adds-rest _ _ (share-is x.plus loss_components_percent) (λ r. omega arith)
amount-adds Stated x = adds-rest _ _ (share-is x.plus stated_percent) (λ r. omega arith)
amount-adds Equity x = adds-capital x zero_signed 0 0 (λ r. omega arith)
amount-adds Aoci x = adds-capital zero_signed x 0 0 (λ r. omega arith)
amount-adds B x = adds-capital zero_signed zero_signed x.plus 0 (λ r. omega arith)
amount-adds C x = adds-capital zero_signed zero_signed 0 x.plus (λ r. omega arith)

-- within a weaker range
adds-within : {s : Sums} {x : ExactShare} {Q R : Type 0} → (R → Q) → Adds s x Q → Adds s x R
adds-within f a = record {
  rest = a.rest;
  moved = a.moved;
  equity = a.equity;
  aoci = a.aoci;
  b = a.b;
  c = a.c;
  exact_rest_law = a.exact_rest_law;
  exact_moved_law = a.exact_moved_law;
  sums = a.sums;
  exactly = a.exactly;
  rest_is = a.rest_is;
  moved_is = a.moved_is;
  bounds = λ r. a.bounds (f r);
}

-- The data of a line: a loan's, another form's that adds to the sums, or such as adds nothing.
pub data Shape (g : Basis) : Content → Type 0 where
  of_loan : (l : Loan) → Shape g (loan l)
  of_other : {c : Content} → ((n : ℕ) → content_kind n c ≡ another) → index_line c ≡ 0 → Adds (share g c) (exact_share g c) (Ranged c) → Shape g c
  of_none : {c : Content} → ((n : ℕ) → kind_counts (content_kind n c) ≡ record { loans = 0; unscored = 0; fresh = 0; other = index_line c }) → share g c ≡ no_sums →
      exact_share g c ≡ nothing → Shape g c

pub shape : (g : Basis) (c : Content) → Shape g c
unfolding content_kind kind_counts share derivative_share asset_share exact_share
shape g (header h) = of_none (λ n. refl) refl refl
shape g (loan l) = of_loan l
shape g (policy p) = of_other {c = policy p} (λ n. refl) refl (adds-within (λ r. r.premium) (policy-adds p.class p.premium p.term p.completed))
shape g (derivative d) =
    of_other {c = derivative d} (λ n. refl) refl (adds-rest _ _
    (derivative-is d.kind d.cost.plus d.cost.minus d.notional d.months d.payments d.factor)
    (λ r. omega (arith, derivative-small d r)))
shape g (asset a) = of_other {c = asset a} (λ n. refl) refl (adds-rest _ _ (asset-is a.amount a.factor) (λ r. omega (arith, asset-small a r)))
shape g (amount a) =
    of_other {c = amount a} (λ n. refl) refl (adds-within (λ r. record { plus = r.plus; minus = r.minus }) (amount-adds a.item a.amount))
shape g (index i) = of_none {c = index i} (λ n. refl) refl refl
shape g (mark m) = of_none {c = mark m} (λ n. refl) refl refl
shape g NoForm = of_none (λ n. refl) refl refl
