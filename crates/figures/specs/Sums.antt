-- What the lines of a book add up to: counts and plain sums, with no carry and no rounding, so that their order does not matter.
use Rattle.std.specs.Prelude.{ℕ, ◌+◌, ◌*◌, ◌/◌, ◌%◌, ◌≤◌, List, [], ◌∷◌}
use Rattle.fixed_point.specs.declared.Signed.{Signed}
use Rattle.figures.specs.declared.Counts.{Counts}
use Rattle.figures.specs.declared.Money.{Money}
use Rattle.figures.specs.declared.Sums.{Sums}

-- 0, as a signed number and as money
abbrev pub zero_signed : Signed
zero_signed = record { plus = 0; minus = 0 }

abbrev pub zero_money : Money
zero_money = record { cents = 0; parts = 0 }

abbrev pub signed_sum_lem : Signed → Signed → Signed
signed_sum_lem x y = record { plus = x.plus + y.plus; minus = x.minus + y.minus }

abbrev pub money_sum_lem : Money → Money → Money
money_sum_lem x y = record { cents = x.cents + y.cents; parts = x.parts + y.parts }

-- n ten-millionths of a cent
abbrev pub money_of : ℕ → Money
money_of n = record { cents = n / 10000000; parts = n % 10000000 }

-- an amount in ten-millionths of a cent
abbrev pub in_parts : Money → ℕ
in_parts x = x.cents * 10000000 + x.parts

-- the counts of no line
abbrev pub no_counts : Counts
no_counts = record { loans = 0; unscored = 0; fresh = 0; other = 0 }

abbrev pub counts_sum_lem : Counts → Counts → Counts
counts_sum_lem x y = record {
  loans = x.loans + y.loans;
  unscored = x.unscored + y.unscored;
  fresh = x.fresh + y.fresh;
  other = x.other + y.other;
}

-- the sums of no line
abbrev pub no_sums : Sums
no_sums = record {
  counts = no_counts;
  total = zero_signed;
  supplement = zero_signed;
  rest = zero_money;
  moved = zero_money;
  equity = zero_signed;
  aoci = zero_signed;
  b = 0;
  c = 0;
}

-- two sums together, field by field
abbrev pub plus : Sums → Sums → Sums
plus x y = record {
  counts = counts_sum_lem x.counts y.counts;
  total = signed_sum_lem x.total y.total;
  supplement = signed_sum_lem x.supplement y.supplement;
  rest = money_sum_lem x.rest y.rest;
  moved = money_sum_lem x.moved y.moved;
  equity = signed_sum_lem x.equity y.equity;
  aoci = signed_sum_lem x.aoci y.aoci;
  b = x.b + y.b;
  c = x.c + y.c;
}

-- the sum of a list
unfoldable pub sum_of : List Sums → Sums
sum_of [] = no_sums
sum_of (x ∷ xs) = plus x (sum_of xs)

-- Every sum is bounded by a multiple of the lines counted, so that bounded sums add up to bounded sums.
-- A loan's numbers lie within -100,000 and 300,000,000 cents; the largest other line is a derivative.
pub record Bounded (s : Sums) : Type 0 where
  pub unscored : s.counts.unscored ≤ s.counts.loans
  pub fresh : s.counts.fresh ≤ s.counts.loans
  pub total_plus : s.total.plus ≤ 300000000 * s.counts.loans
  pub total_minus : s.total.minus ≤ 100000 * s.counts.loans
  pub supplement_plus : s.supplement.plus ≤ 300000000 * s.counts.loans
  pub supplement_minus : s.supplement.minus ≤ 100000 * s.counts.loans
  pub rest_cents : s.rest.cents ≤ 1610000000000 * s.counts.other
  pub rest_parts : s.rest.parts ≤ 9999999 * s.counts.other
  pub moved_cents : s.moved.cents ≤ 10000000 * s.counts.other
  pub moved_parts : s.moved.parts ≤ 9999999 * s.counts.other
  pub equity_plus : s.equity.plus ≤ 100000000000 * s.counts.other
  pub equity_minus : s.equity.minus ≤ 100000000000 * s.counts.other
  pub aoci_plus : s.aoci.plus ≤ 100000000000 * s.counts.other
  pub aoci_minus : s.aoci.minus ≤ 100000000000 * s.counts.other
  pub b : s.b ≤ 100000000000 * s.counts.other
  pub c : s.c ≤ 100000000000 * s.counts.other

-- as many lines as a book may have (01, "A book, line by line")
pub record InLimits (s : Sums) : Type 0 where
  pub loans : s.counts.loans ≤ 1000000
  pub other : s.counts.other ≤ 100000
