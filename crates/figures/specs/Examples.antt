-- Document 01's proved examples 10, 11 and 12, as far as they concern figures.
use Rattle.std.specs.Prelude.{◌≡◌, ◌*◌, Some}
use Rattle.figures.specs.declared.Sums.{Sums}
use Rattle.figures.specs.declared.Figures.{Figures}
use Rattle.figures.specs.Sums.{zero_signed, zero_money, money_sum_lem, money_of}
use Rattle.figures.specs.Figures.{positive_equity, admitted_b_lem, admitted_c_lem, figures_of}

-- example 12: an asset of 100,000 at 25 ten-thousandths, claims of 1,001 at 20%, equity 1,000, c 100
abbrev pub sums12 : Sums
sums12 = record {
  counts = record { loans = 0; unscored = 0; fresh = 0; other = 4 };
  total = zero_signed;
  supplement = zero_signed;
  rest = money_sum_lem (money_of (100000 * 25 * 1000)) (money_of (1001 * 2000000));
  moved = zero_money;
  equity = record { plus = 1000; minus = 0 };
  aoci = zero_signed;
  b = 0;
  c = 100;
}

abbrev pub figures12 : Figures
figures12 = record {
  loans = 0;
  total = zero_signed;
  supplement = zero_signed;
  home = 0;
  moved = 0;
  rest = 451;
  oper = 91;
  required = 542;
  capital = record { plus = 1075; minus = 0 };
  ratio = Some (record { plus = 29750; minus = 0 });
}

pub record Examples : Type 0 where
  -- 10: equity 600, b 500, c 100
  pub b_10 : admitted_b_lem (positive_equity (record { plus = 600; minus = 0 })) 500 ≡ 400
  pub c_10 : admitted_c_lem (positive_equity (record { plus = 600; minus = 0 })) 400 100 ≡ 0
  -- 11: equity 9,300, c 1,000
  pub b_11 : admitted_b_lem (positive_equity (record { plus = 9300; minus = 0 })) 0 ≡ 0
  pub c_11 : admitted_c_lem (positive_equity (record { plus = 9300; minus = 0 })) 0 1000 ≡ 700
  pub figures_12 : figures_of 0 sums12 ≡ figures12
