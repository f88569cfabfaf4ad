-- The report's figures (01, "The rest, and closing"), in whole cents. A difference of natural numbers is 0 where it would be negative,
-- so a - b is "the larger of a - b and 0"; a signed number is plus - minus.
use Rattle.std.specs.Prelude.{ℕ, ◌+◌, ◌-◌, ◌*◌, ◌/◌, ◌≤◌, min, ◌≡◌, Bool, true, false, eqb, Option, Some, None}
use Rattle.exact.specs.Choice.{pick}
use Rattle.fixed_point.specs.declared.Signed.{Signed}
use Rattle.figures.specs.declared.Money.{Money}
use Rattle.figures.specs.declared.Sums.{Sums}
use Rattle.figures.specs.declared.Figures.{Figures}
use Rattle.figures.specs.Sums.{in_parts}

-- the number plus - minus, with one side 0
abbrev pub difference : ℕ → ℕ → Signed
difference plus minus = record { plus = plus - minus; minus = minus - plus }

-- rest and moved: an exact amount, rounded up once
abbrev pub whole_cents_lem : Money → ℕ
whole_cents_lem x = (in_parts x + 9999999) / 10000000

-- home: the larger of total - held and 0
abbrev pub home_of : Signed → ℕ → ℕ
home_of total held = total.plus - (total.minus + held)

-- oper: the larger of home + rest - supplement and 0, divided by 5, rounded up
abbrev pub oper_of : ℕ → ℕ → Signed → ℕ
oper_of home rest supplement = (home + rest + supplement.minus - supplement.plus + 4) / 5

-- required: home + rest + oper, from total, held, rest and supplement
unfoldable pub required_of : Signed → ℕ → ℕ → Signed → ℕ
required_of total held rest supplement = home_of total held + rest + oper_of (home_of total held) rest supplement

-- e of 01: equity, or 0 if that is negative
abbrev pub positive_equity : Signed → ℕ
positive_equity equity = equity.plus - equity.minus

-- admitted b: the smaller of b and 2e/3 rounded down
abbrev pub admitted_b_lem : ℕ → ℕ → ℕ
admitted_b_lem e b = min b (2 * e / 3)

-- admitted c: the smallest of c, 2e/3 rounded down less admitted b, and 7(e + admitted b)/93 rounded down
abbrev pub admitted_c_lem : ℕ → ℕ → ℕ → ℕ
admitted_c_lem e admitted-b c = min c (min (2 * e / 3 - admitted-b) (7 * (e + admitted-b) / 93))

-- both admitted amounts together, from e, b and c
unfoldable pub admitted : ℕ → ℕ → ℕ → ℕ
admitted e b c = admitted_b_lem e b + admitted_c_lem e (admitted_b_lem e b) c

-- capital: equity + aoci + both admitted amounts; equity and aoci keep their signs
unfoldable pub capital_of : Signed → Signed → ℕ → ℕ → Signed
capital_of equity aoci b c = difference (equity.plus + aoci.plus + admitted (positive_equity equity) b c) (equity.minus + aoci.minus)

-- The size of x / d rounded toward minus infinity, where the number is at or above 0 (false) or below 0 (true): down, or up.
abbrev pub rounded : Bool → ℕ → ℕ → ℕ
rounded false x d = x / d
rounded true x d = (x + (d - 1)) / d

-- the size of a ratio of capital n to required, in hundredths of a per cent, held within 10,000,000
unfoldable pub ratio_size_lem : Bool → ℕ → ℕ → ℕ
ratio_size_lem negative n required = min 10000000 (rounded negative (n * 15000) required)

-- ratio (002, 1.1.1: the required amount is divided by 1.5): capital × 15,000 / required, in hundredths of a per cent, rounded down toward
-- minus infinity, held within ±10,000,000; none when required is 0
unfoldable pub ratio_of : Signed → ℕ → Option Signed
ratio_of capital required =
    pick (eqb required 0) None
    (Some (record {
      plus = ratio_size_lem false (capital.plus - capital.minus) required;
      minus = ratio_size_lem true (capital.minus - capital.plus) required;
    }))

-- the report's figures, from the header's held, rest and moved in whole cents, and the other sums of the lines
abbrev pub figures_from : (held rest moved : ℕ) → Sums → Figures
figures_from held rest moved s =
    let required = required_of s.total held rest s.supplement in
    let capital = capital_of s.equity s.aoci s.b s.c in
    record {
      loans = s.counts.loans;
      total = difference s.total.plus s.total.minus;
      supplement = difference s.supplement.plus s.supplement.minus;
      home = home_of s.total held;
      moved = moved;
      rest = rest;
      oper = oper_of (home_of s.total held) rest s.supplement;
      required = required;
      capital = capital;
      ratio = ratio_of capital required;
    }

-- the same with rest and moved rounded up once
unfoldable pub figures_of : ℕ → Sums → Figures
figures_of held s = figures_from held (whole_cents_lem s.rest) (whole_cents_lem s.moved) s

-- a signed figure at most p above 0 and at most m below, with one side 0
pub record Within (p m : ℕ) (x : Signed) : Type 0 where
  pub above : x.plus ≤ p
  pub below : x.minus ≤ m
  pub one_side : min x.plus x.minus ≡ 0

-- a ratio within ±10,000,000
unfoldable pub RatioBounds : Option Signed → Type 0
RatioBounds (Some x) = Within 10000000 10000000 x
RatioBounds None = Unit {0}

-- how large the figures of a book can be: none has more than 18 digits
pub record FigureBounds (f : Figures) : Type 0 where
  pub loans : f.loans ≤ 1000000
  pub total : Within 300000000000000 100000000000 f.total
  pub supplement : Within 300000000000000 100000000000 f.supplement
  pub home : f.home ≤ 300000000000000
  pub moved : f.moved ≤ 2000000000000
  pub rest : f.rest ≤ 162000000000000000
  pub oper : f.oper ≤ 33000000000000000
  pub required : f.required ≤ 200000000000000000
  pub capital : Within 40000000000000000 20000000000000000 f.capital
  pub ratio : RatioBounds f.ratio
