-- The figures, the limits on capital and the ratio (01, "The rest, and closing") in inequalities, without a quotient and without a difference that
-- ends at 0: Figures.antt says the same by these.
use Rattle.std.specs.Prelude.{ℕ, ◌+◌, ◌*◌, ◌≤◌, ◌<◌, true, false, ◌↔◌, ◌≡◌, None}
use Rattle.fixed_point.specs.declared.Signed.{Signed}
use Rattle.figures.specs.declared.Figures.{Figures}
use Rattle.figures.specs.declared.Sums.{Sums}
use Rattle.figures.specs.Figures.{admitted_b_lem, admitted_c_lem, ratio_size_lem, ratio_of, figures_from}

-- x is the greatest number of which `Holds` is true
pub record Greatest (Holds : ℕ → Type 0) (x : ℕ) : Type 0 where
  pub holds : Holds x
  pub most : (y : ℕ) → Holds y → y ≤ x

-- and the least
pub record Least (Holds : ℕ → Type 0) (x : ℕ) : Type 0 where
  pub holds : Holds x
  pub least : (y : ℕ) → Holds y → x ≤ y

-- the figures f of the sums s, with held, rest and moved in whole cents
pub record ReportFigures (held rest moved : ℕ) (s : Sums) (f : Figures) : Type 0 where
  -- "home = the larger of total - held and 0"
  pub home : Least (λ x. s.total.plus ≤ s.total.minus + held + x) f.home
  pub moved_is : f.moved ≡ moved
  pub rest_is : f.rest ≡ rest
  -- "the larger of home + rest - supplement and 0, divided by 5, rounded up"
  pub oper : Least (λ x. f.home + f.rest + s.supplement.minus ≤ 5 * x + s.supplement.plus) f.oper
  pub required : f.required ≡ f.home + f.rest + f.oper
  -- "capital = equity + aoci + both", with e "equity, or 0 if that is negative"
  pub e : ℕ
  pub e_is : Least (λ x. s.equity.plus ≤ s.equity.minus + x) e
  pub capital : f.capital.plus + (s.equity.minus + s.aoci.minus) ≡
      f.capital.minus + (s.equity.plus + s.aoci.plus + (admitted_b_lem e s.b + admitted_c_lem e (admitted_b_lem e s.b) s.c))

pub record FigureWords : Type 0 where
  pub figures : (held rest moved : ℕ) (s : Sums) → ReportFigures held rest moved s (figures_from held rest moved s)
  -- admitted b: the smaller of b and 2e/3
  pub b : (e b : ℕ) → Greatest (λ x. (x ≤ b) × (3 * x ≤ 2 * e)) (admitted_b_lem e b)
  -- admitted c: the smallest of c, what admitted b leaves of 2e/3, and 7(e + admitted b)/93
  pub c : (e b c : ℕ) → Greatest (λ x. (x ≤ c) × (3 * (admitted_b_lem e b + x) ≤ 2 * e) × (93 * x ≤ 7 * (e + admitted_b_lem e b))) (admitted_c_lem e (admitted_b_lem e b) c)
  -- the ratio: none when required is 0, and only then
  pub none : (capital : Signed) (required : ℕ) → (ratio_of capital required ≡ None) ↔ (required ≡ 0)
  -- its size for a capital of n at or above 0: n × 15,000 / required rounded down, held within 10,000,000
  pub above : (n required : ℕ) → 1 ≤ required → Greatest (λ x. (x ≤ 10000000) × (x * required ≤ n * 15000)) (ratio_size_lem false n required)
  -- for a capital of n below 0: rounded toward minus infinity, so the size is rounded up: the greatest x with x - 1 below the quotient
  pub below : (n required : ℕ) → 1 ≤ required → 1 ≤ n →
      Greatest (λ x. (x ≤ 10000000) × (x * required < n * 15000 + required)) (ratio_size_lem true n required)
