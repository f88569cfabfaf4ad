-- The figures, the limits on capital and the ratio in inequalities. Assumes nothing.
use mathlib.Core.Path.{◌≡◌, refl, sym, subst}
use mathlib.Core.Bool.{Bool, true, false}
use mathlib.Core.Logic.{◌↔◌}
use Prim.Native.Nat.{ℕ, ◌+◌, ◌*◌, ◌-◌, ◌/◌, ◌≤◌, ◌<◌, min}
use native.Mathlib.Nat.{le-div_iff_mul-le}
use native.Mathlib.Omega.{arith}
use borrow.Author.Tests.{eqb-true, eq-eqb}
use lib.Dec.{eqb}
use Rattle.exact.specs.Choice.{pick}
use Rattle.fixed_point.specs.declared.Signed.{Signed}
use Rattle.std.specs.Prelude.{Option, Some, None}
use Rattle.figures.specs.declared.Sums.{Sums}
use Rattle.figures.specs.Figures.{required_of, positive_equity, admitted_b_lem, admitted_c_lem, admitted, capital_of, ratio_size_lem, ratio_of, figures_from}
use Rattle.figures.specs.Words.{Greatest, ReportFigures, FigureWords}

words-b : (e b : ℕ) → Greatest (λ x. (x ≤ b) × (3 * x ≤ 2 * e)) (admitted_b_lem e b)
words-b e b = record { holds = (omega arith, omega arith); most = λ y h. omega (arith, h.0, h.1) }

words-c : (e b c : ℕ) → Greatest (λ x. (x ≤ c) × (3 * (admitted_b_lem e b + x) ≤ 2 * e) × (93 * x ≤ 7 * (e + admitted_b_lem e b))) (admitted_c_lem e (admitted_b_lem e b) c)
words-c e b c = record { holds = (omega arith, omega arith, omega arith); most = λ y h. omega (arith, h.0, h.1, h.2) }

words-none : (capital : Signed) (required : ℕ) → (ratio_of capital required ≡ None) ↔ (required ≡ 0)
unfolding ratio_of
words-none capital required = (λ e. go (eqb required 0) refl e, λ e. rw (eq-eqb required 0 e) refl)
  where
    is_none : Option Signed → Type 0
    is_none (Some x) = ⊥
    is_none None = Unit {0}

    go : (t : Bool) → eqb required 0 ≡ t → pick {A = Option Signed} t None (Some (record {
      plus = ratio_size_lem false (capital.plus - capital.minus) required;
      minus = ratio_size_lem true (capital.minus - capital.plus) required;
    })) ≡ None → required ≡ 0
    go true e f = eqb-true required 0 e
    go false e f = absurd (transport-none f)
      where
        transport-none : {x : Signed} → Some x ≡ None → ⊥
        transport-none g = subst is_none (sym g) tt

words-above : (n d : ℕ) → 1 ≤ d → Greatest (λ x. (x ≤ 10000000) × (x * d ≤ n * 15000)) (ratio_size_lem false n d)
unfolding ratio_size_lem
words-above n d h =
    let pos : 0 < d = omega (arith, h) in
    let few : min 10000000 (n * 15000 / d) ≤ n * 15000 / d = omega arith in
    record {
      holds = (omega arith, (le-div_iff_mul-le pos).0 few);
      most = λ y k. let g : y ≤ n * 15000 / d = (le-div_iff_mul-le pos).1 k.1 in omega (arith, k.0, g);
    }

words-below : (n d : ℕ) → 1 ≤ d → 1 ≤ n → Greatest (λ x. (x ≤ 10000000) × (x * d < n * 15000 + d)) (ratio_size_lem true n d)
unfolding ratio_size_lem
words-below n d h l =
    let pos : 0 < d = omega (arith, h) in
    let up : ℕ = (n * 15000 + (d - 1)) / d in
    let few : min 10000000 up ≤ up = omega arith in
    let crossed : min 10000000 up * d ≤ n * 15000 + (d - 1) = (le-div_iff_mul-le pos).0 few in
    record {
      holds = (omega arith, omega (arith, crossed, h));
      most = λ y k.
          let g : y * d ≤ n * 15000 + (d - 1) = omega (arith, k.1, h) in
          let u : y ≤ up = (le-div_iff_mul-le pos).1 g in
          omega (arith, k.0, u);
    }

-- a difference and its two sides
sides : (p m : ℕ) → (p - m) + m ≡ (m - p) + p
sides p m = omega arith

words-figures : (held rest moved : ℕ) (s : Sums) → ReportFigures held rest moved s (figures_from held rest moved s)
unfolding required_of capital_of admitted
words-figures held rest moved s = record {
  home = record { holds = omega arith; least = λ y h. omega (arith, h) };
  moved_is = refl;
  rest_is = refl;
  oper = record { holds = omega arith; least = λ y h. omega (arith, h) };
  required = refl;
  e = positive_equity s.equity;
  e_is = record { holds = omega arith; least = λ y h. omega (arith, h) };
  capital = sides (s.equity.plus + s.aoci.plus + admitted (positive_equity s.equity) s.b s.c) (s.equity.minus + s.aoci.minus);
}

pub figure_words : FigureWords
figure_words = record { figures = words-figures; b = words-b; c = words-c; none = words-none; above = words-above; below = words-below }
