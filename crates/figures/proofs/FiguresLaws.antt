-- Laws of the report's figures: how large they can be, and that a signed figure has one side 0. Assumes nothing.
use mathlib.Core.Path.{◌≡◌, refl, ap}
use mathlib.Core.Bool.{Bool, true, false}
use Prim.Native.Nat.{ℕ, ◌+◌, ◌-◌, ◌*◌, ◌≤◌, ◌<◌, min}
use native.Mathlib.Decide.{dec_le}
use native.Mathlib.Nat.{div-eq_of_lt, sub-eq-zero_of_le}
use native.Mathlib.Omega.{arith}
use lib.Dec.{eqb}
use borrow.Author.Tests.{eqb-false}
use Rattle.fixed_point.specs.declared.Signed.{Signed}
use Rattle.figures.specs.declared.Sums.{Sums}
use Rattle.std.specs.Prelude.{Some, None}
use Rattle.figures.specs.Sums.{Bounded, InLimits}
use Rattle.exact.specs.Choice.{pick}
use Rattle.figures.specs.Figures.{difference, required_of, positive_equity, admitted, capital_of, ratio_size_lem, ratio_of, figures_of, Within, RatioBounds}
use Rattle.figures.specs.Figures.{FigureBounds}

-- what is admitted of b and c is no more than both
pub admitted-le : (e b c : ℕ) → admitted e b c ≤ b + c
unfolding admitted
admitted-le e b c = omega arith

pub difference-within : (p m x y : ℕ) → x ≤ p → y ≤ m → Within p m (difference x y)
difference-within p m x y h k = omega arith

-- a ratio of 0 is 0 on either side
size-zero : (negative : Bool) (d : ℕ) → 0 < d → ratio_size_lem negative 0 d ≡ 0
unfolding ratio_size_lem
size-zero false d pos = omega (arith, div-eq_of_lt {n = 0} pos)
size-zero true d pos = omega (arith, div-eq_of_lt {n = 0 * 15000 + (d - 1)} {m = d} (omega arith))

size-le : (negative : Bool) (n d : ℕ) → ratio_size_lem negative n d ≤ 10000000
unfolding ratio_size_lem
size-le negative n d = omega arith

pub ratio-bounded : (capital : Signed) (required : ℕ) → RatioBounds (ratio_of capital required)
unfolding ratio_of RatioBounds
ratio-bounded capital required = go (eqb required 0) refl
  where
    above : ℕ
    above = ratio_size_lem false (capital.plus - capital.minus) required

    below : ℕ
    below = ratio_size_lem true (capital.minus - capital.plus) required

    one_side : 0 < required → min above below ≡ 0
    one_side pos =
        elim (dec_le capital.plus capital.minus) [
          | yes h ↦ omega (arith, ap (λ (t : ℕ). ratio_size_lem false t required) (sub-eq-zero_of_le h), size-zero false required pos)
          | no h ↦ omega (
            arith,
            ap (λ (t : ℕ). ratio_size_lem true t required) (sub-eq-zero_of_le {n = capital.minus} {m = capital.plus} (omega arith)),
            size-zero true required pos,
          )
        ]

    go : (t : Bool) → eqb required 0 ≡ t → RatioBounds (pick t None (Some (record { plus = above; minus = below })))
    go true e = tt
    go false e = record {
      above = size-le false (capital.plus - capital.minus) required;
      below =
          size-le true (capital.minus - capital.plus) required;
      one_side = one_side (omega (arith, eqb-false required 0 e));
    }

pub capital-within : (equity aoci : Signed) (b c p m : ℕ) → equity.plus + aoci.plus + (b + c) ≤ p → equity.minus + aoci.minus ≤ m →
    Within p m (capital_of equity aoci b c)
unfolding capital_of
capital-within equity aoci b c p m h k = difference-within p m _ _ (omega (arith, admitted-le (positive_equity equity) b c)) k

pub figures-bounded : (held : ℕ) (s : Sums) → Bounded s → InLimits s → FigureBounds (figures_of held s)
unfolding figures_of required_of
figures-bounded held s h k = record {
  loans = k.loans;
  total = difference-within _ _ s.total.plus s.total.minus (omega arith) (omega arith);
  supplement = difference-within _ _ s.supplement.plus s.supplement.minus (omega arith) (omega arith);
  home = omega arith;
  moved = omega arith;
  rest = omega arith;
  oper = omega arith;
  required = omega arith;
  capital = capital-within s.equity s.aoci s.b s.c _ _ (omega arith) (omega arith);
  ratio = ratio-bounded _ _;
}
