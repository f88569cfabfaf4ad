-- Laws of a division in steps, and of its rounding. Assumes nothing.
use mathlib.Core.Path.{◌≡◌, sym, ap, ◌∙◌}
use mathlib.Core.Bool.{Bool, true, false}
use Prim.Native.Nat.{ℕ, ◌+◌, ◌*◌, ◌/◌, ◌%◌, ◌≤◌, ◌<◌, min}
use native.Mathlib.Decide.{dec_le}
use native.Mathlib.Nat.{div-eq_of_lt-le, div-add-mod', mod-lt, div-lt_iff_lt-mul, le-div_iff_mul-le, min-eq_left, min-eq_right}
use native.Mathlib.Omega.{arith}
use Rattle.fixed_point.specs.declared.Division.{Division}
use Rattle.fixed_point.specs.Quotient.{division_step_lem}
use Rattle.figures.specs.Division.{divided}
use Rattle.figures.specs.Figures.{rounded, ratio_size_lem}

-- a quotient and a remainder below the divisor are those of a division
pub unique : (q r x d : ℕ) → r < d → q * d + r ≡ x → (q ≡ x / d) × (r ≡ x % d)
unique q r x d h e =
    let quotient : x / d ≡ q = div-eq_of_lt-le d (omega arith) (omega arith)
    in (sym quotient, omega (arith, div-add-mod' x d, ap (λ (t : ℕ). t * d) quotient))

-- a step of a division is the division of a multiple
pub step : (x d f : ℕ) → 0 < d → division_step_lem (divided x d) d f ≡ divided (x * f) d
step x d f h =
    let e = unique (x / d * f + x % d * f / d) (x % d * f % d) (x * f) d (mod-lt (x % d * f) h)
    (omega (arith, div-add-mod' (x % d * f) d, ap (λ (t : ℕ). t * f) (div-add-mod' x d)))
    in λ i. record { quotient = e.0 i; remainder = e.1 i }

pub step_gives : (x d : ℕ) (a b : Division) → a ≡ divided x d → 0 < d → b ≡ division_step_lem a d 10 → b ≡ divided (x * 10) d
step_gives x d a b e pos s = s ∙ ap (λ (t : Division). division_step_lem t d 10) e ∙ step x d 10 pos

-- rounded up, from the quotient and the remainder
pub rounded-up : (y d : ℕ) → 0 < d → rounded true y d ≡ y / d + min (y % d) 1
rounded-up y d pos =
    let whole : y / d * d + y % d ≡ y = div-add-mod' y d in
    let rest : y % d < d = mod-lt y pos in
    elim (dec_le 1 (y % d)) [
      | yes h ↦ rw (min-eq_right h) (div-eq_of_lt-le d (omega arith) (omega arith))
      | no h ↦ let none : y % d ≡ 0 = omega arith in rw none (div-eq_of_lt-le d (omega arith) (omega arith))
    ]

-- the size of a ratio, where n × 15 / d reaches 10,000 and where it does not
pub size-limit : (negative : Bool) (n d : ℕ) → 0 < d → 10000 ≤ n * 15 / d → ratio_size_lem negative n d ≡ 10000000
unfolding ratio_size_lem
size-limit false n d pos h = min-eq_left ((le-div_iff_mul-le pos).1 (omega (arith, (le-div_iff_mul-le pos).0 h)))
size-limit true n d pos h = min-eq_left ((le-div_iff_mul-le pos).1 (omega (arith, (le-div_iff_mul-le pos).0 h)))

module _ (n d : ℕ) (pos : 0 < d) (h : n * 15 / d < 10000) where
  pub quotient-small : n * 15000 / d < 10000000
  quotient-small = (div-lt_iff_lt-mul pos).1 (omega (arith, (div-lt_iff_lt-mul pos).0 h))

  pub size-down : ratio_size_lem false n d ≡ n * 15000 / d
  unfolding ratio_size_lem
  size-down = omega (arith, quotient-small)

  pub size-up : ratio_size_lem true n d ≡ n * 15000 / d + min (n * 15000 % d) 1
  unfolding ratio_size_lem
  size-up = rw (rounded-up (n * 15000) d pos) (omega (arith, quotient-small))
