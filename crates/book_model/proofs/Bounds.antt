-- The required amount lies near the exact requirement when the loans' sums and the rest do.
-- Assumes nothing.
use Prim.Native.Nat.{ℕ, ◌+◌, ◌-◌, ◌*◌, ◌/◌, ◌≤◌}
use native.Mathlib.Nat.{mul-le-mul_left, mul-lt-mul_of_pos_left, mul-pos}
use native.Mathlib.Omega.{arith}
use Rattle.exact.specs.Fraction.{Fraction, Proper, quotient, whole, negated, ◌⊕◌, ◌⊖◌, ◌⊗◌, ◌≼◌, ◌≺◌, ◌≈◌, larger, ceiling}
use Rattle.exact.proofs.Fractions
use Rattle.exact.proofs.Fractions.{Nonnegative}
use Rattle.exact.proofs.Within.{Within, within-sum, within-negated, within-trans, within-alike, within-larger, within-product, within-ceiling, within_same}
use Rattle.book_model.specs.Requirement.{exact_home, exact_oper, exact_required}

-- plus - minus, a whole number
abbrev pub signed_whole : ℕ → ℕ → Fraction
signed_whole p m = record { plus = p; minus = m; over = 1 }

-- home and oper of document 01 in whole cents
abbrev pub whole_home : (p m held : ℕ) → ℕ
whole_home p m held = p - (m + held)

abbrev pub whole_oper : (home rest p m : ℕ) → ℕ
whole_oper home rest p m = (home + rest + m - p + 4) / 5

home-is : (p m held : ℕ) → larger (signed_whole p m ⊖ whole held) (whole 0) ≈ whole (whole_home p m held)
home-is p m held = record { crossed = omega arith }

oper-within : (home rest p m : ℕ) → Within (larger (whole home ⊕ whole rest ⊖ signed_whole p m) (whole 0) ⊗ quotient 1 5) (whole (whole_oper home rest p m))
    (quotient 4 5)
oper-within home rest p m =
    record {
      lower = record { positive = omega arith };
      upper = record { positive = omega arith };
      width = record { positive = omega arith };
      at_most = record { crossed = omega arith };
      near = record { crossed = omega arith };
    }

abbrev pub whole_required : (tp tm sp sm held rest : ℕ) → ℕ
whole_required tp tm sp sm held rest = whole_home tp tm held + rest + whole_oper (whole_home tp tm held) rest sp sm

-- x + a is below x + b where a is below b
below_right : {x a b : Fraction} → Proper x → a ≺ b → x ⊕ a ≺ x ⊕ b
below_right {x} {a} {b} p h = record { crossed = omega (arith, mul-lt-mul_of_pos_left h.crossed (mul-pos p.positive p.positive)) }

-- With the loans' sums within a: the distance of home + rest, and of oper
abbrev width_of_sum : Fraction → Fraction
width_of_sum a = a ⊕ whole 0 ⊕ whole 1

abbrev width_of_oper : Fraction → Fraction
width_of_oper a = (width_of_sum a ⊕ a) ⊗ quotient 1 5 ⊕ quotient 4 5

module _ (total supplement rest a : Fraction) (held tp tm sp sm : ℕ)
    (wide : Nonnegative a)
    (near_total : Within total (signed_whole tp tm) a)
    (near_supplement : Within (signed_whole sp sm) supplement a)
    (proper-rest : Proper rest)
    (nonnegative-rest : Nonnegative rest) where
  home-within : Within (exact_home total held) (whole (whole_home tp tm held)) (a ⊕ whole 0)
  unfolding exact_home
  home-within =
      within-alike
      (Fractions.proper-larger (Fractions.proper-sum near_total.lower (record { positive = omega arith })) (record { positive = omega arith }))
      (record { positive = omega arith }) (Fractions.same_refl (exact_home total held)) (home-is tp tm held)
      (within-larger (record { positive = omega arith }) (record { above = omega (arith, wide.above) })
      (within-sum near_total (within_same (record { positive = omega arith }) (record { positive = omega arith })
      (Fractions.same_refl (negated (whole held))))))

  sum-within : Within (exact_home total held ⊕ rest) (whole (whole_home tp tm held) ⊕ whole (ceiling rest)) (width_of_sum a)
  sum-within = within-sum home-within (within-ceiling proper-rest nonnegative-rest)

  oper-near : Within (exact_oper (exact_home total held) rest supplement) (whole (whole_oper (whole_home tp tm held) (ceiling rest) sp sm)) (width_of_oper a)
  unfolding exact_oper
  oper-near =
      within-trans
      (within-product (quotient 1 5) (record { positive = omega arith }) (record { above = omega arith })
      (within-larger (record { positive = omega arith }) (Fractions.nonnegative-sum
      (Fractions.nonnegative-sum (Fractions.nonnegative-sum wide (record { above = omega arith })) (record { above = omega arith })) wide)
      (within-sum sum-within (within-negated near_supplement))))
      (oper-within (whole_home tp tm held) (ceiling rest) sp sm)

  required-within : Within (exact_required total supplement rest held) (whole (whole_required tp tm sp sm held (ceiling rest))) (width_of_sum a ⊕ width_of_oper a)
  unfolding exact_required
  required-within =
      within-alike (Fractions.proper-sum sum-within.lower oper-near.lower) (record { positive = omega arith })
      (Fractions.same_refl _) (record { crossed = omega arith })
      (within-sum sum-within oper-near)

-- With each number of n loans within g hundredths of a cent, the required amount is not below the exact one,
-- and above it by less than k hundredths a loan and 3 cents, where k is at least 1.4 g.
pub record Near (exact : Fraction) (required k n : ℕ) : Type 0 where
  pub proper : Proper exact
  pub not_below : exact ≼ whole required
  pub close : whole required ≺ exact ⊕ quotient (k * n + 300) 100

pub required-near : (g k n : ℕ) → 140 * g ≤ 100 * k → (total supplement rest : Fraction) (held tp tm sp sm : ℕ) →
    Within total (signed_whole tp tm) (quotient (g * n) 100) → Within (signed_whole sp sm) supplement (quotient (g * n) 100) → Proper rest → Nonnegative rest →
    Near (exact_required total supplement rest held) (whole_required tp tm sp sm held (ceiling rest)) k n
required-near g k n h total supplement rest held tp tm sp sm near_total near_supplement p r =
    let w : Within (exact_required total supplement rest held) (whole (whole_required tp tm sp sm held (ceiling rest)))
    (width_of_sum (quotient (g * n) 100) ⊕ width_of_oper (quotient (g * n) 100)) =
    required-within total supplement rest (quotient (g * n) 100) held tp tm sp sm (record { above = omega arith }) near_total near_supplement p r in
    record {
      proper = w.lower;
      not_below = w.at_most;
      close = Fractions.at-most-below w.upper (Fractions.proper-sum w.lower w.width) w.near
          (below_right w.lower (record { crossed = omega (arith, mul-le-mul_left n h) }));
    }
