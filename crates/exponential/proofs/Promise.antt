-- The table's rule in the words of document 01. Assumes nothing.
use Prim.Native.Nat.{ℕ, suc, ◌+◌, ◌*◌, ◌-◌, ◌^◌, ◌≤◌, ◌<◌}
use mathlib.Core.Path.{◌≡◌, refl}
use mathlib.Core.List.Memᴰ
use mathlib.Core.List.{[], ◌∷◌, Memᴰ}
use mathlib.Core.Logic.{⊎_elim, ◌⊎◌, inl, inr}
use native.Mathlib.Nat.{lt_of_mul-lt-mul_right, lt_of_lt_of_le, le_of_mul-le-mul_left, mul-le-mul_left, mul-le-mul_right}
use native.Mathlib.Omega.{arith}
use Rattle.exact.specs.Fraction.{Fraction, Proper, quotient, whole, ◌⊕◌, ◌⊗◌, ◌≼◌, ◌≈◌}
use Rattle.exact.specs.Exponential.{bracket_high, Allowed, InBracket}
use Rattle.exact.proofs.Bridge.{At, high_is, high-proper, low-is, low-proper, allowed_of}
use Rattle.exact.proofs.Fractions
use Rattle.exact.proofs.Quantities.{Exponent, Exponents, at-every-order, mapped, some-allowed}
use Rattle.exact.proofs.Sums.{num, den, tailed, num_pos}
use Rattle.exact.proofs.Enclosure.{Above, Below, above_from}
use Rattle.exponential.specs.Table.{entry}
use Rattle.exponential.proofs.Rule.{Least}
use Rattle.exponential.specs.Exponential.{exp_upper_lem}
use Rattle.exponential.specs.Promise.{multiple, exponent_of_lem, LeastNotBelow, TableRule, Encloses, NearFrom, Promise}
use Rattle.exponential.proofs.Laws
use lib.Dec.{lit<}
use Rattle.exponential.proofs.Entries.{rule}

at_quotient : (a d : ℕ) → 0 < d → At (quotient a d) a d
at_quotient a d h = record { proper = record { positive = h }; positive = h; same = Fractions.same_refl (quotient a d) }

-- what holds of the one element of a list holds of each
only : {z : Fraction} (y : Fraction) → Memᴰ y (z ∷ []) → (P : Fraction → Type 0) → P z → P y
only {z} y m P p = ⊎_elim (λ (e : y ≡ z). rw e p) (λ k. absurd (Memᴰ.not-nil k)) (Memᴰ.cases_cons m)

-- the one exponent of g × exp(-y)
exponents : (a d : ℕ) → 0 < d → Exponents (quotient a d ∷ [])
exponents a d h y m = only y m Exponent (record { proper = record { positive = h }; nonnegative = omega arith })

-- g × 1 / E(m)
value-is : (g a d m : ℕ) → 0 < d → whole g ⊗ bracket_high m (quotient a d) ≈ quotient (g * den d m) (num a d m)
value-is g a d m h =
    Fractions.same-trans
    (Fractions.proper-product (record { positive = omega arith }) (Fractions.proper-quotient (den d m) (num_pos a d h m)))
    (Fractions.same-product (record { positive = omega arith }) (high-proper (at_quotient a d h) m) (Fractions.same_refl (whole g))
    (high_is (at_quotient a d h) m))
    (record { crossed = omega arith })

-- A whole number not below g × exp(-y) at an order at which t - 1 is below the bracket is at least t.
reaches : (s t g a d n : ℕ) → 0 < d → (v : Fraction) → InBracket n (quotient a d) v → whole g ⊗ v ≼ whole s → (t - 1) * tailed a d n < g * den d (suc n) → t ≤ s
reaches s t g a d n h v b below outside =
    let low : quotient (den d (suc n)) (tailed a d n) ≼ v =
    Fractions.at-most-trans (low-proper (at_quotient a d h) n) (Fractions.at-most-of-same (Fractions.same-sym (low-is (at_quotient a d h) n))) b.low in
    let whole-low : g * den d (suc n) ≤ s * tailed a d n =
    le_of_mul-le-mul_left {k = v.over}
    (omega (arith, mul-le-mul_left g low.crossed, mul-le-mul_left (tailed a d n) below.crossed))
    b.proper.positive in
    omega (arith, lt_of_mul-lt-mul_right (tailed a d n) (lt_of_lt_of_le outside whole-low))

least-of : (t g a d : ℕ) → 0 < d → Least t g a d → LeastNotBelow (multiple g (quotient a d)) t
least-of t g a d h l =
    record {
      not_below = at-every-order (multiple g (quotient a d)) (λ v. v ≼ whole t) (exponents a d h)
          (record {
            from = l.above.order;
            holds = λ m le. (
              Fractions.proper-product (record { positive = omega arith }) (high-proper (at_quotient a d h) m),
              Fractions.at-most-trans (Fractions.proper-quotient (g * den d m) (num_pos a d h m)) (Fractions.at-most-of-same (value-is g a d m h))
                  (record { crossed = omega (arith, above_from h l.above m le) }),
            );
          });
      least = λ s b.
          let (x, good, proper, at_most) =
          b.at_order l.order (record { each = λ y k. only y k (λ z. Allowed l.order z) (allowed_of (at_quotient a d h) l.order l.allowed) }) in
          reaches s t g a d l.order h (x (quotient a d)) (good.inside (quotient a d) (Memᴰ.head refl)) at_most l.outside;
    }

pub table_rule : TableRule
table_rule = record { at = λ k h. least-of (entry k) (2 ^ 40) k 64 (omega arith) (rule.at k h) }

-- From an enclosure of 2^40 × exp(-a/d) on both sides: the answer u, and u - w from below
near_of : (a d u w : ℕ) → 0 < d → Above u (2 ^ 40) a d → Below (u - w) (2 ^ 40) a d → NearFrom u (quotient a d) w
near_of a d u w pos above below =
    record {
      from = above.order;
      holds = λ m le.
          let middle : Proper (quotient (2 ^ 40 * den d m) (num a d m)) = Fractions.proper-quotient (2 ^ 40 * den d m) (num_pos a d pos m) in (
            high-proper (at_quotient a d pos) m,
            Fractions.at-most-trans middle (Fractions.at-most-of-same (value-is (2 ^ 40) a d m pos))
                (record { crossed = omega (arith, above_from pos above m le) }),
            Fractions.at-most-trans
                (Fractions.proper-sum middle (record { positive = omega arith }))
                (record { crossed = omega (arith, below.every m, mul-le-mul_right {m = u} {n = u - w + w} (num a d m) (omega arith)) })
                (Fractions.at-most-sum (Fractions.at-most-of-same (Fractions.same-sym (value-is (2 ^ 40) a d m pos))) (Fractions.at-most-refl (whole w))),
          );
    }

encloses-of : (y w : ℕ) → NearFrom (exp_upper_lem y) (exponent_of_lem y) w → Encloses y w
encloses-of y w n =
    at-every-order (multiple (2 ^ 40) (exponent_of_lem y)) (λ v. (v ≼ whole (exp_upper_lem y)) × (whole (exp_upper_lem y) ≼ v ⊕ whole w)) (exponents y (2 ^ 38) (lit< tt))
    (mapped (λ m h. (Fractions.proper-product (record { positive = omega arith }) h.0, (h.1, h.2))) n)

-- where the exponent lies, on natural numbers
place : (y a d : ℕ) → (quotient a d ≼ exponent_of_lem (y + 5)) ⊎ (1536 * 2 ^ 32 ≤ y) → (2 ^ 38 * a ≤ (y + 5) * d) ⊎ (1536 * 2 ^ 32 ≤ y)
place y a d (inl h) = inl (omega (arith, h.crossed))
place y a d (inr h) = inr h

pub promise : Promise
promise =
    record {
      at_entries = Laws.at_entries;
      between = λ y h. encloses-of y 16 (near_of y (2 ^ 38) (exp_upper_lem y) 16 (lit< tt) (Laws.at-or-above y) (Laws.within-16 y h));
      beyond = λ y h. encloses-of y 42 (near_of y (2 ^ 38) (exp_upper_lem y) 42 (lit< tt) (Laws.at-or-above y) (Laws.within-42 y y (2 ^ 38) (inr h)));
      orders = λ y. some-allowed (exponent_of_lem y ∷ []) (exponents y (2 ^ 38) (lit< tt));
      bounded = Laws.bounded;
      near = λ y a d pos low high.
          near_of a d (exp_upper_lem y) 42 pos (Laws.above_at y a d (omega (arith, low.crossed))) (Laws.within-42 y a d (place y a d high));
    }
