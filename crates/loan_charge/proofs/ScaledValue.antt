-- z in fixed point: what the long division gives, that it is the definition's value, and its enclosure.
-- Assumes nothing.
use mathlib.Core.Path.{◌≡◌, sym, ◌∙◌, ap, ap₂, subst⁻¹}
use Prim.Native.Nat.{ℕ, ◌+◌, ◌*◌, ◌/◌, ◌%◌, ◌^◌, ◌≤◌, ◌<◌, min, max, zero-le}
use native.Mathlib.Decide.{dec_le}
use native.Mathlib.Omega.{arith}
use native.Mathlib.Nat.{mul-le-mul_left, mul-le-mul_right, le_of_mul-le-mul_right, le_trans, lt_of_le_of_lt, le_of_lt, max-eq_left, max-eq_right}
use native.Mathlib.Nat.{min-eq_left, min-eq_right, div-eq_of_lt-le, le-div_iff_mul-le, div-lt_iff_lt-mul, div-add-mod', div-mul-le_self}
use native.Mathlib.Nat.{lt-div-mul-add, mod-lt, le-max_right, mul-div-mul_right, mul_comm, min-le_right, lt_of_not-le}
use Rattle.fixed_point.specs.Quotient.{division_step_lem}
use Rattle.fixed_point.specs.declared.Division.{Division}
use Rattle.fixed_point.proofs.Laws.{step-whole, step-remainder}
use Rattle.loan_charge.specs.Computation.{unit, scaled_value_lem}

-- a long division of F p by q
pub record Divided (F p q : ℕ) (d : Division) : Type 0 where
  pub whole : d.quotient * q + d.remainder ≡ F * p
  pub small : d.remainder < q

pub divided-step : {F p q : ℕ} {d d' : Division} (f : ℕ) → Divided F p q d → d' ≡ division_step_lem d q f → Divided (f * F) p q d'
divided-step {F} {p} {q} {d} {d'} f h e =
    subst⁻¹ (λ (x : Division). Divided (f * F) p q x) e
    (record {
      whole = step-whole d q f ∙ ap (λ (t : ℕ). f * t) h.whole ∙ omega arith;
      small = step-remainder d q f (lt_of_le_of_lt zero-le h.small);
    })

-- the quotient of a number below 16 q
pub quotient-bound : {F p q : ℕ} {d : Division} → Divided F p q d → p ≤ 16 * q → d.quotient ≤ 16 * F
quotient-bound {F} {p} {q} {d} h k =
    le_of_mul-le-mul_right {k = q}
    (omega (arith, h.whole, mul-le-mul_left F k))
    (lt_of_le_of_lt zero-le h.small)

-- a step of the long division may be taken
pub step_fits : {F p q : ℕ} {d : Division} (f : ℕ) → Divided F p q d → p ≤ 16 * q → q * f < 2 ^ 64 → 16 * F * f < 2 ^ 62 → f < 2 ^ 62 →
    (d.remainder < q) × (q * f < 2 ^ 64) × (d.quotient * f < 2 ^ 62) × (f < 2 ^ 62)
step_fits {F} {p} {q} {d} f h k divisor-fits fits f-fits =
    (h.small, divisor-fits, lt_of_le_of_lt (mul-le-mul_right f (quotient-bound h k)) fits, f-fits)

pub quotient_is : {F p q : ℕ} {d : Division} → Divided F p q d → d.quotient ≡ F * p / q
quotient_is {F} {p} {q} {d} h = sym (div-eq_of_lt-le q (omega (arith, h.whole)) (omega (arith, h.whole, h.small)))

-- A division begun, and carried on by the factors 400, 300 and three times 512.

pub begun : (q : ℕ) (d : Division) → d.remainder < q → Divided 1 (d.quotient * q + d.remainder) q d
begun q d h = record { whole = omega arith; small = h }

pub begun-bound : (q : ℕ) (d : Division) → d.remainder < q → d.quotient < 16 → d.quotient * q + d.remainder ≤ 16 * q
begun-bound q d h k = omega (arith, mul-le-mul_right q k)

pub step₁ : {P q : ℕ} {d d₁ : Division} → Divided 1 P q d → d₁ ≡ division_step_lem d q 400 → Divided 400 P q d₁
step₁ h e₁ = divided-step 400 h e₁

pub step₂ : {P q : ℕ} {d d₁ d₂ : Division} → Divided 1 P q d → d₁ ≡ division_step_lem d q 400 → d₂ ≡ division_step_lem d₁ q 300 →
    Divided (300 * 400) P q d₂
step₂ h e₁ e₂ = divided-step 300 (step₁ h e₁) e₂

pub step₃ : {P q : ℕ} {d d₁ d₂ d₃ : Division} → Divided 1 P q d → d₁ ≡ division_step_lem d q 400 → d₂ ≡ division_step_lem d₁ q 300 →
    d₃ ≡ division_step_lem d₂ q 512 → Divided (512 * 300 * 400) P q d₃
step₃ h e₁ e₂ e₃ = divided-step 512 (step₂ h e₁ e₂) e₃

pub step₄ : {P q : ℕ} {d d₁ d₂ d₃ d₄ : Division} → Divided 1 P q d → d₁ ≡ division_step_lem d q 400 → d₂ ≡ division_step_lem d₁ q 300 →
    d₃ ≡ division_step_lem d₂ q 512 → d₄ ≡ division_step_lem d₃ q 512 → Divided (512 * 512 * 300 * 400) P q d₄
step₄ h e₁ e₂ e₃ e₄ = divided-step 512 (step₃ h e₁ e₂ e₃) e₄

pub step₅ : {P q : ℕ} {d d₁ d₂ d₃ d₄ d₅ : Division} → Divided 1 P q d → d₁ ≡ division_step_lem d q 400 → d₂ ≡ division_step_lem d₁ q 300 →
    d₃ ≡ division_step_lem d₂ q 512 → d₄ ≡ division_step_lem d₃ q 512 → d₅ ≡ division_step_lem d₄ q 512 → Divided unit P q d₅
step₅ h e₁ e₂ e₃ e₄ e₅ = divided-step 512 (step₄ h e₁ e₂ e₃ e₄) e₅

-- A division of 960000 p, carried on by 2^24.

pub multiplied : (p q : ℕ) → 0 < q → Divided 960000 p q (record { quotient = p * 960000 / q; remainder = p * 960000 % q })
multiplied p q h = record { whole = div-add-mod' (p * 960000) q ∙ mul_comm p 960000; small = mod-lt (p * 960000) h }

pub multiplied-step : (p q : ℕ) {d : Division} → 0 < q →
    d ≡ division_step_lem (record { quotient = p * 960000 / q; remainder = p * 960000 % q }) q 16777216 → d.quotient ≡ unit * p / q
multiplied-step p q pos e = quotient_is (divided-step 16777216 (multiplied p q pos) e)

-- The three cases of the value.

held-is : {n : ℕ} (v : ℕ) → n ≡ v → v ≤ 16 * unit → v ≡ min (16 * unit) n
held-is v e h = omega arith

pub value_least : (p q : ℕ) → p < q → unit ≡ scaled_value_lem p q
unfolding scaled_value_lem
value_least p q h = held-is unit (div-eq_of_lt-le q (omega arith) (omega arith)) (omega arith)

pub value_most : (p q : ℕ) → 0 < q → 16 * q ≤ p → 16 * unit ≡ scaled_value_lem p q
unfolding scaled_value_lem
value_most p q pos h = rw (max-eq_left {n = p} {m = q} (omega arith)) (sym (min-eq_left ((le-div_iff_mul-le pos).1 (omega arith))))

pub value-between : (p q r : ℕ) → 0 < q → q ≤ p → p < 16 * q → r ≡ unit * p / q → r ≡ scaled_value_lem p q
unfolding scaled_value_lem
value-between p q r pos h k e =
    rw (max-eq_left h) (e ∙ sym (min-eq_right (le_of_lt ((div-lt_iff_lt-mul pos).1 (omega arith)))))

-- the same by the whole part of p / q
pub whole-most : (p q : ℕ) → 0 < q → 16 ≤ p / q → 16 * unit ≡ scaled_value_lem p q
whole-most p q pos k = value_most p q pos (omega (arith, mul-le-mul_right q k, div-mul-le_self p q))

pub whole-between : (p q r : ℕ) → 0 < q → q ≤ p → p / q < 16 → r ≡ unit * (p / q * q + p % q) / q → r ≡ scaled_value_lem p q
whole-between p q r pos h k e = value-between p q r pos h ((div-lt_iff_lt-mul pos).0 k) (e ∙ ap (λ (t : ℕ). unit * t / q) (div-add-mod' p q))

-- The enclosure: p / q, not below 1, in fixed point as w. Above 16 there is no upper bound.
pub record Held (p q w : ℕ) : Type 0 where
  pub positive : 0 < q
  pub value : q ≤ p
  pub least : unit ≤ w
  pub most : w ≤ 16 * unit
  pub low : w * q ≤ unit * p
  pub high : w < 16 * unit → unit * p < (w + 1) * q

pub held : (p q : ℕ) → 0 < q → Held (max p q) q (scaled_value_lem p q)
unfolding scaled_value_lem
held p q pos =
    let n : ℕ = unit * max p q / q in
    let below : n * q ≤ unit * max p q = div-mul-le_self (unit * max p q) q in
    let least : unit ≤ n = (le-div_iff_mul-le pos).1 (mul-le-mul_left unit (le-max_right p q)) in
    record {
      positive = pos;
      value = le-max_right p q;
      least = omega arith;
      most = omega arith;
      low = le_trans (mul-le-mul_right q (min-le_right (16 * unit) n)) below;
      high = λ h. rw (min-eq_right {n = n} {m = 16 * unit} (omega arith)) (omega (arith, lt-div-mul-add {a = unit * max p q} pos));
    }

-- Equal fractions have equal values.
pub value-alike : (p q p' q' : ℕ) → 0 < q → 0 < q' → p * q' ≡ p' * q → scaled_value_lem p q ≡ scaled_value_lem p' q'
unfolding scaled_value_lem
value-alike p q p' q' pos pos' e =
    ap (λ (n : ℕ). min (16 * unit) n)
    (sym (mul-div-mul_right (unit * max p q) q pos') ∙
    ap₂ ◌/◌ crossed (mul_comm q q') ∙
    mul-div-mul_right (unit * max p' q') q' pos)
  where
    cases : Dec (q ≤ p) → max p q * q' ≡ max p' q' * q
    cases (yes h) =
        rw (max-eq_left h, max-eq_left {n = p'} {m = q'} (le_of_mul-le-mul_right {k = q} (omega (arith, mul-le-mul_right q' h)) pos)) e
    cases (no h) =
        let below : p ≤ q = le_of_lt (lt_of_not-le h) in
        rw (max-eq_right below, max-eq_right {n = p'} {m = q'} (le_of_mul-le-mul_right {k = q} (omega (arith, mul-le-mul_right q' below)) pos))
        (mul_comm q q')

    crossed : unit * max p q * q' ≡ unit * max p' q' * q
    crossed = omega (arith, cases (dec_le q p))
