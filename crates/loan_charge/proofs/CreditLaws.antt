-- Every credit factor lies between 0.01 and 3, under the built-in table and under any other whose rates do.
use Prim.Native.Nat.{ℕ, zero, suc, ◌+◌, ◌*◌, ◌-◌, ◌/◌, ◌≤◌, ◌<◌, min}
use mathlib.Core.Bool.{Bool, true, false}
use mathlib.Core.List.{List, [], ◌∷◌}
use native.Mathlib.Decide.{dec_le}
use native.Mathlib.Nat.{le_of_suc-le-suc, not-suc-le-zero, div-eq_of_lt-le, div-mul-le_self, lt-div-mul-add}
use borrow.Author.Tests.{le-leb, lt-leb}
use mathlib.Core.Path.{◌≡◌, refl, ap}
use Rattle.loan_charge.specs.Computation.{limits, reached_of}
use native.Mathlib.Omega.{arith}
use lib.Dec.{T, leb, ltb, leb→le}
use lib.ListN.{length, get_or}
use Rattle.exact.specs.Choice.{pick}
use Rattle.loan_charge.specs.CreditFactor.{hundredths, count, band, column, column_serving_lem, built_in_rates_lem, built_in_sheet, scored_factor_lem, unscored_factor_lem}
use Rattle.loan_charge.specs.CreditFactor.{credit_factor_lem, FactorInRange, RatesInRange}
use Rattle.loan_charge.specs.declared.Score.{Score}
use Rattle.loan_charge.specs.declared.Score.TheVariants.{Scored, Unscored}

count_most : (passes : ℕ → Bool) (limits : List ℕ) → count passes limits ≤ length limits
unfolding count
count_most passes [] = omega arith
count_most passes (limit ∷ limits) = go (passes limit) (count_most passes limits)
  where
    go : (t : Bool) → count passes limits ≤ length limits → pick t 1 0 + count passes limits ≤ suc (length limits)
    go true h = omega arith
    go false h = omega arith

-- By one division: none below the first limit, else as many as steps from it and one, but no more than there are.

next-step : (a step : ℕ) → 0 < step → (a + step) / step ≡ a / step + 1
next-step a step h =
    div-eq_of_lt-le step (omega (arith, div-mul-le_self a step)) (omega (arith, lt-div-mul-add {a = a} {b = step} h))

pub none-reached : (x low step n : ℕ) → x < low → reached_of x low step n ≡ 0
unfolding reached_of count limits
none-reached x low step zero h = refl
none-reached x low step (suc n) h = rw (lt-leb low x h) (omega (arith, none-reached x (low + step) step n (omega arith)))

one_more : (x low step n : ℕ) → 0 < step → low ≤ x →
    (low + step ≤ x → reached_of x (low + step) step n ≡ min ((x - (low + step)) / step + 1) n) →
    1 + reached_of x (low + step) step n ≡ min ((x - low) / step + 1) (suc n)
one_more x low step n h l rest =
    elim (dec_le (low + step) x) [
      | yes k ↦
          let e : x - low ≡ x - (low + step) + step = omega arith in
          omega (arith, rest k, ap (λ (t : ℕ). t / step) e, next-step (x - (low + step)) step h)
      | no k ↦
          let z : (x - low) / step ≡ 0 = div-eq_of_lt-le step (omega arith) (omega arith) in
          omega (arith, none-reached x (low + step) step n (omega arith), z)
    ]

pub some-reached : (x low step n : ℕ) → 0 < step → low ≤ x → reached_of x low step n ≡ min ((x - low) / step + 1) n
unfolding reached_of count limits
some-reached x low step zero h l = omega arith
some-reached x low step (suc n) h l =
    rw (le-leb low x l) (one_more x low step n h l (λ k. some-reached x (low + step) step n h k))

pub band-most : (number : ℕ) → band number ≤ 10
unfolding band
band-most number =
    count_most (λ limit. leb limit number)
    (600 ∷ 620 ∷ 640 ∷ 660 ∷ 680 ∷ 700 ∷ 720 ∷ 740 ∷ 760 ∷ 780 ∷ [])

pub column-most : (aged : Bool) (age : ℕ) → column_serving_lem aged age ≤ 5
unfolding column column_serving_lem
column-most true age = count_most (λ limit. ltb limit age) (12 ∷ 24 ∷ 36 ∷ 48 ∷ 60 ∷ [])
column-most false age = omega arith

-- the test of a table, computed, and what it says of each rate
abbrev every : List ℕ → Bool
every [] = true
every (m ∷ ms) = pick (leb (hundredths 1) m) (pick (leb m (hundredths 300)) (every ms) false) false

parts : (a b x : Bool) → T (pick a (pick b x false) false) → T a × T b × T x
parts true true x t = (tt, tt, t)
parts true false x t = absurd t
parts false b x t = absurd t

rate-at : (rates : List ℕ) → T (every rates) → (k : ℕ) → k < length rates → FactorInRange (get_or rates k 0)
rate-at [] t k h = absurd (not-suc-le-zero h)
rate-at (m ∷ ms) t zero h =
    let p = parts (leb (hundredths 1) m) (leb m (hundredths 300)) (every ms) t in
    record { least = leb→le (hundredths 1) m p.0; most = leb→le m (hundredths 300) p.1 }
rate-at (m ∷ ms) t (suc k) h =
    rate-at ms (parts (leb (hundredths 1) m) (leb m (hundredths 300)) (every ms) t).2 k (le_of_suc-le-suc h)

pub built_in : RatesInRange built_in_rates_lem
unfolding built_in_sheet
built_in = record { each = rate-at built_in_rates_lem tt }

pub within_range : (rates : List ℕ) → RatesInRange rates → (aged : Bool) (loans unscored : ℕ) (score : Score)
    → FactorInRange (credit_factor_lem rates aged loans unscored score)
unfolding credit_factor_lem scored_factor_lem unscored_factor_lem
within_range rates r aged loans unscored (Scored number age) =
    r.each (band number * 6 + column_serving_lem aged age) (omega (arith, band-most number, column-most aged age))
within_range rates r aged loans unscored Unscored = go (ltb loans (20 * unscored))
  where
    go : (t : Bool) → FactorInRange (pick t (hundredths 300) (hundredths 130))
    go true = record { least = omega arith; most = omega arith }
    go false = record { least = omega arith; most = omega arith }
