-- The whole numbers of specs/Integers.antt are the paper's coefficients, at every month and in both sets, and they are bounded.
use Prim.Native.Nat.{ℕ, ◌*◌, ◌-◌, ◌≤◌, ◌<◌}
use mathlib.Core.Bool.{Bool, true, false}
use mathlib.Core.Path.{◌≡◌, refl}
use lib.Dec.{leb}
use borrow.Author.Rules.{rules}
use borrow.Author.Tests.{leb-true, leb-false}
use Rattle.exact.specs.Choice.{pick, up_to}
use Rattle.coefficients.specs.Coefficients.{Months, curve_a_lem, curve_b_lem, weight_1a, deviation_1a, weight_2a, deviation_2a, weight_1b, mean_1b, deviation_1b}
use Rattle.coefficients.specs.Coefficients.{weight_2b, mean_2b, deviation_2b, rate_c_lem, rate_b_lem}
use Rattle.coefficients.specs.Promise.{Scaled, ScaledSigned, Mean, Deviation, ScaledCurveOf, Promise}
use Rattle.coefficients.specs.Integers.{scaled_a, scaled_b, scaled_c, tenths_b}

-- Two choices at one limit are related where both sides of the limit are.
choices : {A B : Type 0} (R : A → B → Type 0) (limit n : ℕ) {x y : A} {i j : B}
    → (n ≤ limit → R x i) → (limit < n → R y j) → R (up_to limit n x y) (up_to limit n i j)
choices {A} {B} R limit n {x} {y} {i} {j} low high = go (leb n limit) refl
  where
    go : (t : Bool) → leb n limit ≡ t → R (pick t x y) (pick t i j)
    go true e = low (leb-true n limit e)
    go false e = high (leb-false n limit e)

module _ (n : ℕ) (m : Months n) where
  pub scaled-a : (first : Bool) → ScaledCurveOf 29856 45960 905 (curve_a_lem first n) (scaled_a first n)
  unfolding curve_a_lem scaled_a weight_1a deviation_1a weight_2a deviation_2a
  scaled-a true = record {
    weight1 = choices (Scaled 12 0 29856) 132 n (λ a. search rules) (λ a. search rules);
    mean1 = search rules;
    deviation1 = choices Deviation 120 n (λ a. search rules) (λ a. choices Deviation 300 n (λ b. search rules) (λ b. search rules));
    weight2 = choices (ScaledSigned 12 45960 905 (1020 - 115 * n)) 204 n (λ a. search rules) (λ a. search rules);
    mean2 = search rules;
    deviation2 = choices Deviation 186 n (λ a. search rules) (λ a. search rules);
  }
  scaled-a false = record {
    weight1 = choices (Scaled 12 0 29856) 192 n (λ a. search rules)
        (λ a. choices (Scaled 12 0 29856) 300 n (λ b. search rules) (λ b. search rules));
    mean1 = search rules;
    deviation1 = search rules;
    weight2 = choices (ScaledSigned 12 45960 905 (1020 - 115 * n)) 300 n (λ a. search rules) (λ a. search rules);
    mean2 = search rules;
    deviation2 = choices Deviation 186 n (λ a. search rules) (λ a. search rules);
  }

  pub scaled-b : (first : Bool) → ScaledCurveOf 144240 50640 0 (curve_b_lem first n) (scaled_b first n)
  unfolding curve_b_lem scaled_b weight_1b mean_1b deviation_1b weight_2b mean_2b deviation_2b
  scaled-b true = record {
    weight1 = choices (Scaled 12 0 144240) 132 n (λ a. search rules) (λ a. search rules);
    mean1 = search rules;
    deviation1 = choices Deviation 168 n (λ a. search rules) (λ a. choices Deviation 300 n (λ b. search rules) (λ b. search rules));
    weight2 = choices (ScaledSigned 12 50640 0 0) 180 n (λ a. search rules)
        (λ a. choices (ScaledSigned 12 50640 0 0) 216 n (λ b. search rules)
        (λ b. choices (ScaledSigned 12 50640 0 0) 300 n (λ d. search rules) (λ d. search rules)));
    mean2 = choices Mean 180 n (λ a. search rules) (λ a. search rules);
    deviation2 = choices Deviation 180 n (λ a. search rules) (λ a. search rules);
  }
  scaled-b false = record {
    weight1 = choices (Scaled 12 0 144240) 300 n (λ a. search rules) (λ a. search rules);
    mean1 = choices Mean 237 n (λ a. search rules) (λ a. choices Mean 312 n (λ b. search rules) (λ b. search rules));
    deviation1 = choices Deviation 177 n (λ a. search rules) (λ a. search rules);
    weight2 = choices (ScaledSigned 12 50640 0 0) 231 n (λ a. search rules)
        (λ a. choices (ScaledSigned 12 50640 0 0) 312 n (λ b. search rules) (λ b. search rules));
    mean2 = choices Mean 399 n (λ a. search rules) (λ a. search rules);
    deviation2 = choices Deviation 228 n (λ a. search rules) (λ a. choices Deviation 324 n (λ b. search rules) (λ b. search rules));
  }

  pub scaled-c : (first : Bool) → Scaled 12000 960 2280 (rate_c_lem first n) (scaled_c first n)
  unfolding rate_c_lem scaled_c
  scaled-c true =
      choices (Scaled 12000 960 2280) 120 n (λ a. search rules)
      (λ a. choices (Scaled 12000 960 2280) 156 n (λ b. search rules) (λ b. search rules))
  scaled-c false = search rules

  pub tenths-b : (first : Bool) → Scaled 10 0 3 (rate_b_lem first n) (tenths_b first n)
  unfolding rate_b_lem tenths_b
  tenths-b true = choices (Scaled 10 0 3) 120 n (λ a. search rules) (λ a. search rules)
  tenths-b false = search rules

pub promise : Promise
promise = record {
  a = λ first n m. scaled-a n m first;
  b = λ first n m. scaled-b n m first;
  rate_c = λ first n m. scaled-c n m first;
  rate_b = λ first n m. tenths-b n m first;
}
