-- What it means that an answer is at or above, or near, an exact quantity (document 01, "The exponential").
use Rattle.std.specs.Prelude.{ℕ, ◌≤◌}
use mathlib.Core.List.{List, Memᴰ}
use Rattle.exact.specs.Fraction.{Fraction, Proper, Equals, ◌⊕◌, ◌⊖◌, ◌≼◌, ◌≺◌, ◌≈◌}
use Rattle.exact.specs.Exponential.{Allowed, InBracket, bracket_high}

-- Gives each exponent y a value to stand for exp(-y).
abbrev pub Assignment : Type 0
Assignment = Fraction → Fraction

-- An exact quantity: the exponents in it, and its value once each exp(-y) has one.
pub record Quantity : Type 0 where
  pub exponents : List Fraction
  pub value : Assignment → Fraction

-- Two assignments of fractions give the exponentials of the list the same values.
pub record Agree (ys : List Fraction) (x x' : Assignment) : Type 0 where
  pub left : (y : Fraction) → Proper (x y)
  pub right : (y : Fraction) → Proper (x' y)
  pub same : (y : Fraction) → Memᴰ y ys → x y ≈ x' y

-- A value that depends on the exponentials of the list alone.
pub record DependsOn (ys : List Fraction) (value : Assignment → Fraction) : Type 0 where
  pub alike : (x x' : Assignment) → Agree ys x x' → Equals (value x) (value x')

-- Every exponent in the quantity is among its exponents: the exponential of one left out could take any value, and a bound would say nothing.
abbrev pub Determined : Quantity → Type 0
Determined q = DependsOn q.exponents q.value

-- order n is allowed for every exponent of the list
pub record AllowedAll (n : ℕ) (ys : List Fraction) : Type 0 where
  pub each : (y : Fraction) → Memᴰ y ys → Allowed n y

-- Each exponential has a value in its bracket of order n, and equal exponents have equal values.
pub record InBrackets (n : ℕ) (ys : List Fraction) (x : Assignment) : Type 0 where
  pub inside : (y : Fraction) → Memᴰ y ys → InBracket n y (x y)
  pub alike : (y z : Fraction) → Memᴰ y ys → Memᴰ z ys → y ≈ z → x y ≈ x z

-- At every order allowed for all its exponents the quantity takes a value of which `Holds` is true.
pub record AtEveryOrder (q : Quantity) (Holds : Fraction → Type 0) : Type 0 where
  pub at_order : (n : ℕ) → AllowedAll n q.exponents →
      (x : Assignment) × InBrackets n q.exponents x × Proper (q.value x) × Holds (q.value x)

-- the exact quantity is at most the answer
abbrev pub AtMost : Quantity → Fraction → Type 0
AtMost q answer = AtEveryOrder q (λ v. v ≼ answer)

-- the answer exceeds it by less than g
abbrev pub ExceedsByLess : Quantity → Fraction → Fraction → Type 0
ExceedsByLess q g answer = AtEveryOrder q (λ v. answer ≺ v ⊕ g)

-- the answer is never above it
abbrev pub NeverAbove : Quantity → Fraction → Type 0
NeverAbove q answer = AtEveryOrder q (λ v. answer ≼ v)

-- the answer is less than g below it
abbrev pub LessBelow : Quantity → Fraction → Fraction → Type 0
LessBelow q g answer = AtEveryOrder q (λ v. v ⊖ g ≺ answer)

-- All orders from some order on are allowed, so that none of the above holds for want of an order.
pub record SomeAllowed (ys : List Fraction) : Type 0 where
  pub from : ℕ
  pub allowed : (n : ℕ) → from ≤ n → AllowedAll n ys

-- With every exp(-y) taken as 1 / E(m), `Holds` is true for all m from some m on. No order or bracket appears in such a law;
-- since 1 / E(m) lies in the bracket of every allowed order up to m, the statements above follow from it (proofs/Quantities.antt).
pub record Eventually (Holds : Assignment → Type 0) : Type 0 where
  pub from : ℕ
  pub holds : (m : ℕ) → from ≤ m → Holds (bracket_high m)
