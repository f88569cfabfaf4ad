-- Laws of sums: they form a commutative monoid, and bounded sums add up to bounded sums. Assumes nothing.
use mathlib.Core.Path.{◌≡◌, refl, sym, ap, ap₂, ◌∙◌}
use mathlib.Core.List.{List, [], ◌∷◌, ◌++◌, Memᴰ, Permᴰ}
use Prim.Native.Nat.{ℕ, ◌+◌}
use native.Mathlib.Omega.{arith}
use Rattle.figures.specs.declared.Money.{Money}
use Rattle.figures.specs.declared.Sums.{Sums}
use Rattle.figures.specs.Sums.{money_sum_lem, money_of, in_parts, no_sums, plus, sum_of, Bounded}

-- two sums are equal when their fields are
pub record Same (x y : Sums) : Type 0 where
  pub loans : x.counts.loans ≡ y.counts.loans
  pub unscored : x.counts.unscored ≡ y.counts.unscored
  pub fresh : x.counts.fresh ≡ y.counts.fresh
  pub other : x.counts.other ≡ y.counts.other
  pub total_plus : x.total.plus ≡ y.total.plus
  pub total_minus : x.total.minus ≡ y.total.minus
  pub supplement_plus : x.supplement.plus ≡ y.supplement.plus
  pub supplement_minus : x.supplement.minus ≡ y.supplement.minus
  pub rest_cents : x.rest.cents ≡ y.rest.cents
  pub rest_parts : x.rest.parts ≡ y.rest.parts
  pub moved_cents : x.moved.cents ≡ y.moved.cents
  pub moved_parts : x.moved.parts ≡ y.moved.parts
  pub equity_plus : x.equity.plus ≡ y.equity.plus
  pub equity_minus : x.equity.minus ≡ y.equity.minus
  pub aoci_plus : x.aoci.plus ≡ y.aoci.plus
  pub aoci_minus : x.aoci.minus ≡ y.aoci.minus
  pub b : x.b ≡ y.b
  pub c : x.c ≡ y.c

pub same : {x y : Sums} → Same x y → x ≡ y
same h = λ i. record {
  counts = record { loans = h.loans i; unscored = h.unscored i; fresh = h.fresh i; other = h.other i };
  total = record { plus = h.total_plus i; minus = h.total_minus i };
  supplement = record { plus = h.supplement_plus i; minus = h.supplement_minus i };
  rest = record { cents = h.rest_cents i; parts = h.rest_parts i };
  moved = record { cents = h.moved_cents i; parts = h.moved_parts i };
  equity = record { plus = h.equity_plus i; minus = h.equity_minus i };
  aoci = record { plus = h.aoci_plus i; minus = h.aoci_minus i };
  b = h.b i;
  c = h.c i;
}

pub plus_comm : (x y : Sums) → plus x y ≡ plus y x
plus_comm x y = same (omega arith)

pub plus_assoc : (x y z : Sums) → plus (plus x y) z ≡ plus x (plus y z)
plus_assoc x y z = same (omega arith)

pub none-plus : (x : Sums) → plus no_sums x ≡ x
none-plus x = same (omega arith)

pub plus_none : (x : Sums) → plus x no_sums ≡ x
plus_none x = same (omega arith)

pub plus-swap : (x y z : Sums) → plus x (plus y z) ≡ plus y (plus x z)
plus-swap x y z = same (omega arith)

-- Bounds

pub none-bounded : Bounded no_sums
none-bounded = omega arith

pub plus-bounded : {x y : Sums} → Bounded x → Bounded y → Bounded (plus x y)
plus-bounded {x} {y} h k = omega arith

-- The sum of a list

pub sum-bounded : (xs : List Sums) → ((x : Sums) → Memᴰ x xs → Bounded x) → Bounded (sum_of xs)
unfolding sum_of
sum-bounded [] h = none-bounded
sum-bounded (x ∷ xs) h = plus-bounded (h x (Memᴰ.head refl)) (sum-bounded xs (λ y m. h y (Memᴰ.tail m)))

pub sum-append : (xs ys : List Sums) → sum_of (xs ++ ys) ≡ plus (sum_of xs) (sum_of ys)
unfolding sum_of ◌++◌
sum-append [] ys = sym (none-plus (sum_of ys))
sum-append (x ∷ xs) ys = ap (plus x) (sum-append xs ys) ∙ sym (plus_assoc x (sum_of xs) (sum_of ys))

pub sum-permuted : {xs ys : List Sums} → Permᴰ xs ys → sum_of xs ≡ sum_of ys
unfolding sum_of
sum-permuted Permᴰ.nil = refl
sum-permuted (Permᴰ.cons e p) = ap₂ plus e (sum-permuted p)
sum-permuted (Permᴰ.swap {a} {b} {a'} {b'} {l} e f) = plus-swap a b (sum_of l) ∙ ap₂ (λ (s t : Sums). plus s (plus t (sum_of l))) f e
sum-permuted (Permᴰ.trans p q) = sum-permuted p ∙ sum-permuted q

-- Money: no part of a ten-millionth is lost, and sums of money are sums of ten-millionths.

pub money-whole : (n : ℕ) → in_parts (money_of n) ≡ n
money-whole n = omega arith

pub money-added : (x y : Money) → in_parts (money_sum_lem x y) ≡ in_parts x + in_parts y
money-added x y = omega arith
