-- The table's rule: a test at one order, computed over the whole table, and carried to each entry.
-- Assumes nothing.
use Prim.Native.Nat.{ℕ, suc, ◌*◌, ◌-◌, ◌^◌, ◌≤◌, ◌<◌}
use mathlib.Core.Path.{◌≡◌, refl}
use mathlib.Core.Bool.{Bool}
use lib.Dec.{T, leb, ltb, leb→le, ltb→lt}
use lib.ListN.{length}
use native.Mathlib.Nat.{le_of_lt, lt_of_le_of_lt, lt_of_mul-lt-mul_right, mul-le-mul_left}
use native.Mathlib.Omega.{arith}
use Rattle.exact.proofs.Enclosure.{below-tail}
use Rattle.exact.proofs.Sums.{num, den, tailed, tail}
use Rattle.exponential.specs.Table.{exponentials, entry}
use Rattle.exponential.proofs.Rule.{Least, Rule}
use Rattle.exponential.proofs.TestOrder.{test_order}
use Rattle.exponential.proofs.Every.{both, both_left, both_right, every, at}

test : ℕ → ℕ → Bool
test k t = both (leb (2 ^ 40 * den 64 test_order) (t * num k 64 test_order)) (ltb ((t - 1) * tailed k 64 test_order) (2 ^ 40 * den 64 (suc test_order)))

tested : T (every test 0 exponentials)
unfolding test exponentials num den tailed
tested = tt

size : length exponentials ≡ 1537
unfolding exponentials
size = refl

-- what the test says at one entry
tested_at : (k : ℕ) → k ≤ 1536 →
    (2 ^ 40 * den 64 test_order ≤ entry k * num k 64 test_order) × ((entry k - 1) * tailed k 64 test_order < 2 ^ 40 * den 64 (suc test_order))
unfolding test
tested_at k h =
    let t : T (test k (entry k)) = at test exponentials tested k (omega (arith, size)) in
    let high : Bool = leb (2 ^ 40 * den 64 test_order) (entry k * num k 64 test_order) in
    let low : Bool = ltb ((entry k - 1) * tailed k 64 test_order) (2 ^ 40 * den 64 (suc test_order)) in (
      leb→le (2 ^ 40 * den 64 test_order) (entry k * num k 64 test_order) (both_left high low t),
      ltb→lt ((entry k - 1) * tailed k 64 test_order) (2 ^ 40 * den 64 (suc test_order)) (both_right high low t),
    )

pub rule : Rule
rule = record {
  at = λ k h. record {
    above = record { order = test_order; reached = (tested_at k h).0 };
    below = below-tail test_order (omega arith) (omega arith) (le_of_lt (tested_at k h).1);
    order = test_order;
    allowed = omega arith;
    outside = (tested_at k h).1;
  };
}

-- Such a number is at most g.
least-bounded : (t g a d : ℕ) → 0 < d → Least t g a d → t ≤ g
unfolding num den
least-bounded t g a d hd l =
    let n : ℕ = l.order in
    let b : t - 1 < g =
    lt_of_mul-lt-mul_right (den d (suc n))
    (lt_of_le_of_lt (mul-le-mul_left (t - 1) (omega (arith, tail a d n l.allowed 0))) l.outside) in
    omega arith

pub entry-bounded : (k : ℕ) → k ≤ 1536 → entry k ≤ 2 ^ 40
entry-bounded k h = least-bounded (entry k) (2 ^ 40) k 64 (omega arith) (rule.at k h)
