-- The table's rule in the forms that the layers use. Document 01's wording (specs/Promise.antt) follows from them and does not give them back.
use Prim.Native.Nat.{ℕ, suc, ◌+◌, ◌*◌, ◌-◌, ◌^◌, ◌≤◌, ◌<◌}
use Rattle.exact.proofs.Enclosure.{Above, Below}
use Rattle.exact.proofs.Sums.{den, tailed}
use Rattle.exponential.specs.Table.{entry}

-- t is the least whole number not below g × exp(-a/d): t / g is at or above exp(-a/d) and (t - 1) / g at or below it,
-- and at one allowed order (t - 1) / g lies below the whole bracket.
pub record Least (t g a d : ℕ) : Type 0 where
  pub above : Above t g a d
  pub below : Below (t - 1) g a d
  pub order : ℕ
  pub allowed : 2 * a ≤ (order + 2) * d
  pub outside : (t - 1) * tailed a d order < g * den d (suc order)

-- the table's rule
pub record Rule : Type 0 where
  pub at : (k : ℕ) → k ≤ 1536 → Least (entry k) (2 ^ 40) k 64
