-- The two clauses of a reader's contract, an equation and what it claims.
use mathlib.Core.Path.{◌≡◌, sym, subst}

-- the second follows from the first
pub both : {A : Type 0} (Claim : A → Type 0) {r x : A} → r ≡ x → Claim x → (r ≡ x) × Claim r
both Claim e c = (e, subst Claim (sym e) c)
