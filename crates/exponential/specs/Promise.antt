-- What the exponential promises, in the words of document 01, "The exponential". Proved in proofs/Promise.antt.
use Rattle.std.specs.Prelude.{ℕ, ◌+◌, ◌*◌, ◌^◌, ◌≤◌, ◌<◌, ◌≡◌, ◌⊎◌, [], ◌∷◌}
use Rattle.exact.specs.Fraction.{Fraction, Proper, quotient, whole, ◌⊕◌, ◌⊗◌, ◌≼◌}
use Rattle.exact.specs.Quantity.{Quantity, AtMost, AtEveryOrder, SomeAllowed, Eventually}
use Rattle.exponential.specs.Table.{entry}
use Rattle.exponential.specs.Exponential.{exp_upper_lem}

-- g × exp(-y)
abbrev pub multiple : ℕ → Fraction → Quantity
multiple g y = record { exponents = y ∷ []; value = λ x. whole g ⊗ x y }

-- t is the least whole number not below the quantity.
pub record LeastNotBelow (q : Quantity) (t : ℕ) : Type 0 where
  pub not_below : AtMost q (whole t)
  pub least : (s : ℕ) → AtMost q (whole s) → t ≤ s

-- "entry k is the least whole number not below 2^40 × exp(-k/64)"
pub record TableRule : Type 0 where
  pub at : (k : ℕ) → k ≤ 1536 → LeastNotBelow (multiple (2 ^ 40) (quotient k 64)) (entry k)

-- y in units of 2^-38
abbrev pub exponent_of_lem : ℕ → Fraction
exponent_of_lem y = quotient y (2 ^ 38)

-- at every order allowed, by one value in the bracket, the answer is not below 2^40 × exp(-y) and at most w above it
abbrev pub Encloses : ℕ → ℕ → Type 0
Encloses y w = AtEveryOrder (multiple (2 ^ 40) (exponent_of_lem y)) (λ v. (v ≼ whole (exp_upper_lem y)) × (whole (exp_upper_lem y) ≼ v ⊕ whole w))

-- u is at or above 2^40 × exp(-η) and at most w above it: for all m from some m on, with exp(-η) taken as 1 / E(m).
-- Unlike the statements about brackets this goes into sums and products, so the layers above rest on it.
abbrev pub NearFrom : (u : ℕ) (η : Fraction) (w : ℕ) → Type 0
NearFrom u η w = Eventually (λ exp. Proper (exp η) × (whole (2 ^ 40) ⊗ exp η ≼ whole u) × (whole u ≼ whole (2 ^ 40) ⊗ exp η ⊕ whole w))

-- The exponential: exact at entries; between them within 16 units of 2^-40, and from 24 on within 42; some order is allowed; it is at most 1;
-- and it serves as well for an exponent up to 5 units of 2^-38 above y, or anywhere above it where y is 24 or more, within 42 units.
pub record Promise : Type 0 where
  pub at_entries : (k : ℕ) → k ≤ 1536 → exp_upper_lem (k * 2 ^ 32) ≡ entry k
  pub between : (y : ℕ) → y < 1536 * 2 ^ 32 → Encloses y 16
  pub beyond : (y : ℕ) → 1536 * 2 ^ 32 ≤ y → Encloses y 42
  pub orders : (y : ℕ) → SomeAllowed (exponent_of_lem y ∷ [])
  pub bounded : (y : ℕ) → exp_upper_lem y ≤ 2 ^ 40
  pub near : (y a d : ℕ) → 0 < d → exponent_of_lem y ≼ quotient a d → (quotient a d ≼ exponent_of_lem (y + 5)) ⊎ (1536 * 2 ^ 32 ≤ y) →
      NearFrom (exp_upper_lem y) (quotient a d) 42
