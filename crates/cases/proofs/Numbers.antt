-- A number takes a byte or more, where there is one.
use Rattle.std.proofs.Common.{ℕ, zero, suc, List, [], ◌∷◌, length, true, false, ◌≡◌, ◌+◌, ◌-◌, ◌≤◌, ◌<◌, slice_index, slice_set, if◌then◌else◌, arith}
use Rattle.std.specs.Char.{is_ascii_digit}
use Rattle.std.proofs.lemmas.Grind.{common_steps}
use Rattle.cases.specs.Numbers.{after_number, after_numbers}

pub shorter : (s : List ℕ) → length (after_number s) ≤ length s - 1
shorter [] = grind arith
shorter (b ∷ s) =
    elim (is_ascii_digit b) as (λ digit. length (if digit then after_number s else s) ≤ suc (length s) - 1) [
      | true ↦ let rest = shorter s in omega arith
      | false ↦ omega arith
    ]

pub shorter_by : (n : ℕ) (s : List ℕ) → length (after_numbers n s) ≤ length s - n
shorter_by zero s = grind arith
shorter_by (suc n) s = let one = shorter (after_numbers n s) in let more = shorter_by n s in omega arith

-- A place more is filled.
pub filled : (xs : List ℕ) (i v : ℕ) (f : ℕ → ℕ) → i < length xs → v ≡ f i → ((k : ℕ) → k < i → slice_index xs k ≡ f k)
    → (k : ℕ) → k < i + 1 → slice_index (slice_set xs i v) k ≡ f k
filled xs i v f inside is before k below = grind (arith, common_steps)
