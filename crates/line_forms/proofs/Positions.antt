-- Laws of a field at a position of a line.
use Prim.Native.Nat.{ℕ, ◌+◌, ◌≤◌, ◌<◌}
use native.Mathlib.Omega.{arith}
use mathlib.Core.Path.{◌≡◌}
use mathlib.Core.Bool.{true, false}
use mathlib.Core.List.{List}
use native.Mathlib.Decide.{dec_lt}
use borrow.Author.Tests.{eqb-true}
use lib.ListN.{length, get_or, get_or-eq_default}
use Rattle.line_forms.specs.Bytes.{past}
use Rattle.line_forms.specs.Numerals.{is_numeral, value_from}
use Rattle.line_forms.specs.Parsing.{digits_at, number_at, after_number, minus_at_lem}

-- what digits that are a D, or none, say of the field
pub number-found :
    (s : List ℕ) (at : ℕ) → is_numeral (digits_at s at) ≡ true →
    (value_from 0 (digits_at s at) ≡ number_at s at) × (at + length (digits_at s at) ≡ after_number s at)
unfolding number_at after_number
number-found s at h = (rw h, rw h)

pub number-missing : (s : List ℕ) (at : ℕ) → is_numeral (digits_at s at) ≡ false → (0 ≡ number_at s at) × (past s ≡ after_number s at)
unfolding number_at after_number
number-missing s at h = (rw h, rw h)

-- a minus sign stands within the line
pub minus-inside : (s : List ℕ) (at : ℕ) → minus_at_lem s at ≡ true → at < length s
minus-inside s at h = elim (dec_lt at (length s)) [ yes k ↦ k | no k ↦ out k ]
  where
    out : (at < length s → ⊥) → at < length s
    out k =
        let l : length s ≤ at = omega arith in
        omega (arith, eqb-true (get_or s at 0) 45 h, get_or-eq_default s 0 l)
