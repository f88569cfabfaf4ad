-- A file that is a list of numbers (02, L3): after each number one space or one newline, which may be missing after the last.
use Rattle.std.specs.Prelude.{ℕ, Bool, Option, Some, None, ◌≤◌, ◌<◌, min, true, false, List, [], ◌∷◌, ◌++◌, ◌↔◌, ◌⊎◌, ◌≡◌, length, get_or, take}
use Rattle.line_forms.specs.Numerals.{decimal, limit}

-- the byte after a number: a space or a newline
abbrev pub Separator : ℕ → Type 0
Separator b = (b ≡ 32) ⊎ (b ≡ 10)

-- the bytes write this list, each number as a D of 01
pub data NumberText : (bytes numbers : List ℕ) → Type 0 where
  none : NumberText [] []
  last : (n : ℕ) → n < limit → NumberText (decimal n) (n ∷ [])
  more : (n separator : ℕ) {bytes numbers : List ℕ} → n < limit → Separator separator → NumberText bytes numbers →
      NumberText (decimal n ++ (separator ∷ bytes)) (n ∷ numbers)

-- the most numbers that are handed out: one more than a sheet has
abbrev pub most : ℕ
most = 67

-- room for so many numbers, of which those from the place n on are 0
pub record ZeroFrom (n : ℕ) (out : List ℕ) : Type 0 where
  pub room : length out ≡ most
  pub zero : (i : ℕ) → n ≤ i → get_or out i 0 ≡ 0

-- How many numbers were handed out, and whether the bytes are a list of numbers,
pub record Numbers : Type 0 where
  pub count : ℕ
  pub good : Bool

-- as the code's answer says it.
abbrev pub numbers_of : Option ℕ → Numbers
numbers_of (Some n) = record { count = n; good = true }
numbers_of None = record { count = 0; good = false }

-- What the answer r for some bytes says of them, where it left `out`: it is good where they are a list of numbers and only there. Then
-- the first `count` of `out` are these numbers, or the first 67 of them where they are more; of other bytes it hands out none. What is left of
-- `out` is 0.
pub record ReadsNumbers (bytes : List ℕ) (r : Numbers) (out : List ℕ) : Type 0 where
  pub good : (r.good ≡ true) ↔ ((numbers : List ℕ) × NumberText bytes numbers)
  pub count : (numbers : List ℕ) → NumberText bytes numbers → r.count ≡ min most (length numbers)
  pub stored : (numbers : List ℕ) → NumberText bytes numbers → take r.count out ≡ take most numbers
  pub none : r.good ≡ false → r.count ≡ 0
  pub rest : ZeroFrom r.count out
  pub few : r.count ≤ length out

-- bytes write at most one list
pub record OneList : Type 0 where
  pub same : {bytes m n : List ℕ} → NumberText bytes m → NumberText bytes n → m ≡ n
