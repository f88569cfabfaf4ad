-- 02, L6: the NAME of a mark, "1 to 12 lower-case letters", and the number that stands for it. Names are numbered without gaps, the shorter
-- first and those of one length as in a dictionary: a is 1, z is 26, aa is 27. NameNumbers of Claims.antt says that each has its own number.
use Rattle.std.specs.Prelude.{ℕ, zero, suc, ◌+◌, ◌-◌, ◌*◌, ◌/◌, ◌%◌, ◌≤◌, Bool, List, [], ◌∷◌, ◌++◌, length}
use Rattle.line_forms.specs.Bytes.{within}

-- Writing. The letters are the bytes 97 to 122.

abbrev pub most_letters : ℕ
most_letters = 12

-- the number of the last name, twelve times z: 26 + 26 ^ 2 + .. + 26 ^ 12
abbrev pub most_name : ℕ
most_name = 99246114928149462

-- the letters of the name n, at most k of them: the last one, and before it those of the name that the rest numbers
unfoldable pub letters_in : ℕ → ℕ → List ℕ
letters_in zero n = []
letters_in (suc k) zero = []
letters_in (suc k) (suc m) = letters_in k (m / 26) ++ ((97 + m % 26) ∷ [])

-- the letters of the name n
abbrev pub letters_of : ℕ → List ℕ
letters_of n = letters_in most_letters n

-- a number that is a name's
abbrev pub NameWritable : ℕ → Type 0
NameWritable n = (1 ≤ n) × (n ≤ most_name)

-- Reading.

-- letters are a name where there are 1 to `most_letters` of them
abbrev pub is_name : List ℕ → Bool
is_name t = within 1 most_letters (length t)

-- the number of the name that letters after the name a make
unfoldable pub name_from : ℕ → List ℕ → ℕ
name_from a [] = a
name_from a (b ∷ t) = name_from (a * 26 + (b - 96)) t
