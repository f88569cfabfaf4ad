-- The bytes of a line: the one that ends it, and how many are held of a line not yet ended.
use Rattle.std.specs.Prelude.{ℕ, suc, Bool, true, false, not, ◌&&◌, List, [], ◌∷◌, ◌++◌, eqb, take}

-- the byte that ends a line
abbrev pub newline : ℕ
newline = 10

-- whether no byte ends a line
unfoldable pub unbroken : List ℕ → Bool
unbroken [] = true
unbroken (byte ∷ bytes) = not (eqb byte newline) && unbroken bytes

-- one place later, unless the byte itself is found
abbrev pub index_after : Bool → ℕ → ℕ
index_after true n = 0
index_after false n = suc n

-- where a byte stands first: the length where it does not
unfoldable pub index_of : (byte : ℕ) → List ℕ → ℕ
index_of byte [] = 0
index_of byte (x ∷ bytes) = index_after (eqb x byte) (index_of byte bytes)

-- A line with more bytes. Beyond 240 bytes a line is refused whatever they are, so 241 are enough.
abbrev pub most_held : ℕ
most_held = 241

abbrev pub with_tail : (line bytes : List ℕ) → List ℕ
with_tail line bytes = take most_held (line ++ bytes)
