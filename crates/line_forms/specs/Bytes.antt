-- Bytes of a line.
use Rattle.std.specs.Prelude.{ℕ, ◌+◌, Bool, true, false, ◌&&◌, List, [], ◌∷◌, leb, eqb, length, take, drop}
use Rattle.exact.specs.Choice.{pick}

-- low ≤ n ≤ high
abbrev pub within : ℕ → ℕ → ℕ → Bool
within low high n = leb low n && leb n high

unfoldable pub all_within : ℕ → ℕ → List ℕ → Bool
all_within low high [] = true
all_within low high (b ∷ s) = within low high b && all_within low high s

-- the longest beginning of bytes from low to high
unfoldable pub run_of : ℕ → ℕ → List ℕ → List ℕ
run_of low high [] = []
run_of low high (b ∷ s) = pick (within low high b) (b ∷ run_of low high s) []

-- whether two byte strings are the same
unfoldable pub same : List ℕ → List ℕ → Bool
same [] [] = true
same [] (y ∷ t) = false
same (x ∷ s) [] = false
same (x ∷ s) (y ∷ t) = eqb x y && same s t

-- A position in a line. Past the end no text stands, so a reading that has failed fails to its end.
abbrev pub past : List ℕ → ℕ
past s = length s + 1

-- whether the text t stands at a position
abbrev pub stands_at : List ℕ → ℕ → List ℕ → Bool
stands_at s at t = leb (at + length t) (length s) && same (take (length t) (drop at s)) t

-- the position after the text t, where t stands at `at`
unfoldable pub after : List ℕ → ℕ → List ℕ → ℕ
after s at t = pick (stands_at s at t) (at + length t) (past s)
