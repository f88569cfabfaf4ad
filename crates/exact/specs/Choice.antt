-- Choosing by a test, as the definitions of all crates do.
use Rattle.std.specs.Prelude.{ℕ, Bool, true, false, leb}

-- x where the test holds, else y
abbrev pub pick : {A : Type 0} → Bool → A → A → A
pick true x y = x
pick false x y = y

-- x up to the limit, the limit included, and y above it
abbrev pub up_to : {A : Type 0} → ℕ → ℕ → A → A → A
up_to limit n x y = pick (leb n limit) x y
