-- Need not be believed: no public contract names it. Numbers in any base; those of digits and of letters are instances (proofs/Numbers.antt).
use Rattle.std.specs.Prelude.{ℕ, ◌+◌, ◌-◌, ◌*◌, ◌^◌, ◌≤◌, ◌≡◌, true, List, [], ◌∷◌, length}
use Rattle.line_forms.specs.Bytes.{all_within}

-- the number that bytes after the number a write, each worth how far it lies above `before`
unfoldable pub number_from : ℕ → ℕ → ℕ → List ℕ → ℕ
number_from base before a [] = a
number_from base before a (b ∷ t) = number_from base before (a * base + (b - before)) t

-- bytes worth at most the base, so few that their number fits
pub record Written (base before : ℕ) (t : List ℕ) : Type 0 where
  pub worth : all_within before (before + base) t ≡ true
  pub fits : (base + 1) ^ length t ≤ 18446744073709551615
