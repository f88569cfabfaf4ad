-- The exact requirement of a book in cents (document 01, "The rest, and closing"), from exact sums: no rounding.
use Rattle.std.specs.Prelude.{ℕ}
use Rattle.exact.specs.Fraction.{Fraction, quotient, whole, ◌⊕◌, ◌⊖◌, ◌⊗◌, larger}

-- the larger of total - held and 0
unfoldable pub exact_home : Fraction → ℕ → Fraction
exact_home total held = larger (total ⊖ whole held) (whole 0)

-- operational risk (000, V): the larger of home + rest - supplement and 0, divided by 5
unfoldable pub exact_oper : Fraction → Fraction → Fraction → Fraction
exact_oper home rest supplement = larger (home ⊕ rest ⊖ supplement) (whole 0) ⊗ quotient 1 5

-- home + rest + oper
unfoldable pub exact_required : (total supplement rest : Fraction) (held : ℕ) → Fraction
exact_required total supplement rest held =
    exact_home total held ⊕ rest ⊕ exact_oper (exact_home total held) rest supplement
