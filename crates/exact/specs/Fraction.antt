-- Signed fractions of natural numbers, in which every exact quantity of the papers is written. No rounding anywhere.
use Rattle.std.specs.Prelude.{ℕ, ◌+◌, ◌*◌, ◌-◌, ◌/◌, ◌≤◌, ◌<◌, max, min, ◌≡◌}

infix 50 ◌≼◌
infix 50 ◌≺◌
infix 50 ◌≈◌
infixl 60 ◌⊕◌
infixl 60 ◌⊖◌
infixl 70 ◌⊗◌
-- (plus - minus) / over
pub record Fraction : Type 0 where
  pub plus : ℕ
  pub minus : ℕ
  pub over : ℕ

-- A fraction has a denominator above 0. The orders below do not ask for this, and 0/0 meets each of them: what states one says `Proper`
-- beside it, or `Equals`.
pub record Proper (x : Fraction) : Type 0 where
  pub positive : 0 < x.over

-- a / b
abbrev pub quotient : ℕ → ℕ → Fraction
quotient a b = record { plus = a; minus = 0; over = b }

-- the whole number a
abbrev pub whole : ℕ → Fraction
whole a = quotient a 1

abbrev pub negated : Fraction → Fraction
negated x = record { plus = x.minus; minus = x.plus; over = x.over }

abbrev pub ◌⊕◌ : Fraction → Fraction → Fraction
x ⊕ y = record {
  plus = x.plus * y.over + y.plus * x.over;
  minus = x.minus * y.over + y.minus * x.over;
  over = x.over * y.over;
}

abbrev pub ◌⊖◌ : Fraction → Fraction → Fraction
x ⊖ y = x ⊕ negated y

abbrev pub ◌⊗◌ : Fraction → Fraction → Fraction
x ⊗ y = record {
  plus = x.plus * y.plus + x.minus * y.minus;
  minus = x.plus * y.minus + x.minus * y.plus;
  over = x.over * y.over;
}

-- Order by cross multiplication, each minus brought to the other side: x is at most y
pub record ◌≼◌ (x y : Fraction) : Type 0 where
  pub crossed : x.plus * y.over + y.minus * x.over ≤ y.plus * x.over + x.minus * y.over

-- x is below y
pub record ◌≺◌ (x y : Fraction) : Type 0 where
  pub crossed : x.plus * y.over + y.minus * x.over < y.plus * x.over + x.minus * y.over

-- x and y are the same number
pub record ◌≈◌ (x y : Fraction) : Type 0 where
  pub crossed : x.plus * y.over + y.minus * x.over ≡ y.plus * x.over + x.minus * y.over

-- x and y are fractions and the same number
pub record Equals (x y : Fraction) : Type 0 where
  pub left : Proper x
  pub right : Proper y
  pub same : x ≈ y

-- the larger and the smaller of two
abbrev pub larger : Fraction → Fraction → Fraction
larger x y = record {
  plus = max (x.plus * y.over + y.minus * x.over) (y.plus * x.over + x.minus * y.over);
  minus = x.minus * y.over + y.minus * x.over;
  over = x.over * y.over;
}

abbrev pub smaller : Fraction → Fraction → Fraction
smaller x y = record {
  plus = min (x.plus * y.over + y.minus * x.over) (y.plus * x.over + x.minus * y.over);
  minus = x.minus * y.over + y.minus * x.over;
  over = x.over * y.over;
}

-- 1 / x, for x above 0
abbrev pub reciprocal : Fraction → Fraction
reciprocal x = quotient x.over (x.plus - x.minus)

-- x rounded up to a whole number, for x at or above 0
unfoldable pub ceiling : Fraction → ℕ
ceiling x = (x.plus - x.minus + (x.over - 1)) / x.over
