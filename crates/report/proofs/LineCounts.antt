-- How many lines a text has: digits and signs end none, and a line of a name and a number is one. Assumes nothing.
use mathlib.Core.Path.{◌≡◌, refl, sym, ◌∙◌}
use mathlib.Core.Bool.{Bool, true, false}
use mathlib.Core.List.{List, [], ◌∷◌, ◌++◌}
use Prim.Native.Nat.{ℕ, zero, suc, ◌+◌, ◌-◌, ◌/◌, ◌%◌}
use native.Mathlib.Omega.{arith}
use lib.Dec.{eqb, ltb}
use borrow.Author.Tests.{ne_eqb}
use Rattle.exact.specs.Choice.{pick}
use Rattle.exact.specs.Text.{text}
use Rattle.fixed_point.specs.declared.Signed.{Signed}
use Rattle.report.specs.Decimal.{digit, leading, digits, signed}
use Rattle.report.specs.Line.{spaced, line, line_count}

pub count-append : (a b : List ℕ) → line_count (a ++ b) ≡ line_count a + line_count b
unfolding line_count
count-append [] b = sym (omega arith)
count-append (x ∷ a) b = go (eqb x 10) (count-append a b)
  where
    go : (t : Bool) → line_count (a ++ b) ≡ line_count a + line_count b →
        pick t (suc (line_count (a ++ b))) (line_count (a ++ b)) ≡ pick t (suc (line_count a)) (line_count a) + line_count b
    go true ih = omega (arith, ih)
    go false ih = ih

digit-none : (d : ℕ) → line_count (digit d ∷ []) ≡ 0
unfolding line_count
digit-none d = rw (ne_eqb (48 + d) 10 (λ e. omega (arith, e))) refl

leading-none : (k n : ℕ) → line_count (leading k n) ≡ 0
unfolding leading line_count
leading-none zero n = refl
leading-none (suc k) zero = refl
leading-none (suc k) (suc m) =
    count-append (leading k (suc m / 10)) (digit (suc m % 10) ∷ []) ∙ omega (arith, leading-none k (suc m / 10), digit-none (suc m % 10))

digits-none : (n : ℕ) → line_count (digits n) ≡ 0
unfolding digits
digits-none n = count-append (leading n (n / 10)) (digit (n % 10) ∷ []) ∙ omega (arith, leading-none n (n / 10), digit-none (n % 10))

minus-none : line_count (text "-") ≡ 0
unfolding line_count
minus-none = refl

signed-none : (v : Signed) → line_count (signed v) ≡ 0
unfolding signed
signed-none v = go (ltb v.plus v.minus)
  where
    go : (t : Bool) → line_count (pick t (text "-" ++ digits (v.minus - v.plus)) (digits (v.plus - v.minus))) ≡ 0
    go true = count-append (text "-") (digits (v.minus - v.plus)) ∙ omega (arith, digits-none (v.minus - v.plus), minus-none)
    go false = digits-none (v.plus - v.minus)

-- a text of n lines
pub record Lines (s : List ℕ) (n : ℕ) : Type 0 where
  pub many : line_count s ≡ n

pub together : {a b : List ℕ} {m n : ℕ} → Lines a m → Lines b n → Lines (a ++ b) (m + n)
together {a} {b} h k = record { many = omega (arith, count-append a b, h.many, k.many) }

-- one of a number, under a name that ends no line
pub one_line : (name : List ℕ) (v : Signed) → line_count name ≡ 0 → Lines (line name (signed v ∷ [])) 1
unfolding line_count
one_line name v h =
    let w = signed v in
    record {
      many = count-append (name ++ spaced (w ∷ [])) (text ")\n")
          ∙ omega (arith, h, signed-none v, count-append name (spaced (w ∷ [])), count-append w []);
    }
