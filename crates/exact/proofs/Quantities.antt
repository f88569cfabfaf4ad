-- A law that holds from some order on with exp(-y) taken as 1 / E(m) gives document 01's statements about every allowed order.
-- Assumes nothing.
use mathlib.Core.Path.{◌≡◌, refl}
use mathlib.Core.List.Memᴰ
use mathlib.Core.List.{List, [], ◌∷◌, Memᴰ, ◌++◌}
use mathlib.Core.Logic.{⊎_elim}
use Prim.Native.Nat.{ℕ, ◌+◌, ◌-◌, ◌*◌, ◌≤◌, max}
use native.Mathlib.Nat.{le-max_left, le-max_right, le_trans, mul-le-mul_left}
use native.Mathlib.Omega.{arith}
use Rattle.exact.specs.Fraction.{Fraction, Proper}
use Rattle.exact.specs.Exponential.{Allowed, bracket_high}
use Rattle.exact.specs.Quantity.{Assignment, Quantity, AllowedAll, InBrackets, AtEveryOrder, SomeAllowed, Eventually}
use Rattle.exact.proofs.Bridge.{At, at_of, at_same, inside, high-alike, allowed_of}

-- An exponent: a fraction at or above 0.
pub record Exponent (y : Fraction) : Type 0 where
  pub proper : Proper y
  pub nonnegative : y.minus ≤ y.plus

-- every fraction of the list is an exponent
abbrev pub Exponents : List Fraction → Type 0
Exponents ys = (y : Fraction) → Memᴰ y ys → Exponent y

pub no-exponents : Exponents []
no-exponents y k = absurd (Memᴰ.not-nil k)

pub more-exponents : {y : Fraction} {ys : List Fraction} → Exponent y → Exponents ys → Exponents (y ∷ ys)
more-exponents h hs y k = ⊎_elim (λ e. rw e h) (λ j. hs y j) (Memᴰ.cases_cons k)

pub appended-exponents : (xs : List Fraction) {ys : List Fraction} → Exponents xs → Exponents ys → Exponents (xs ++ ys)
appended-exponents xs hx hy y k = ⊎_elim (λ j. hx y j) (λ j. hy y j) (Memᴰ.append_cases xs k)

-- the natural numerator and denominator of an exponent
at : {y : Fraction} → Exponent y → At y (y.plus - y.minus) y.over
at e = at_of e.proper (record { above = e.nonnegative })

-- with exp(-y) taken as 1 / E(m), all exponentials lie in their brackets of any allowed order up to m
pub in-brackets : {ys : List Fraction} → Exponents ys → (n m : ℕ) → n ≤ m → AllowedAll n ys → InBrackets n ys (bracket_high m)
in-brackets e n m l a =
    record {
      inside = λ y h. inside (at (e y h)) n m l (a.each y h);
      alike = λ y z h k s. high-alike (at (e y h)) (at_same (e z k).proper s (at (e y h))) m;
    }

pub at-every-order : (q : Quantity) (Holds : Fraction → Type 0) → Exponents q.exponents →
    Eventually (λ x. Proper (q.value x) × Holds (q.value x)) → AtEveryOrder q Holds
at-every-order q Holds e v =
    record {
      at_order = λ n a.
          let m : ℕ = max n v.from in
          let h : Proper (q.value (bracket_high m)) × Holds (q.value (bracket_high m)) = v.holds m (le-max_right n v.from) in
          (bracket_high m, in-brackets e n m (le-max_left n v.from) a, h.0, h.1);
    }

pub both : {A B : Assignment → Type 0} → Eventually A → Eventually B → Eventually (λ x. A x × B x)
both u v =
    record {
      from = max u.from v.from;
      holds = λ m h. (u.holds m (le_trans (le-max_left u.from v.from) h), v.holds m (le_trans (le-max_right u.from v.from) h));
    }

pub mapped : {A B : Assignment → Type 0} → ((m : ℕ) → A (bracket_high m) → B (bracket_high m)) → Eventually A → Eventually B
mapped f u = record { from = u.from; holds = λ m h. f m (u.holds m h) }

pub always : {A : Assignment → Type 0} → ((m : ℕ) → A (bracket_high m)) → Eventually A
always f = record { from = 0; holds = λ m h. f m }

-- Every order from twice the numerator on is allowed,
large-allowed : {y : Fraction} → Exponent y → (n : ℕ) → 2 * (y.plus - y.minus) ≤ n → Allowed n y
large-allowed {y} e n h =
    allowed_of (at e) n (omega (arith, mul-le-mul_left (n + 2) e.proper.positive))

-- so some order is allowed for any list of exponents.
pub some-allowed : (ys : List Fraction) → Exponents ys → SomeAllowed ys
some-allowed [] e = record { from = 0; allowed = λ n h. record { each = λ y k. absurd (Memᴰ.not-nil k) } }
some-allowed (y ∷ ys) e =
    let rest : SomeAllowed ys = some-allowed ys (λ z k. e z (Memᴰ.tail k)) in
    record {
      from = max (2 * (y.plus - y.minus)) rest.from;
      allowed = λ n h. record {
        each = λ z k. ⊎_elim
            (λ (same : z ≡ y). rw same (large-allowed (e y (Memᴰ.head refl)) n (le_trans (le-max_left (2 * (y.plus - y.minus)) rest.from) h)))
            (λ (in_rest : Memᴰ z ys). (rest.allowed n (le_trans (le-max_right (2 * (y.plus - y.minus)) rest.from) h)).each z in_rest)
            (Memᴰ.cases_cons k);
      };
    }
