-- Tests of a header's counts: in inequalities, and with no product or sum that might not fit.
use Prim.Native.Nat.{ℕ, ◌+◌, ◌-◌, ◌*◌, ◌/◌, ◌≤◌, ◌<◌}
use native.Mathlib.Omega.{arith}
use mathlib.Core.Path.{◌≡◌, refl, sym}
use mathlib.Core.Bool.{Bool, true, false}
use mathlib.Core.Logic.{◌↔◌}
use borrow.Author.Tests.{lt-ltb, le-ltb, ltb-true, ltb-false}
use lib.Dec.{ltb}
use Rattle.line_forms.specs.Contents.{on_aged_table_lem}
use Rattle.line_forms.specs.declared.Header.{Header}

-- two tests agree where their inequalities do
agree : (a b c d : ℕ) → (a < b → c < d) → (b ≤ a → d ≤ c) → ltb a b ≡ ltb c d
agree a b c d f g = go (ltb a b) refl
  where
    go : (t : Bool) → ltb a b ≡ t → t ≡ ltb c d
    go true e = sym (lt-ltb c d (f (ltb-true a b e)))
    go false e = sym (le-ltb c d (g (ltb-false a b e)))

-- nine tenths, rounded up, are all less a tenth, rounded down
pub nine-tenths : (fresh loans : ℕ) → ltb fresh (loans - loans / 10) ≡ ltb (10 * fresh) (9 * loans)
nine-tenths fresh loans =
    agree fresh (loans - loans / 10) (10 * fresh) (9 * loans) (λ l. omega (arith, l)) (λ l. omega (arith, l))

pub both-counts : (loans unscored fresh : ℕ) → unscored ≤ loans → ltb (loans - unscored) fresh ≡ ltb loans (unscored + fresh)
both-counts loans unscored fresh u =
    agree (loans - unscored) fresh loans (unscored + fresh) (λ l. omega (arith, l, u)) (λ l. omega (arith, l, u))

-- 02, L5: which table serves
pub aged-serves : (h : Header) → (on_aged_table_lem h ≡ true) ↔ (10 * h.fresh < 9 * h.loans)
unfolding on_aged_table_lem
aged-serves h = (ltb-true (10 * h.fresh) (9 * h.loans), lt-ltb (10 * h.fresh) (9 * h.loans))

pub first-serves : (h : Header) → (on_aged_table_lem h ≡ false) ↔ (9 * h.loans ≤ 10 * h.fresh)
unfolding on_aged_table_lem
first-serves h = (ltb-false (10 * h.fresh) (9 * h.loans), le-ltb (10 * h.fresh) (9 * h.loans))
