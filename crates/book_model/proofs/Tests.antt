-- Tests of counts: each holds exactly where one condition does, and fails exactly where another does. Assumes nothing.
use mathlib.Core.Path.{◌≡◌, refl}
use mathlib.Core.Bool.{Bool, true, false, true≢false, false≢true, ◌&&◌, ◌||◌}
use mathlib.Core.Logic.{◌↔◌, ◌⊎◌, inl, inr, ⊎_elim}
use Prim.Native.Nat.{ℕ, ◌+◌, ◌≤◌, ◌<◌}
use native.Mathlib.Omega.{arith}
use lib.Dec.{eqb, leb, ltb}
use mir.Val.{bool_byte}
use borrow.Author.Tests.{eqb-true, eqb-false, leb-true, leb-false, le-leb, lt-leb, ltb-true, ltb-false, lt-ltb, le-ltb}
use Rattle.exact.specs.Choice.{pick}
use Rattle.loan_charge.specs.declared.Score.{Score}
use Rattle.loan_charge.specs.declared.Score.TheVariants.{Scored, Unscored}
use Rattle.line_forms.specs.declared.Header.{Header}
use Rattle.figures.specs.declared.Counts.{Counts}
use Rattle.book_model.specs.Accepted.{loan_beyond_lem}
use Rattle.book_model.specs.Calls.{lacks_lines}
use Rattle.book_model.specs.Demand2.{Fresh, LoanFits, LoanBeyond, CountsShort, CountsReached}
use Rattle.book_model.specs.LineKinds.{unscored_count, fresh_count}

-- a test as a number, as a conversion gives it
pub byte-pick : (t : Bool) → bool_byte t ≡ pick t 1 0
byte-pick true = refl
byte-pick false = refl

pub record Tests (t : Bool) (P Q : Type 0) : Type 0 where
  pub holds : (t ≡ true) ↔ P
  pub fails : (t ≡ false) ↔ Q

at_most : (a b : ℕ) → Tests (leb a b) (a ≤ b) (b < a)
at_most a b = record { holds = (leb-true a b, le-leb a b); fails = (leb-false a b, lt-leb a b) }

below : (a b : ℕ) → Tests (ltb a b) (a < b) (b ≤ a)
below a b = record { holds = (ltb-true a b, lt-ltb a b); fails = (ltb-false a b, le-ltb a b) }

-- where n is 1 exactly for P, and only then counts
counting : {P : Type 0} (n a b : ℕ) → ((n ≡ 1) ↔ P) → Tests (eqb n 1 && leb a b) (P × (a ≤ b)) (P → b < a)
counting {P} n a b e = go (eqb n 1) refl
  where
    go : (t : Bool) → eqb n 1 ≡ t → Tests (t && leb a b) (P × (a ≤ b)) (P → b < a)
    go true f =
        let p : P = e.0 (eqb-true n 1 f) in
        record { holds = (λ x. (p, leb-true a b x), λ (q, l). le-leb a b l); fails = (λ x q. leb-false a b x, λ g. lt-leb a b (g p)) }
    go false f =
        let z : n ≡ 1 → ⊥ = eqb-false n 1 f in
        record { holds = (λ x. absurd (false≢true x), λ (q, l). absurd (z (e.1 q))); fails = (λ x q. absurd (z (e.1 q)), λ g. refl) }

any_of : {A B C X Y Z : Type 0} (a b c : Bool) → Tests a A X → Tests b B Y → Tests c C Z → Tests (a || b || c) (A ⊎ B ⊎ C) (X × Y × Z)
any_of true b c x y z = record {
  holds = (λ e. inl (x.holds.0 refl), λ k. refl);
  fails = (λ e. absurd (true≢false e), λ (q, s, v). absurd (true≢false (x.fails.1 q)));
}
any_of false true c x y z = record {
  holds = (λ e. inr (inl (y.holds.0 refl)), λ k. refl);
  fails = (λ e. absurd (true≢false e), λ (q, s, v). absurd (true≢false (y.fails.1 s)));
}
any_of false false true x y z = record {
  holds = (λ e. inr (inr (z.holds.0 refl)), λ k. refl);
  fails = (λ e. absurd (true≢false e), λ (q, s, v). absurd (true≢false (z.fails.1 v)));
}
any_of false false false x y z = record {
  holds = (λ e. absurd (false≢true e), ⊎_elim x.holds.1 (⊎_elim y.holds.1 z.holds.1));
  fails = (λ e. (x.fails.0 refl, y.fails.0 refl, z.fails.0 refl), λ k. refl);
}

-- What a score counts as

pub unscored-is : (score : Score) → (unscored_count score ≡ 1) ↔ (score ≡ Unscored)
unfolding unscored_count
unscored-is (Scored number age) = (λ e. absurd (omega (arith, e)), λ e. let z : ◌≡◌ {A = ℕ} 0 1 = cc in absurd (omega (arith, z)))
unscored-is Unscored = (λ e. refl, λ e. refl)

one-for : (t : Bool) → (◌≡◌ {A = ℕ} (pick t 1 0) 1) ↔ (t ≡ true)
one-for true = (λ e. refl, λ e. refl)
one-for false = (λ e. absurd (omega (arith, e)), λ e. absurd (false≢true e))

pub fresh-is : (score : Score) → (fresh_count score ≡ 1) ↔ Fresh score
unfolding fresh_count
fresh-is (Scored number age) = (λ e. leb-true age 12 ((one-for (leb age 12)).0 e), λ l. (one-for (leb age 12)).1 (le-leb age 12 l))
fresh-is Unscored = (λ e. absurd (omega (arith, e)), λ e. absurd e)

-- it counts once at most, and as one of the two at most
pub counts-once : (score : Score) → unscored_count score + fresh_count score ≤ 1
unfolding unscored_count fresh_count
counts-once (Scored number age) = go (leb age 12)
  where
    go : (t : Bool) → 0 + pick t 1 0 ≤ 1
    go true = omega arith
    go false = omega arith
counts-once Unscored = omega arith

-- 5 and 6

pub loan-test : (h : Header) (c : Counts) (score : Score) → Tests (loan_beyond_lem h c score) (LoanBeyond h c score) (LoanFits h c score)
loan-test h c score =
    any_of (leb h.loans c.loans) _ _ (at_most h.loans c.loans)
    (counting (unscored_count score) h.unscored c.unscored (unscored-is score))
    (counting (fresh_count score) h.fresh c.fresh (fresh-is score))

pub closing-test : (h : Header) (c : Counts) → Tests (lacks_lines h c) (CountsShort h c) (CountsReached h c)
closing-test h c =
    any_of _ _ _ (below c.loans h.loans) (below c.unscored h.unscored) (below c.fresh h.fresh)
