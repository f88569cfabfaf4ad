-- Closing by cases of its tests, for any text and any size asked. Assumes nothing.
use mathlib.Core.Path.{◌≡◌, refl, ◌∙◌}
use mathlib.Core.Bool.{Bool, true, false, true≢false, false≢true}
use mathlib.Core.List.{List}
use mathlib.Core.Logic.{◌↔◌}
use Prim.Native.Nat.{ℕ, ◌≤◌, ◌<◌}
use native.Mathlib.Omega.{arith}
use lib.Dec.{eqb, ltb}
use lib.ListN.{length}
use borrow.Author.Tests.{ltb-true, ltb-false, lt-ltb, le-ltb, eq-eqb, ne_eqb, eqb-true}
use Rattle.exact.specs.Choice.{pick}
use Rattle.line_forms.specs.declared.Header.{Header}
use Rattle.figures.specs.declared.Counts.{Counts}
use Rattle.report.specs.Line.{onto, Written}
use Rattle.book_model.specs.declared.Book.{Book}
use Rattle.book_model.specs.Calls.{Closed, lacks_lines, closing_refusal_lem, closing_with, closed_with}
use Rattle.book_model.specs.Demand2.{CountsShort, CountsReached}
use Rattle.book_model.proofs.Tests.{closing-test}

-- an answer of closing and the buffer as it leaves it
abbrev Answers : (least : ℕ) → Book → (text buffer : List ℕ) → Closed → List ℕ → Type 0
Answers least b text buffer answer after = (answer ≡ closing_with least b text (length buffer)) × (after ≡ closed_with least b text buffer)

module _ (least : ℕ) (b : Book) (text buffer : List ℕ) where
  pub refused : {n : ℕ} → n ≡ closing_refusal_lem least b.header b.sums.counts (length buffer) → (n ≡ 0 → ⊥) →
      Answers least b text buffer (record { refusal = n; length = 0 }) buffer
  unfolding closing_with closed_with
  refused {n} e h =
      let z = ne_eqb (closing_refusal_lem least b.header b.sums.counts (length buffer)) 0 (λ z. h (e ∙ z)) in
      (rw z (λ i. record { refusal = e i; length = 0 }), rw z refl)

  pub written : closing_refusal_lem least b.header b.sums.counts (length buffer) ≡ 0 → {told : ℕ} {after : List ℕ} → Written buffer text told after →
      Answers least b text buffer (record { refusal = 0; length = told }) after
  unfolding closing_with closed_with
  written e w = (rw e (λ i. record { refusal = 0; length = w.count i }), rw e w.bytes)

  pub untouched : ((closing_with least b text (length buffer)).refusal ≡ 0 → ⊥) → closed_with least b text buffer ≡ buffer
  unfolding closing_with closed_with
  untouched n = go (eqb (closing_refusal_lem least b.header b.sums.counts (length buffer)) 0) refl
    where
      go : (t : Bool) → eqb (closing_refusal_lem least b.header b.sums.counts (length buffer)) 0 ≡ t → pick t (onto buffer text) buffer ≡ buffer
      go true e = absurd (n (eqb-true (closing_refusal_lem least b.header b.sums.counts (length buffer)) 0 e))
      go false e = refl

  pub writes : (closing_with least b text (length buffer)).refusal ≡ 0 → closed_with least b text buffer ≡ onto buffer text
  unfolding closing_with closed_with
  writes e = rw (eq-eqb (closing_refusal_lem least b.header b.sums.counts (length buffer)) 0 e) refl

pub not-refused : (least : ℕ) (b : Book) (text : List ℕ) (size : ℕ) → lacks_lines b.header b.sums.counts ≡ false → least ≤ size →
    (closing_with least b text size).refusal ≡ 0
unfolding closing_with
not-refused least b text size e h = rw (e, le-ltb size least h) refl

pub tells : (least : ℕ) (b : Book) (text : List ℕ) (size : ℕ) → (closing_with least b text size).refusal ≡ 0 → (closing_with least b text size).length ≡ length text
unfolding closing_with
tells least b text size e = rw (eq-eqb (closing_refusal_lem least b.header b.sums.counts size) 0 e) refl

-- When, and only when, each number is answered.

abbrev number : Bool → Bool → ℕ
number x y = pick x 6 (pick y 9 0)

only-6 : (x y : Bool) → (number x y ≡ 6) ↔ (x ≡ true)
only-6 true y = (λ e. refl, λ e. refl)
only-6 false true = (λ e. absurd (omega (arith, e)), λ e. absurd (false≢true e))
only-6 false false = (λ e. absurd (omega (arith, e)), λ e. absurd (false≢true e))

only-9 : (x y : Bool) → (number x y ≡ 9) ↔ ((x ≡ false) × (y ≡ true))
only-9 true y = (λ e. absurd (omega (arith, e)), λ e. absurd (true≢false e.0))
only-9 false true = (λ e. (refl, refl), λ e. refl)
only-9 false false = (λ e. absurd (omega (arith, e)), λ e. absurd (false≢true e.1))

only-0 : (x y : Bool) → (number x y ≡ 0) ↔ ((x ≡ false) × (y ≡ false))
only-0 true y = (λ e. absurd (omega (arith, e)), λ e. absurd (true≢false e.0))
only-0 false true = (λ e. absurd (omega (arith, e)), λ e. absurd (true≢false e.1))
only-0 false false = (λ e. (refl, refl), λ e. refl)

module _ (least : ℕ) (h : Header) (c : Counts) (size : ℕ) where
  pub gives-6 : lacks_lines h c ≡ true → 6 ≡ closing_refusal_lem least h c size
  gives-6 e = rw e refl

  pub gives-9 : lacks_lines h c ≡ false → size < least → 9 ≡ closing_refusal_lem least h c size
  gives-9 e k = rw (e, lt-ltb size least k) refl

  pub gives-0 : lacks_lines h c ≡ false → least ≤ size → 0 ≡ closing_refusal_lem least h c size
  gives-0 e k = rw (e, le-ltb size least k) refl

  pub closes-6 : (closing_refusal_lem least h c size ≡ 6) ↔ CountsShort h c
  closes-6 = (
    λ e. (closing-test h c).holds.0 ((only-6 (lacks_lines h c) (ltb size least)).0 e),
    λ k. (only-6 (lacks_lines h c) (ltb size least)).1 ((closing-test h c).holds.1 k),
  )

  pub closes-9 : (closing_refusal_lem least h c size ≡ 9) ↔ (CountsReached h c × (size < least))
  closes-9 = (
    λ e. let (x, y) = (only-9 (lacks_lines h c) (ltb size least)).0 e in ((closing-test h c).fails.0 x, ltb-true size least y),
    λ (k, z). (only-9 (lacks_lines h c) (ltb size least)).1 ((closing-test h c).fails.1 k, lt-ltb size least z),
  )

  pub closes-0 : (closing_refusal_lem least h c size ≡ 0) ↔ (CountsReached h c × (least ≤ size))
  closes-0 = (
    λ e. let (x, y) = (only-0 (lacks_lines h c) (ltb size least)).0 e in ((closing-test h c).fails.0 x, ltb-false size least y),
    λ (k, z). (only-0 (lacks_lines h c) (ltb size least)).1 ((closing-test h c).fails.1 k, le-ltb size least z),
  )
