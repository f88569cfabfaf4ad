-- What a loan's property value is adjusted by: its range, and when two indexes give the same. Assumes nothing.
use mathlib.Core.Path.{◌≡◌, refl, sym, ◌∙◌, ap}
use mathlib.Core.Bool.{Bool, true, false, ◌||◌, true≢false}
use mathlib.Core.List.{List, [], ◌∷◌, Memᴰ}
use mathlib.Core.Logic.{◌↔◌}
use Prim.Native.Nat.{ℕ, ◌*◌, ◌≤◌}
use native.Mathlib.Nat.{mul-pos}
use native.Mathlib.Omega.{arith}
use lib.Dec.{eqb}
use borrow.Author.Tests.{eqb-false, ne_eqb, le-leb}
use Rattle.fixed_point.proofs.Laws.{bounded}
use Rattle.line_forms.specs.declared.Content.{Content}
use Rattle.line_forms.specs.declared.Content.TheVariants.{Loan as loan}
use Rattle.line_forms.specs.declared.Loan.{Loan}
use Rattle.line_forms.specs.Claims.{line_content}
use Rattle.line_forms.specs.Readings.{line_of}
use Rattle.line_forms.proofs.Bytes.{within-bounds}
use Rattle.book_model.specs.declared.Adjustment.{Adjustment}
use Rattle.book_model.specs.Cells.{loan_or}
use Rattle.book_model.specs.HouseIndex.{Index, is_indexed_lem, adjustment_of, lacking}
use Rattle.book_model.specs.Ranges.{LoanRanges, AdjustmentRanges}

-- data whose loan, if it is one, has the index values that it wants
abbrev pub Has : Index → Content → Type 0
Has values c = loan_or (λ l. lacking (adjustment_of values l)) false c ≡ false

-- and every line of a list
unfoldable pub Settled : Index → List (List ℕ) → Type 0
Settled values [] = Unit {0}
Settled values (s ∷ kept) = Has values (line_content (line_of s)) × Settled values kept

-- no value is above the range of index lines
abbrev pub InHundredths : Index → Type 0
InHundredths values = (area month : ℕ) → values area month ≤ 1000000

-- both values are set
pub both-set : (a : Adjustment) → lacking a ≡ false → (1 ≤ a.own) × (1 ≤ a.last)
both-set a e = go (eqb a.own 0) (eqb a.last 0) refl refl e
  where
    go : (x y : Bool) → eqb a.own 0 ≡ x → eqb a.last 0 ≡ y → (x || y) ≡ false → (1 ≤ a.own) × (1 ≤ a.last)
    go true y p q e = absurd (true≢false e)
    go false true p q e = absurd (true≢false e)
    go false false p q e =
        let m : a.own ≡ 0 → ⊥ = eqb-false a.own 0 p in
        let n : a.last ≡ 0 → ⊥ = eqb-false a.last 0 q in
        (omega arith, omega arith)

pub not-lacking : (a : Adjustment) → 1 ≤ a.own → 1 ≤ a.last → lacking a ≡ false
not-lacking a h k = rw (ne_eqb a.own 0 (λ e. omega (arith, e)), ne_eqb a.last 0 (λ e. omega (arith, e))) refl

-- The laws of the adjustment, by which all other proofs know it

-- the months in inequalities
pub indexed-months : (l : Loan) → (is_indexed_lem l ≡ true) ↔ ((200501 ≤ l.from) × (l.from ≤ 201511))
unfolding is_indexed_lem
indexed-months l = (within-bounds 200501 201511 l.from, λ (low, high). rw (le-leb 200501 l.from low, le-leb l.from 201511 high) refl)

-- the two values of a loan that goes by the index
pub indexed-is : (values : Index) (l : Loan) → is_indexed_lem l ≡ true →
    adjustment_of values l ≡ record { last = values l.area 201512; own = values l.area l.from }
unfolding adjustment_of
indexed-is values l e = rw e refl

pub kept-is : (values : Index) (l : Loan) → is_indexed_lem l ≡ false → adjustment_of values l ≡ record { last = 1; own = 1 }
unfolding adjustment_of
kept-is values l e = rw e refl

-- what any adjustment is at most
adjustment-most : (values : Index) → InHundredths values → (l : Loan) → ((adjustment_of values l).own ≤ 1000000) × ((adjustment_of values l).last ≤ 1000000)
adjustment-most values h l = go (is_indexed_lem l) refl
  where
    go : (t : Bool) → is_indexed_lem l ≡ t → ((adjustment_of values l).own ≤ 1000000) × ((adjustment_of values l).last ≤ 1000000)
    go true e = rw (indexed-is values l e) (h l.area l.from, h l.area 201512)
    go false e = rw (kept-is values l e) (omega arith, omega arith)

pub adjustment-ranges : {values : Index} → InHundredths values → (l : Loan) → lacking (adjustment_of values l) ≡ false → AdjustmentRanges (adjustment_of values l)
adjustment-ranges {values} h l e =
    let most = adjustment-most values h l in
    record { own_least = (both-set (adjustment_of values l) e).0; own_most = most.0; last_most = most.1 }

-- the adjusted value over the adjusted balance fits
pub record RatioRanges (a : Adjustment) (l : Loan) : Type 0 where
  pub value_most : l.value * a.last ≤ 10000000000000000
  pub over_least : 1 ≤ l.balance * a.own
  pub over_most : l.balance * a.own ≤ 200000000000000

pub ratio-ranges : (a : Adjustment) (l : Loan) → LoanRanges l → AdjustmentRanges a → RatioRanges a l
ratio-ranges a l r k = record {
  value_most = bounded l.value a.last 10000000000 1000000 r.value_most k.last_most;
  over_least = mul-pos r.balance_least k.own_least;
  over_most = bounded l.balance a.own 200000000 1000000 r.balance_most k.own_most;
}

-- Two indexes that agree on a loan's values adjust it alike.
pub adjusted-alike : (values others : Index) (l : Loan) →
    (is_indexed_lem l ≡ true → (values l.area l.from ≡ others l.area l.from) × (values l.area 201512 ≡ others l.area 201512)) →
    adjustment_of values l ≡ adjustment_of others l
adjusted-alike values others l h = go (is_indexed_lem l) refl
  where
    go : (t : Bool) → is_indexed_lem l ≡ t → adjustment_of values l ≡ adjustment_of others l
    go true e =
        let (x, y) = h e in
        indexed-is values l e ∙ (λ i. record { last = y i; own = x i }) ∙ sym (indexed-is others l e)
    go false e = kept-is values l e ∙ sym (kept-is others l e)

-- Data that two indexes adjust alike
abbrev pub Alike : Index → Index → Content → Type 0
Alike values others c = (l : Loan) → c ≡ loan l → adjustment_of values l ≡ adjustment_of others l

-- `others` has every value that `values` has
abbrev pub Extends : Index → Index → Type 0
Extends values others = (area month : ℕ) → 1 ≤ values area month → others area month ≡ values area month

pub extended : {values others : Index} → Extends values others → (l : Loan) → lacking (adjustment_of values l) ≡ false →
    adjustment_of values l ≡ adjustment_of others l
extended {values} {others} x l e =
    adjusted-alike values others l
    (λ t.
    let (own, last) = both-set (adjustment_of values l) e in
    let a = indexed-is values l t in (
      sym (x l.area l.from (omega (arith, own, ap (λ (z : Adjustment). z.own) a))),
      sym (x l.area 201512 (omega (arith, last, ap (λ (z : Adjustment). z.last) a))),
    ))

-- what a line's data wants, by its loan
pub loan-has : (values : Index) {c : Content} (l : Loan) → c ≡ loan l → Has values c → lacking (adjustment_of values l) ≡ false
loan-has values l e h = ap (loan_or (λ x. lacking (adjustment_of values x)) false) (sym e) ∙ h

-- a loan of a list has its values
pub settled-line : (by : Index) (kept : List (List ℕ)) → Settled by kept → (s : List ℕ) → Memᴰ s kept → (l : Loan) → line_content (line_of s) ≡ loan l →
    lacking (adjustment_of by l) ≡ false
unfolding Settled
settled-line by (r ∷ kept) h s (Memᴰ.head e) l c = loan-has by l (ap (λ (x : List ℕ). line_content (line_of x)) (sym e) ∙ c) h.0
settled-line by [] h s x3 l c = elim x3 [ ]
settled-line by (r ∷ kept) h s (Memᴰ.tail m) l c = settled-line by kept h.1 s m l c

pub still_alike : {values others : Index} → Extends values others → {c : Content} → Has values c → Alike values others c
still_alike {values} x h l e = extended x l (loan-has values l e h)
