-- Index values and the loans that go by them, over the lines taken. Assumes nothing.
use mathlib.Core.Path.{◌≡◌, refl, sym, ◌∙◌, ap, ap₂, subst}
use mathlib.Core.Bool.{Bool, true, false}
use mathlib.Core.List.{List, [], ◌∷◌, Memᴰ}
use mathlib.Core.Logic.{◌↔◌}
use Prim.Native.Nat.{ℕ, ◌*◌, ◌≤◌}
use native.Mathlib.Nat.{mul-pos}
use native.Mathlib.Omega.{arith}
use lib.Dec.{eqb}
use borrow.Author.Tests.{eqb-true}
use Rattle.exact.specs.Choice.{pick}
use Rattle.exact.specs.Fraction.{quotient, whole, ◌⊗◌, Equals}
use Rattle.loan_charge.specs.Computation.{charge_of}
use Rattle.line_forms.specs.declared.IndexValue.{IndexValue}
use Rattle.line_forms.specs.declared.Loan.{Loan}
use Rattle.line_forms.specs.declared.Content.TheVariants.{Index as index, Mark as mark}
use Rattle.line_forms.specs.declared.MarkLine.{MarkLine}
use Rattle.line_forms.specs.declared.Content.{Content}
use Rattle.line_forms.specs.Claims.{ShowsInRange, line_content}
use Rattle.line_forms.specs.Readings.{line_of}
use Rattle.book_model.specs.declared.Adjustment.{Adjustment}
use Rattle.book_model.specs.Accepted.{Accepted, refusal_of, taken_up, noted, added, with_mark, accept}
use Rattle.book_model.specs.AdjustedValues.{AdjustedRatio, AdjustedValues}
use Rattle.book_model.specs.Demand2.{Indexed, IsSet, IsReturn}
use Rattle.book_model.specs.History.{History, fed, all_fed, terms_of, accepted_of, lines_taken}
use Rattle.book_model.specs.HouseIndex.{is_indexed_lem, adjustment_of, values_in}
use Rattle.book_model.specs.LineKinds.{of_mark}
use Rattle.book_model.specs.Share.{numbers_with, loan_numbers}
use Rattle.book_model.specs.Terms.{Basis, factor_for, loan_inputs}
use Rattle.book_model.proofs.Adjustments.{Extends, adjusted-alike, indexed-is, kept-is, settled-line}
use Rattle.book_model.proofs.Ledger.{values-stay, good_of}
use Rattle.book_model.proofs.MarkRows.{HeldMark, a_mark, no_mark, held-mark}
use Rattle.book_model.proofs.SetValues.{is_set, is-indexed, values-set, shown, index-content, loan-content}

-- The value is that of the line taken.
values : (past : History) (area month value : ℕ) → 1 ≤ value →
    (values_in (lines_taken past) area month ≡ value) ↔
    ((s : List ℕ) × Memᴰ s (lines_taken past) × ShowsInRange s (index (record { area = area; month = month; value = value })))
values past area month value h = (
  λ e.
      let k : IsSet (lines_taken past) area month = (is_set (lines_taken past) area month).1 (omega (arith, e, h)) in
      let i : IndexValue = record { area = area; month = month; value = k.value } in
      let v : values_in (lines_taken past) area month ≡ k.value = (good_of past).once k.line i k.taken (index-content k.line i k.shown) in (
        k.line,
        k.taken,
        subst (λ (x : ℕ). ShowsInRange k.line (index (record { area = area; month = month; value = x }))) (sym v ∙ e) k.shown,
      ),
  λ (s, m, k).
      let i : IndexValue = record { area = area; month = month; value = value } in
      (good_of past).once s i m (index-content s i k),
)

-- One line more that is no return, taken or not, leaves every value that is set.
stays-fed : (past : History) (s : List ℕ) → (IsReturn s → ⊥) → Extends (values_in (lines_taken past)) (values_in (lines_taken (fed past s)))
unfolding accepted_of accept
stays-fed past s r area month h = go (eqb (refusal_of (terms_of past) (accepted_of past) s) 0) refl
  where
    a : Accepted
    a = accepted_of past

    marked : (m : MarkLine) → line_content (line_of s) ≡ mark m → (back : Bool) → m.back ≡ back →
        values_in (pick back (taken_up a m.name) (noted a m.name)).kept area month ≡ values_in a.kept area month
    marked m e true b =
        absurd (r (m.name, subst (λ (x : Bool). ShowsInRange s (mark (record { back = x; name = m.name }))) b (shown s (mark m) tt e)))
    marked m e false b = refl

    of_either : {c : Content} → HeldMark c → line_content (line_of s) ≡ c → refusal_of (terms_of past) a s ≡ 0 →
        values_in (of_mark (with_mark a) (added a s) c).kept area month ≡ values_in a.kept area month
    of_either (a_mark m) e z = marked m e m.back refl
    of_either (no_mark k) e z =
        ap (λ (x : Accepted). values_in x.kept area month) (k Accepted (with_mark a) (added a s)) ∙ values-stay (terms_of past) a s z area month h

    go : (t : Bool) → eqb (refusal_of (terms_of past) a s) 0 ≡ t →
        values_in (pick t (of_mark (with_mark a) (added a s) (line_content (line_of s))) a).kept area month ≡ values_in a.kept area month
    go true e = of_either (held-mark (line_content (line_of s))) refl (eqb-true (refusal_of (terms_of past) a s) 0 e)
    go false e = refl

stays : (past : History) (lines : List (List ℕ)) → ((s : List ℕ) → Memᴰ s lines → IsReturn s → ⊥) →
    Extends (values_in (lines_taken past)) (values_in (lines_taken (all_fed past lines)))
unfolding all_fed
stays past [] r area month h = refl
stays past (s ∷ lines) r area month h =
    let e = stays-fed past s (r s (Memᴰ.head refl)) area month h in
    stays (fed past s) lines (λ x m. r x (Memᴰ.tail m)) area month (omega (arith, e, h)) ∙ e

-- The ratio that a loan is charged by
adjusted : (value balance last own : ℕ) → 1 ≤ balance → 1 ≤ own →
    Equals (quotient (value * last) (balance * own)) (whole value ⊗ quotient last own ⊗ quotient 1 balance)
adjusted value balance last own b o =
    let p : 1 ≤ balance * own = mul-pos b o in
    record { left = record { positive = p }; right = record { positive = omega (arith, p) }; same = record { crossed = omega arith } }

ratio : (g : Basis) (l : Loan) → AdjustedRatio g l
ratio g l = record {
  indexed = λ h b o.
      rw (indexed-is g.index l ((is-indexed l).1 h))
      (adjusted l.value l.balance (g.index l.area 201512) (g.index l.area l.from) b o);
  kept = λ n. go (is_indexed_lem l) refl n;
}
  where
    go : (t : Bool) → is_indexed_lem l ≡ t → (Indexed l → ⊥) → ((loan_inputs g l).value ≡ l.value) × ((loan_inputs g l).over ≡ l.balance)
    go true t n = absurd (n ((is-indexed l).0 t))
    go false t n = rw (kept-is g.index l t) (omega arith, omega arith)

depends : (g k : Basis) (l : Loan) → factor_for g.terms l.score ≡ factor_for k.terms l.score →
    (Indexed l → (g.index l.area l.from ≡ k.index l.area l.from) × (g.index l.area 201512 ≡ k.index l.area 201512)) →
    loan_numbers g l ≡ loan_numbers k l
unfolding numbers_with
depends g k l m h =
    let a : adjustment_of g.index l ≡ adjustment_of k.index l = adjusted-alike g.index k.index l (λ t. h ((is-indexed l).0 t)) in
    ap₂ (λ (x : Adjustment) (f : ℕ). charge_of (record {
      value = l.value * x.last;
      over = l.balance * x.own;
      balance = l.balance;
      months = l.amortization;
      term = l.term;
      supplement = eqb l.supplement 1;
      factor = f;
    })) a m

pub adjusted_values : AdjustedValues
adjusted_values = record {
  values = values;
  set = λ past area month. ((is_set (lines_taken past) area month).1, (is_set (lines_taken past) area month).0);
  stays = stays;
  settled = λ past s l m h.
      values-set (lines_taken past) l
      (settled-line (values_in (lines_taken past)) (lines_taken past) (good_of past).settled s m l (loan-content s l h));
  ratio = ratio;
  column = λ g l. refl;
  depends = depends;
}
