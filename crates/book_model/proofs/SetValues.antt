-- Index values by the bytes of the lines that set them: what 11 and 12 test. Assumes nothing.
use mathlib.Core.Path.{◌≡◌, refl, sym, ◌∙◌, ap, subst}
use mathlib.Core.Bool.{Bool, true, false, ◌||◌, true≢false, false≢true}
use mathlib.Core.List.{List}
use mathlib.Core.Logic.{◌↔◌, ◌⊎◌, inl, inr, ⊎_elim}
use Prim.Native.Nat.{ℕ, ◌≤◌}
use native.Mathlib.Omega.{arith}
use lib.Dec.{eqb}
use borrow.Author.Tests.{eqb-true, eqb-false}
use Rattle.line_forms.specs.declared.IndexValue.{IndexValue}
use Rattle.line_forms.specs.declared.Loan.{Loan}
use Rattle.line_forms.specs.declared.Content.{Content}
use Rattle.line_forms.specs.declared.Content.TheVariants.{Loan as loan, Policy as policy, Derivative as derivative, Asset as asset, Amount as amount}
use Rattle.line_forms.specs.declared.Content.TheVariants.{Index as index, Mark as mark}
use Rattle.line_forms.specs.declared.Line.{Line}
use Rattle.line_forms.specs.declared.Line.TheVariants.{Loan as LoanLine, Policy as PolicyLine, Derivative as DerivativeLine, Asset as AssetLine}
use Rattle.line_forms.specs.declared.Line.TheVariants.{Amount as AmountLine, Index as IndexLine, Mark as MarkRead, Refusal}
use Rattle.line_forms.specs.Claims.{ShowsInRange, AfterHeader, line_with, line_content}
use Rattle.line_forms.specs.Readings.{line_of}
use Rattle.line_forms.proofs.LineLaws.{line-accepted}
use Rattle.book_model.specs.declared.Adjustment.{Adjustment}
use Rattle.book_model.specs.Demand2.{IsSet, Indexed, ValuesSet, ValueMissing}
use Rattle.book_model.specs.HouseIndex.{Index, is_indexed_lem, adjustment_of, lacking, values_in}
use Rattle.book_model.specs.Ranges.{IndexRanges, Ranged}
use Rattle.book_model.proofs.Adjustments.{both-set, not-lacking, indexed-months, indexed-is, kept-is}
use Rattle.book_model.proofs.Ledger.{set_line, line_sets}
use Rattle.book_model.proofs.Ranged.{ranged}

-- Lines by their bytes

module _ (s : List ℕ) where
  -- a line read as the data c
  pub shows : (c : Content) → AfterHeader c → line_of s ≡ line_with c → ShowsInRange s c
  shows c a e = let k = (line-accepted s c a).0 e in record { shows = record { writable = k.0; bytes = k.2 }; within_range = k.1 }

  pub read : (c : Content) → AfterHeader c → ShowsInRange s c → line_of s ≡ line_with c
  read c a k = (line-accepted s c a).1 (k.shows.writable, k.within_range, k.shows.bytes)

  -- a line that has the data c
  pub shown : (c : Content) → AfterHeader c → line_content (line_of s) ≡ c → ShowsInRange s c
  shown c a e = go (line_of s) refl e
    where
      read_as : (x : Content) → AfterHeader x → line_of s ≡ line_with x → x ≡ c → ShowsInRange s c
      read_as x b f e = subst (ShowsInRange s) e (shows x b f)

      go : (l : Line) → line_of s ≡ l → line_content l ≡ c → ShowsInRange s c
      go (LoanLine l) f e = read_as (loan l) tt f e
      go (PolicyLine p) f e = read_as (policy p) tt f e
      go (DerivativeLine d) f e = read_as (derivative d) tt f e
      go (AssetLine a) f e = read_as (asset a) tt f e
      go (AmountLine a) f e = read_as (amount a) tt f e
      go (IndexLine v) f e = read_as (index v) tt f e
      go (MarkRead m) f e = read_as (mark m) tt f e
      go (Refusal n) f e = absurd (subst AfterHeader (sym e) a)

  pub index-content : (i : IndexValue) → ShowsInRange s (index i) → line_content (line_of s) ≡ index i
  index-content i h = ap line_content (read (index i) tt h)

  pub loan-content : (l : Loan) → ShowsInRange s (loan l) → line_content (line_of s) ≡ loan l
  loan-content l h = ap line_content (read (loan l) tt h)

-- A value is set exactly where a line taken sets it.
pub is_set : (kept : List (List ℕ)) (area month : ℕ) → IsSet kept area month ↔ (1 ≤ values_in kept area month)
is_set kept area month = (to, from)
  where
    to : IsSet kept area month → 1 ≤ values_in kept area month
    to h =
        let i : IndexValue = record { area = area; month = month; value = h.value } in
        let c = index-content h.line i h.shown in
        let r : IndexRanges i = subst Ranged c (ranged h.line) in
        omega (arith, r.value_least, line_sets kept h.line i h.taken c)

    from : 1 ≤ values_in kept area month → IsSet kept area month
    from h =
        let (s, m, (i, c, x, y)) = set_line kept area month h in
        let same : i ≡ record { area = area; month = month; value = i.value } = λ k. record { area = x k; month = y k; value = i.value } in
        record {
          line = s;
          value = i.value;
          taken = m;
          shown = subst (λ (v : IndexValue). ShowsInRange s (index v)) same (shown s (index i) tt c);
        }

pub not_set : (kept : List (List ℕ)) (area month : ℕ) → (values_in kept area month ≡ 0) ↔ (IsSet kept area month → ⊥)
not_set kept area month = (
  λ z h. omega (arith, z, (is_set kept area month).0 h),
  λ n. go (eqb (values_in kept area month) 0) refl n,
)
  where
    go : (t : Bool) → eqb (values_in kept area month) 0 ≡ t → (IsSet kept area month → ⊥) → values_in kept area month ≡ 0
    go true e n = eqb-true (values_in kept area month) 0 e
    go false e n =
        let d : values_in kept area month ≡ 0 → ⊥ = eqb-false (values_in kept area month) 0 e in
        absurd (n ((is_set kept area month).1 (omega arith)))

pub is-indexed : (l : Loan) → (is_indexed_lem l ≡ true) ↔ Indexed l
is-indexed l = (
  λ e. let (low, high) = (indexed-months l).0 e in record { least = low; most = high },
  λ h. (indexed-months l).1 (h.least, h.most),
)

-- 12's test
module _ (kept : List (List ℕ)) (l : Loan) where
  abbrev values : Index
  values = values_in kept

  abbrev adjustment : Adjustment
  adjustment = adjustment_of values l

  own_is : is_indexed_lem l ≡ true → adjustment.own ≡ values l.area l.from
  own_is e = ap (λ (a : Adjustment). a.own) (indexed-is values l e)

  last-is : is_indexed_lem l ≡ true → adjustment.last ≡ values l.area 201512
  last-is e = ap (λ (a : Adjustment). a.last) (indexed-is values l e)

  pub values-set : lacking adjustment ≡ false → ValuesSet kept l
  values-set e h =
      let t : is_indexed_lem l ≡ true = (is-indexed l).1 h in
      let (own, last) = both-set adjustment e in
      ((is_set kept l.area l.from).1 (omega (arith, own, own_is t)), (is_set kept l.area 201512).1 (omega (arith, last, last-is t)))

  pub set-has : ValuesSet kept l → lacking adjustment ≡ false
  set-has h = go (is_indexed_lem l) refl
    where
      go : (t : Bool) → is_indexed_lem l ≡ t → lacking adjustment ≡ false
      go true t =
          let (own, last) = h ((is-indexed l).0 t) in
          not-lacking adjustment (omega (arith, own_is t, (is_set kept l.area l.from).0 own))
          (omega (arith, last-is t, (is_set kept l.area 201512).0 last))
      go false t = ap lacking (kept-is values l t)

  pub value-missing : lacking adjustment ≡ true → ValueMissing kept l
  value-missing e = go (is_indexed_lem l) refl
    where
      which : is_indexed_lem l ≡ true → (x y : Bool) → eqb adjustment.own 0 ≡ x → eqb adjustment.last 0 ≡ y → (x || y) ≡ true →
          (IsSet kept l.area l.from → ⊥) ⊎ (IsSet kept l.area 201512 → ⊥)
      which t true y p q e = inl ((not_set kept l.area l.from).0 (sym (own_is t) ∙ eqb-true adjustment.own 0 p))
      which t false true p q e = inr ((not_set kept l.area 201512).0 (sym (last-is t) ∙ eqb-true adjustment.last 0 q))
      which t false false p q e = absurd (false≢true e)

      go : (t : Bool) → is_indexed_lem l ≡ t → ValueMissing kept l
      go true t = ((is-indexed l).0 t, which t (eqb adjustment.own 0) (eqb adjustment.last 0) refl refl e)
      go false t = absurd (true≢false (sym e ∙ ap lacking (kept-is values l t)))

  pub missing-lacks : ValueMissing kept l → lacking adjustment ≡ true
  missing-lacks (h, m) = go (lacking adjustment) refl
    where
      go : (t : Bool) → lacking adjustment ≡ t → t ≡ true
      go true e = refl
      go false e = let (own, last) = values-set e h in absurd (⊎_elim (λ n. n own) (λ n. n last) m)
