-- Two bases that give the loans of a list the same factors and the same adjustments charge the list alike. Assumes nothing.
use mathlib.Core.Path.{◌≡◌, refl, sym, ◌∙◌, ap, ap₂}
use mathlib.Core.Bool.{Bool, true, false, true≢false}
use mathlib.Core.List.{List, [], ◌∷◌, Memᴰ}
use mathlib.Core.Logic.{◌↔◌}
use Prim.Native.Nat.{ℕ, ◌+◌, ◌*◌, ◌≤◌, ◌<◌}
use native.Mathlib.Omega.{arith}
use lib.Dec.{eqb, ltb}
use borrow.Author.Tests.{ltb-true, lt-ltb}
use Rattle.exact.specs.Choice.{pick}
use Rattle.loan_charge.specs.declared.Score.{Score}
use Rattle.loan_charge.specs.declared.Score.TheVariants.{Scored, Unscored}
use Rattle.loan_charge.specs.declared.charge.LoanCharge.{LoanCharge}
use Rattle.loan_charge.specs.Computation.{charge_of}
use Rattle.loan_charge.specs.CreditFactor.{credit_factor_lem, scored_factor_lem, unscored_factor_lem, hundredths}
use Rattle.line_forms.specs.declared.Header.{Header}
use Rattle.line_forms.specs.declared.Loan.{Loan}
use Rattle.line_forms.specs.declared.Content.{Content}
use Rattle.line_forms.specs.declared.Content.TheVariants.{Header as header, Loan as loan, Policy as policy, Derivative as derivative, Asset as asset}
use Rattle.line_forms.specs.declared.Content.TheVariants.{Amount as amount, Index as index, Mark as mark, NoForm}
use Rattle.line_forms.specs.Claims.{line_refusal, line_content}
use Rattle.line_forms.specs.Contents.{on_aged_table_lem}
use Rattle.line_forms.specs.Readings.{line_of}
use Rattle.line_forms.proofs.HeaderCounts.{first-serves}
use Rattle.figures.specs.Sums.{zero_signed, zero_money, plus, sum_of}
use Rattle.cell_report.specs.CellReport.{place_of}
use Rattle.book_model.specs.declared.Adjustment.{Adjustment}
use Rattle.book_model.specs.Accepted.{counts_in}
use Rattle.book_model.specs.Cells.{loan_band, ltv_with, loan_ltv, loan_cell}
use Rattle.book_model.specs.FreshScores.{CountsKept}
use Rattle.book_model.specs.History.{sums_by}
use Rattle.book_model.specs.HouseIndex.{adjustment_of}
use Rattle.book_model.specs.Joining.{KeepsChoices}
use Rattle.book_model.specs.LineKinds.{a_loan, content_kind, kind_counts, line_counts, unscored_count, sum_by}
use Rattle.book_model.specs.Share.{numbers_with, share_with, share}
use Rattle.book_model.specs.Terms.{Terms, Basis, under, factor_for}
use Rattle.book_model.proofs.Cells.{Held, a_loan as held-loan, no_loan, held}
use Rattle.book_model.proofs.Tables.{placed, placed_by}
use Rattle.book_model.proofs.Tests.{unscored-is}

-- data whose loan, if it is one, has the same factor and the same adjustment by both
abbrev pub ChargedAlike : Basis → Basis → Content → Type 0
ChargedAlike g o c = (l : Loan) → c ≡ loan l →
    (adjustment_of g.index l ≡ adjustment_of o.index l) × (factor_for g.terms l.score ≡ factor_for o.terms l.score)

-- a loan's two numbers go by them alone
numbers-alike : (t u : Terms) (a b : Adjustment) (l : Loan) → a ≡ b → factor_for t l.score ≡ factor_for u l.score → numbers_with t a l ≡ numbers_with u b l
unfolding numbers_with
numbers-alike t u a b l e f = ap₂
    (λ (x : Adjustment) (m : ℕ). charge_of (record {
      value = l.value * x.last;
      over = l.balance * x.own;
      balance = l.balance;
      months = l.amortization;
      term = l.term;
      supplement = eqb l.supplement 1;
      factor = m;
    })) e f

module _ (g o : Basis) where
  share-same : (c : Content) → ChargedAlike g o c → share g c ≡ share o c
  unfolding share share_with
  share-same (header h) a = refl
  share-same (loan l) a =
      let (x, y) = a l refl in
      ap (λ (n : LoanCharge). record {
        counts = kind_counts (a_loan l);
        total = n.total;
        supplement = n.supplement;
        rest = zero_money;
        moved = zero_money;
        equity = zero_signed;
        aoci = zero_signed;
        b = 0;
        c = 0;
      }) (numbers-alike g.terms o.terms (adjustment_of g.index l) (adjustment_of o.index l) l x y)
  share-same (policy p) a = refl
  share-same (derivative d) a = refl
  share-same (asset x) a = refl
  share-same (amount x) a = refl
  share-same (index i) a = refl
  share-same (mark m) a = refl
  share-same NoForm a = refl

  placed_same : (i : ℕ) (c : Content) → ChargedAlike g o c → placed_by g i c ≡ placed_by o i c
  unfolding placed_by
  placed_same i c a = go (held c) a
    where
      go : {c : Content} → Held c → ChargedAlike g o c → placed_by g i c ≡ placed_by o i c
      go (held-loan l) a =
          let (x, y) = a l refl in
          ap₂ (λ (v : Adjustment) (n : LoanCharge). placed i (place_of (loan_band l) (ltv_with v l)) (record { count = 1; balance = l.balance; charge = n.total }))
          x (numbers-alike g.terms o.terms (adjustment_of g.index l) (adjustment_of o.index l) l x y)
      go (no_loan n) a =
          n ℕ (λ l. placed i (place_of (loan_band l) (loan_ltv g.index l)) (loan_cell g l)) 0
          ∙ sym (n ℕ (λ l. placed i (place_of (loan_band l) (loan_ltv o.index l)) (loan_cell o l)) 0)

  -- every line of a list
  abbrev pub AllAlike : List (List ℕ) → Type 0
  AllAlike kept = (s : List ℕ) → Memᴰ s kept → ChargedAlike g o (line_content (line_of s))

  pub sums-alike : (kept : List (List ℕ)) → AllAlike kept → sums_by g kept ≡ sums_by o kept
  unfolding sums_by sum_of
  sums-alike [] a = refl
  sums-alike (s ∷ kept) a =
      ap₂ plus (share-same (line_content (line_of s)) (a s (Memᴰ.head refl))) (sums-alike kept (λ r m. a r (Memᴰ.tail m)))

  pub placed_alike : (i : ℕ) (kept : List (List ℕ)) → AllAlike kept → sum_by (placed_by g i) kept ≡ sum_by (placed_by o i) kept
  unfolding sum_by
  placed_alike i [] a = refl
  placed_alike i (s ∷ kept) a =
      ap₂ ◌+◌ (placed_same i (line_content (line_of s)) (a s (Memᴰ.head refl))) (placed_alike i kept (λ r m. a r (Memᴰ.tail m)))

-- A header that keeps the choices of another gives its loans the same factors.

-- two tests that hold alike
same_test : (x y : Bool) {P Q : Type 0} → ((x ≡ true) ↔ P) → ((y ≡ true) ↔ Q) → (P ↔ Q) → x ≡ y
same_test true true a b e = refl
same_test true false a b e = absurd (true≢false (sym (b.1 (e.0 (a.0 refl)))))
same_test false true a b e = absurd (true≢false (sym (a.1 (e.1 (b.0 refl)))))
same_test false false a b e = refl

other_test : (x y : Bool) {P Q : Type 0} → ((x ≡ false) ↔ P) → ((y ≡ false) ↔ Q) → (P ↔ Q) → x ≡ y
other_test true true a b e = refl
other_test true false a b e = absurd (true≢false (a.1 (e.1 (b.0 refl))))
other_test false true a b e = absurd (true≢false (b.1 (e.0 (a.0 refl))))
other_test false false a b e = refl

pub same-column : (g j : Header) → ((9 * g.loans ≤ 10 * g.fresh) ↔ (9 * j.loans ≤ 10 * j.fresh)) → on_aged_table_lem g ≡ on_aged_table_lem j
same-column g j e = other_test (on_aged_table_lem g) (on_aged_table_lem j) (first-serves g) (first-serves j) e

pub below : (a b : ℕ) → (ltb a b ≡ true) ↔ (a < b)
below a b = (ltb-true a b, lt-ltb a b)

pub same-many : (g j : Header) → ((g.loans < 20 * g.unscored) ↔ (j.loans < 20 * j.unscored)) → ltb g.loans (20 * g.unscored) ≡ ltb j.loans (20 * j.unscored)
same-many g j e = same_test _ _ (below g.loans (20 * g.unscored)) (below j.loans (20 * j.unscored)) e

same-factor : (rates : List ℕ) (g j : Header) → KeepsChoices g j → (score : Score) → 1 ≤ g.loans → (unscored_count score ≡ 1 → 1 ≤ g.unscored) →
    factor_for (under g rates) score ≡ factor_for (under j rates) score
unfolding factor_for credit_factor_lem unscored_factor_lem
same-factor rates g j k (Scored number age) l u =
    ap (λ (t : Bool). scored_factor_lem rates t number age) (same-column g j (k.column l))
same-factor rates g j k Unscored l u =
    ap (λ (t : Bool). pick t (hundredths 300) (hundredths 130)) (same-many g j (k.factor l (u ((unscored-is Unscored).1 refl))))

-- what a member counts
member-counts : (kept : List (List ℕ)) (s : List ℕ) → Memᴰ s kept →
    ((line_counts s).loans ≤ (counts_in kept).loans) × ((line_counts s).unscored ≤ (counts_in kept).unscored)
unfolding counts_in
member-counts [] s x' = elim x' [ ]
member-counts (r ∷ kept) s (Memᴰ.head e) = (
  omega (arith, ap (λ (x : List ℕ). (line_counts x).loans) e),
  omega (arith, ap (λ (x : List ℕ). (line_counts x).unscored) e),
)
member-counts (r ∷ kept) s (Memᴰ.tail m) = let (a, b) = member-counts kept s m in (omega (arith, a), omega (arith, b))

pub loan-counts : (s : List ℕ) (l : Loan) → line_content (line_of s) ≡ loan l → ((line_counts s).loans ≡ 1) × ((line_counts s).unscored ≡ unscored_count l.score)
unfolding content_kind kind_counts
loan-counts s l e = (
  ap (λ (c : Content). (kind_counts (content_kind (line_refusal (line_of s)) c)).loans) e,
  ap (λ (c : Content). (kind_counts (content_kind (line_refusal (line_of s)) c)).unscored) e,
)

-- the loans of a list that keeps to the header's counts
pub factors-kept : (rates : List ℕ) (g j : Header) → KeepsChoices g j → (kept : List (List ℕ)) → CountsKept g (counts_in kept) → (s : List ℕ) → Memᴰ s kept →
    (l : Loan) → line_content (line_of s) ≡ loan l → factor_for (under g rates) l.score ≡ factor_for (under j rates) l.score
factors-kept rates g j k kept (a, b, c) s m l e =
    let (x, y) = member-counts kept s m in
    let (p, q) = loan-counts s l e in
    same-factor rates g j k l.score (omega (arith, a, x, p)) (λ u. omega (arith, b, y, q, u))
