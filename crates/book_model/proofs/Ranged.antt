-- The numbers of a line or header that is read lie within their ranges, by the laws of line reading.
-- Assumes nothing.
use mathlib.Core.Path.{◌≡◌, refl}
use mathlib.Core.List.{List}
use Prim.Native.Nat.{ℕ}
use Rattle.line_forms.specs.declared.Line.{Line}
use Rattle.line_forms.specs.declared.Line.TheVariants.{Loan as LoanLine, Policy as PolicyLine, Derivative as DerivativeLine, Asset as AssetLine}
use Rattle.line_forms.specs.declared.Line.TheVariants.{Amount as AmountLine, Index as IndexLine, Mark as MarkRead, Refusal}
use Rattle.line_forms.specs.declared.Header.{Header}
use Rattle.line_forms.specs.declared.refusal.Refusal.{Refusal as Reason}
use Rattle.std.specs.Prelude.{Result, Ok, Err}
use Rattle.line_forms.specs.declared.Content.TheVariants.{Mark as mark}
use Rattle.line_forms.specs.Claims.{line_content}
use Rattle.line_forms.specs.Readings.{line_of, header_of}
use Rattle.line_forms.proofs.Bounds.{LoanBounds, loan-bounds, PolicyBounds, policy-bounds, DerivativeBounds, derivative-bounds, AssetBounds, asset-bounds}
use Rattle.line_forms.proofs.Bounds.{AmountBounds, amount-bounds, IndexBounds, index-bounds, HeaderBounds, header-bounds}
use Rattle.line_forms.proofs.LineLaws.{line-accepted}
use Rattle.book_model.specs.Ranges.{Ranged, RangedHeader}

pub ranged : (s : List ℕ) → Ranged (line_content (line_of s))
ranged s = go (line_of s) refl
  where
    go : (l : Line) → line_of s ≡ l → Ranged (line_content l)
    go (LoanLine l) e =
        let b : LoanBounds l = loan-bounds s l e in
        record {
          balance_least = b.balance.low;
          balance_most = b.balance.high;
          value_most = b.value.high;
          months_least = b.amortization.low;
          months_most = b.amortization.high;
          month_least = b.from.month.low;
          month_most = b.from.month.high;
          area = b.area;
        }
    go (PolicyLine p) e = let b : PolicyBounds p = policy-bounds s p e in record { premium = b.premium.high }
    go (DerivativeLine d) e =
        let b : DerivativeBounds d = derivative-bounds s d e in
        record { cost = b.cost.plus.high; notional = b.notional.high; payments = b.payments.high; factor = b.factor.high }
    go (AssetLine a) e = let b : AssetBounds a = asset-bounds s a e in record { amount = b.amount.high; factor = b.factor.high }
    go (AmountLine a) e = let b : AmountBounds a = amount-bounds s a e in record { plus = b.plus.high; minus = b.minus.high }
    go (IndexLine i) e =
        let b : IndexBounds i = index-bounds s i e in
        record {
          place = record {
            area_most = b.area;
            least = b.month.whole.low;
            most = b.month.whole.high;
            month_least = b.month.month.low;
            month_most = b.month.month.high;
          };
          value_least = b.value.low;
          value_most = b.value.high;
        }
    go (MarkRead m) e = record { name_least = ((line-accepted s (mark m) tt).0 e).0.0.0 }
    go (Refusal n) e = tt

pub ranged-header : (s : List ℕ) → RangedHeader (header_of s)
ranged-header s = go (header_of s) refl
  where
    go : (l : Result Header Reason) → header_of s ≡ l → RangedHeader l
    go (Ok h) e = let b : HeaderBounds h = header-bounds s h e in record { loans = b.loans.high; scores = b.scores; held = b.held.high }
    go (Err n) e = tt
