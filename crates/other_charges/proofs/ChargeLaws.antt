-- Each charge in ten-millionths of a cent is the paper's, and bounded.
-- Assumes nothing.
use mathlib.Core.Path.{◌≡◌}
use mathlib.Core.List.{List, [], ◌∷◌}
use mathlib.Core.Bool.{Bool, true, false}
use Prim.Native.Nat.{ℕ, zero, suc, ◌+◌, ◌-◌, ◌*◌, ◌^◌, ◌≤◌, ◌<◌, zero-le, max}
use native.Mathlib.Nat.{le-max_left, le-max_right, le_trans}
use native.Mathlib.Omega.{arith}
use lib.Dec.{leb, lit≤}
use lib.ListN.{get_or}
use Rattle.exact.specs.Choice.{pick}
use Rattle.exact.specs.Fraction.{Fraction, Proper, quotient, ◌≈◌}
use Rattle.line_forms.specs.declared.Kind.{Kind}
use Rattle.line_forms.specs.declared.Kind.TheVariants.{Rate, Float, Fx, Equity, Metal, Other}
use Rattle.other_charges.specs.Charges.{asset_charge, share_charge, derivative_charge, add_on_thousandths, provision_tenths_lem, provision, multi_provision}
use Rattle.other_charges.specs.Charges.{up_to_5_years, up_to_10_years, up_to_15_years, over_15_years}
use Rattle.other_charges.specs.Parts.{asset_parts_lem, share_parts_lem, derivative_parts_lem, provision_parts_lem}

-- Bounds

-- both choices are at most a bound
chosen : {x y k : ℕ} (t : Bool) → x ≤ k → y ≤ k → pick t x y ≤ k
chosen true h j = h
chosen false h j = j

pub add-on-bounded : (kind : Kind) (months : ℕ) → add_on_thousandths kind months ≤ 150
unfolding add_on_thousandths
add-on-bounded Rate n = chosen (leb n 12) (omega arith) (chosen (leb n 60) (omega arith) (omega arith))
add-on-bounded Float n = omega arith
add-on-bounded Fx n = chosen (leb n 12) (omega arith) (chosen (leb n 60) (omega arith) (omega arith))
add-on-bounded Equity n = chosen (leb n 12) (omega arith) (chosen (leb n 60) (omega arith) (omega arith))
add-on-bounded Metal n = chosen (leb n 12) (omega arith) (chosen (leb n 60) (omega arith) (omega arith))
add-on-bounded Other n = chosen (leb n 12) (omega arith) (chosen (leb n 60) (omega arith) (omega arith))

-- the largest element of a list
largest : List ℕ → ℕ
largest [] = 0
largest (x ∷ l) = max x (largest l)

element-bounded : (l : List ℕ) (n : ℕ) → get_or l n 0 ≤ largest l
unfolding largest
element-bounded [] n = zero-le
element-bounded (x ∷ l) zero = le-max_left x (largest l)
element-bounded (x ∷ l) (suc n) = le_trans (element-bounded l n) (le-max_right x (largest l))

chosen-list : (t : Bool) (l m : List ℕ) (n k : ℕ) → get_or l n 0 ≤ k → get_or m n 0 ≤ k → get_or (pick t l m) n 0 ≤ k
chosen-list true l m n k h j = h
chosen-list false l m n k h j = j

pub tenths-bounded : (term done : ℕ) → provision_tenths_lem term done ≤ 60
unfolding provision_tenths_lem largest
tenths-bounded term done =
    chosen-list (leb term 60) up_to_5_years _ done 60 (le_trans (element-bounded up_to_5_years done) (lit≤ tt))
    (chosen-list (leb term 120) up_to_10_years _ done 60 (le_trans (element-bounded up_to_10_years done) (lit≤ tt))
    (chosen-list (leb term 180) up_to_15_years over_15_years done 60 (le_trans (element-bounded up_to_15_years done) (lit≤ tt))
    (le_trans (element-bounded over_15_years done) (lit≤ tt))))

-- The charges in ten-millionths

-- x is n ten-millionths of a cent
pub record InParts (x : Fraction) (n : ℕ) : Type 0 where
  pub proper : Proper x
  pub same : x ≈ quotient n (10 ^ 7)

abbrev positive : {x : Fraction} → 0 < x.over → Proper x
positive h = record { positive = h }

pub asset-is : (amount factor : ℕ) → InParts (asset_charge amount factor) (asset_parts_lem amount factor)
unfolding asset_charge
asset-is amount factor = record { proper = positive (omega arith); same = record { crossed = omega arith } }

pub share-is : (amount percent : ℕ) → InParts (share_charge amount percent) (share_parts_lem amount percent)
unfolding share_charge
share-is amount percent = record { proper = positive (omega arith); same = record { crossed = omega arith } }

pub provision-is : (premium term done : ℕ) → InParts (provision premium term done) (provision_parts_lem premium term done 10000)
unfolding provision
provision-is premium term done = record { proper = positive (omega arith); same = record { crossed = omega arith } }

pub multi-provision-is : (premium term done : ℕ) → InParts (multi_provision premium term done) (provision_parts_lem premium term done 12500)
unfolding multi_provision provision
multi-provision-is premium term done = record { proper = positive (omega arith); same = record { crossed = omega arith } }

-- the cost is plus - minus, of which the positive part counts
pub derivative-is : (kind : Kind) (plus minus notional months pays factor : ℕ) →
    InParts (derivative_charge kind (record { plus = plus; minus = minus; over = 1 }) notional months pays factor)
    (derivative_parts_lem kind (plus - minus) notional months pays factor)
unfolding derivative_charge
derivative-is kind plus minus notional months pays factor =
    let e : max (plus * 1 + 0) (0 + minus * 1) ≡ plus - minus + minus = omega arith in
    record { proper = positive (omega arith); same = record { crossed = rw e (omega arith) } }
