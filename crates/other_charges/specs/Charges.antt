-- The charges of what is no home loan (document 01, "The rest, and closing"), exact, in cents.
use Rattle.std.specs.Prelude.{ℕ, List, [], ◌∷◌, get_or}
use Rattle.line_forms.specs.declared.Kind.{Kind}
use Rattle.line_forms.specs.declared.Kind.TheVariants.{Rate, Float, Fx, Equity, Metal, Other}
use Rattle.exact.specs.Choice.{up_to}
use Rattle.exact.specs.Fraction.{Fraction, quotient, whole, ◌⊕◌, ◌⊗◌, larger}

-- amount × factor / 10,000
unfoldable pub asset_charge : (amount factor : ℕ) → Fraction
asset_charge amount factor = whole amount ⊗ quotient factor 10000

-- a share of an amount in per cent: claims 20% (002, 3.2.2), loss components 40% (002, 3.2.3), stated 100%
unfoldable pub share_charge : (amount percent : ℕ) → Fraction
share_charge amount percent = whole amount ⊗ quotient percent 100

abbrev pub claims_percent : ℕ
claims_percent = 20

abbrev pub loss_components_percent : ℕ
loss_components_percent = 40

abbrev pub stated_percent : ℕ
stated_percent = 100

-- 002, 4.2.1.1: add-on factors in thousandths, at 12 and 60 months; none for a single-currency floating/floating swap
unfoldable pub add_on_thousandths : Kind → (months : ℕ) → ℕ
add_on_thousandths Rate n = up_to 12 n 0 (up_to 60 n 5 15)
add_on_thousandths Float n = 0
add_on_thousandths Fx n = up_to 12 n 10 (up_to 60 n 50 75)
add_on_thousandths Equity n = up_to 12 n 60 (up_to 60 n 80 100)
add_on_thousandths Metal n = up_to 12 n 70 (up_to 60 n 70 80)
add_on_thousandths Other n = up_to 12 n 100 (up_to 60 n 120 150)

abbrev pub add_on_lem : Kind → (months : ℕ) → Fraction
add_on_lem kind months = quotient (add_on_thousandths kind months) 1000

-- (the larger of cost and 0, plus notional × add-on × pays) × factor / 10,000
unfoldable pub derivative_charge : (kind : Kind) (cost : Fraction) (notional months pays factor : ℕ) → Fraction
derivative_charge kind cost notional months pays factor =
    (larger cost (whole 0) ⊕ whole notional ⊗ add_on_lem kind months ⊗ whole pays) ⊗ quotient factor 10000

-- 002, 3.3: tenths of a per cent of the premium, by completed years from 0 on, one list for each column of original terms.
-- 0 for no completed year and for a blank cell.
abbrev pub up_to_5_years : List ℕ
up_to_5_years = 0 ∷ 20 ∷ 10 ∷ 5 ∷ []

abbrev pub up_to_10_years : List ℕ
up_to_10_years = 0 ∷ 30 ∷ 20 ∷ 10 ∷ 10 ∷ 5 ∷ 5 ∷ 0 ∷ []

abbrev pub up_to_15_years : List ℕ
up_to_15_years = 0 ∷ 40 ∷ 40 ∷ 35 ∷ 30 ∷ 30 ∷ 20 ∷ 10 ∷ 10 ∷ 10 ∷ 10 ∷ 0 ∷ []

abbrev pub over_15_years : List ℕ
over_15_years = 0 ∷ 40 ∷ 40 ∷ 40 ∷ 55 ∷ 60 ∷ 50 ∷ 35 ∷ 20 ∷ 15 ∷ 15 ∷ 10 ∷ 10 ∷ 5 ∷ 5 ∷ 5 ∷ 5 ∷ 5 ∷ 5 ∷ 5 ∷ 0 ∷ []

-- columns at 60, 120 and 180 months
unfoldable pub provision_tenths_lem : (term done : ℕ) → ℕ
provision_tenths_lem term done =
    get_or (up_to 60 term up_to_5_years (up_to 120 term up_to_10_years (up_to 180 term up_to_15_years over_15_years))) done 0

-- premium × the per cent of 002, 3.3
unfoldable pub provision : (premium term done : ℕ) → Fraction
provision premium term done = whole premium ⊗ quotient (provision_tenths_lem term done) 1000

-- Multi-unit provisions count 1.25 times (002, 3.3).
unfoldable pub multi_provision : (premium term done : ℕ) → Fraction
multi_provision premium term done = provision premium term done ⊗ quotient 125 100
