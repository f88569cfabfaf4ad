-- What a loan's two numbers promise: document 01, "The loan charge", with the distance of 02, L7. Proved in proofs/Promise.antt.
use Rattle.std.specs.Prelude.{ℕ, ◌*◌, ◌^◌, ◌≤◌, min, ◌≡◌, Bool, false, List}
use Rattle.exact.specs.Fraction.{Fraction, Proper, quotient, ◌⊕◌, ◌⊖◌, ◌≼◌, ◌≺◌}
use Rattle.exact.specs.Quantity.{Quantity, Determined, AtMost, ExceedsByLess, NeverAbove, LessBelow, SomeAllowed, Eventually}
use Rattle.fixed_point.specs.declared.Signed.{Signed}
use Rattle.loan_charge.specs.declared.LoanInputs.{LoanInputs}
use Rattle.loan_charge.specs.declared.Score.{Score}
use Rattle.loan_charge.specs.declared.charge.LoanCharge.{LoanCharge}
use Rattle.loan_charge.specs.Charge.{Chargeable, exact_total, exact_supplement, total_quantity, supplement_quantity}
use Rattle.loan_charge.specs.Computation.{charge_of}
use Rattle.loan_charge.specs.CreditFactor.{built_in_rates_lem, credit_factor_lem, FactorInRange, RatesInRange}

-- plus - minus cents
abbrev pub signed_cents : Signed → Fraction
signed_cents x = record { plus = x.plus; minus = x.minus; over = 1 }

-- 02, L7: one and a twentieth cents (01: 2 cents)
abbrev pub tolerance : Fraction
tolerance = quotient 105 100

-- A loan's two numbers beside values of the exact ones: the total is never below and less than `tolerance` above, the supplement never above
-- and less than `tolerance` below.
pub record NearExact (charge : LoanCharge) (total supplement : Fraction) : Type 0 where
  pub total_proper : Proper total
  pub total_at_least : total ≼ signed_cents charge.total
  pub total_near : signed_cents charge.total ≺ total ⊕ tolerance
  pub supplement_proper : Proper supplement
  pub supplement_at_most : signed_cents charge.supplement ≼ supplement
  pub supplement_near : supplement ⊖ tolerance ≺ signed_cents charge.supplement

-- The same in document 01's words, for every order allowed; some order is allowed, and no exponent is left out.
pub record Promised (charge : LoanCharge) (total supplement : Quantity) : Type 0 where
  pub total_determined : Determined total
  pub total_at_least : AtMost total (signed_cents charge.total)
  pub total_near : ExceedsByLess total tolerance (signed_cents charge.total)
  pub total_orders : SomeAllowed total.exponents
  pub supplement_determined : Determined supplement
  pub supplement_at_most : NeverAbove supplement (signed_cents charge.supplement)
  pub supplement_near : LessBelow supplement tolerance (signed_cents charge.supplement)
  pub supplement_orders : SomeAllowed supplement.exponents

-- a number of cents from -100,000 to 300,000,000; plus or minus is 0
pub record InRange (x : Signed) : Type 0 where
  pub most : x.plus ≤ 3 * 10 ^ 8
  pub least : x.minus ≤ 10 ^ 5
  pub one_sided : min x.plus x.minus ≡ 0

-- For every loan that can be charged.
pub record Promise : Type 0 where
  -- both numbers on their sides, less than one and a twentieth cents from the exact ones
  pub close : (l : LoanInputs) → Chargeable l → Promised (charge_of l) (total_quantity l) (supplement_quantity l)
  -- the same with every exp(-y) taken as 1 / E(m), for all m from some m on: sums over many loans rest on it
  pub near : (l : LoanInputs) → Chargeable l → Eventually (λ exp. NearExact (charge_of l) (exact_total l exp) (exact_supplement l exp))
  pub total_range : (l : LoanInputs) → Chargeable l → InRange (charge_of l).total
  pub supplement_range : (l : LoanInputs) → Chargeable l → InRange (charge_of l).supplement
  -- where no supplement applies its number is 0
  pub no_supplement : (l : LoanInputs) → l.supplement ≡ false → (charge_of l).supplement ≡ record { plus = 0; minus = 0 }
  -- every m lies between 0.01 and 3: under the built-in table, and under any other whose rates do
  pub built_in : RatesInRange built_in_rates_lem
  pub factors : (rates : List ℕ) → RatesInRange rates → (aged : Bool) (loans unscored : ℕ) (score : Score) →
      FactorInRange (credit_factor_lem rates aged loans unscored score)
