-- What holds of the test that loading makes. Proved in proofs/Loading.antt.
use Rattle.std.specs.Prelude.{◌≡◌, true, List, ◌↔◌, ℕ, ◌<◌}
use Rattle.loan_charge.specs.CreditFactor.{hundredths, entry_at, built_in_sheet, rates_of_lem, RatesInRange}
use Rattle.sheet.specs.Sheet.{SheetRules, sheet_passes}

pub record Loading : Type 0 where
  -- a sheet passes exactly where it keeps the rules
  pub test : (sheet : List ℕ) → (sheet_passes sheet ≡ true) ↔ SheetRules sheet
  -- the regulator's table keeps them
  pub built_in : SheetRules built_in_sheet
  -- the rates of a sheet that keeps them are its factors, each from 0.01 to 3
  pub factors : (sheet : List ℕ) → SheetRules sheet → (band age : ℕ) → band < 11 → age < 6 →
      entry_at (rates_of_lem sheet) band age ≡ hundredths (entry_at sheet band age)
  pub rates : (sheet : List ℕ) → SheetRules sheet → RatesInRange (rates_of_lem sheet)
