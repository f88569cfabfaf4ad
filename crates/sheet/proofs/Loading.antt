-- Loading over the definitions. Assumes nothing.
use mathlib.Core.Path.{◌≡◌, refl}
use mathlib.Core.List.{List, [], ◌∷◌}
use Prim.Native.Nat.{ℕ, zero, suc, ◌+◌, ◌*◌, ◌<◌}
use native.Mathlib.Omega.{arith}
use native.Mathlib.Nat.{not-suc-le-zero, le_of_suc-le-suc}
use lib.ListN.{length, get_or}
use Rattle.loan_charge.specs.CreditFactor.{hundredths, built_in_sheet, rates_of_lem, RatesInRange}
use Rattle.sheet.specs.Loading.{Loading}
use Rattle.sheet.specs.Sheet.{SheetRules, place_passes_lem, places_pass, sheet_passes}
use Rattle.sheet.proofs.Rules.{rules, passes}

pub built_in : SheetRules built_in_sheet
unfolding sheet_passes places_pass place_passes_lem built_in_sheet
built_in = rules built_in_sheet refl

-- a rate is the factor at its place
rate-at : (s : List ℕ) (k : ℕ) → k < length s → get_or (rates_of_lem s) k 0 ≡ hundredths (get_or s k 0)
rate-at [] k h = absurd (not-suc-le-zero h)
rate-at (x ∷ s) zero h = refl
rate-at (x ∷ s) (suc k) h = rate-at s k (le_of_suc-le-suc h)

pub within_range : (sheet : List ℕ) → SheetRules sheet → RatesInRange (rates_of_lem sheet)
within_range sheet r = record {
  each = λ k h.
      let e = rate-at sheet k (omega (arith, r.size)) in
      record { least = omega (arith, e, r.least k h); most = omega (arith, e, r.most k h) };
}

pub loading : Loading
loading = record {
  test = λ sheet. (rules sheet, passes sheet);
  built_in = built_in;
  factors = λ sheet r band age b a. rate-at sheet (band * 6 + age) (omega (arith, r.size));
  rates = within_range;
}
