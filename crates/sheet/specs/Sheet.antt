-- 02, L3: a sheet of 66 credit factors in hundredths, bands upward, six ages each, that may stand in place of the regulator's table.
use Rattle.std.specs.Prelude.{ℕ, zero, suc, ◌+◌, ◌%◌, ◌≤◌, ◌<◌, ◌≡◌, Bool, true, ◌&&◌, ◌||◌, List, leb, eqb, length, get_or}
use Rattle.loan_charge.specs.CreditFactor.{entry_at}

-- What loading checks: 66 numbers, each from 1 to 300; at each age none rises from a score band to the next; in each band none falls from an
-- age to the next.
pub record SheetRules (sheet : List ℕ) : Type 0 where
  pub size : length sheet ≡ 66
  pub least : (k : ℕ) → k < 66 → 1 ≤ get_or sheet k 0
  pub most : (k : ℕ) → k < 66 → get_or sheet k 0 ≤ 300
  pub bands : (band age : ℕ) → band < 10 → age < 6 → entry_at sheet (band + 1) age ≤ entry_at sheet band age
  pub ages : (band age : ℕ) → band < 11 → age < 5 → entry_at sheet band age ≤ entry_at sheet band (age + 1)

-- The test. Need not be believed: it is equal to the rules (Loading).

-- the number at a place: from 1 to 300, not below the next band's at the same age, not above the next age's in the same band
unfoldable pub place_passes_lem : List ℕ → ℕ → Bool
place_passes_lem sheet k =
    leb 1 (get_or sheet k 0) && leb (get_or sheet k 0) 300 && (leb 60 k || leb (get_or sheet (k + 6) 0) (get_or sheet k 0))
    && (leb 5 (k % 6) || leb (get_or sheet k 0) (get_or sheet (k + 1) 0))

-- the first n places
unfoldable pub places_pass : List ℕ → ℕ → Bool
places_pass sheet zero = true
places_pass sheet (suc n) = places_pass sheet n && place_passes_lem sheet n

unfoldable pub sheet_passes : List ℕ → Bool
sheet_passes sheet = eqb (length sheet) 66 && places_pass sheet 66
