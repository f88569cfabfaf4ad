-- The adjustment factor for credit quality, m (000, 1.1.4, table iii), in units of 10^-17: hundredths times 10^15.
use Rattle.std.specs.Prelude.{ℕ, ◌+◌, ◌*◌, ◌^◌, ◌≤◌, ◌<◌, Bool, List, [], ◌∷◌, map, leb, ltb, get_or}
use Rattle.exact.specs.Choice.{pick}
use Rattle.loan_charge.specs.declared.Score.{Score}
use Rattle.loan_charge.specs.declared.Score.TheVariants.{Scored, Unscored}

-- so many hundredths
abbrev pub hundredths : ℕ → ℕ
hundredths n = n * 10 ^ 15

-- how many limits of the list pass the test
unfoldable pub count : (ℕ → Bool) → List ℕ → ℕ
count passes [] = 0
count passes (limit ∷ limits) = pick (passes limit) 1 0 + count passes limits

-- The band of a score, 0 to 10: below 600, [600,620), [620,640), .., [760,780), from 780 on.
unfoldable pub band : ℕ → ℕ
band number =
    count (λ limit. leb limit number)
    (600 ∷ 620 ∷ 640 ∷ 660 ∷ 680 ∷ 700 ∷ 720 ∷ 740 ∷ 760 ∷ 780 ∷ [])

-- The column of a score's age in months, 0 to 5: up to 12, 24, 36, 48, 60, above 60.
unfoldable pub column : ℕ → ℕ
column age = count (λ limit. ltb limit age) (12 ∷ 24 ∷ 36 ∷ 48 ∷ 60 ∷ [])

-- The column that serves: where scores do not count as aged (by the counts of 02, L5), the first at every age.
unfoldable pub column_serving_lem : Bool → ℕ → ℕ
column_serving_lem aged age = pick aged (column age) 0

-- The entry of a table for a band, 0 to 10, and an age, 0 to 5: bands upward, six ages each.
abbrev pub entry_at : List ℕ → (band age : ℕ) → ℕ
entry_at table band age = get_or table (band * 6 + age) 0

-- Table iii, in hundredths.
unfoldable pub built_in_sheet : List ℕ
built_in_sheet =
    300 ∷ 300 ∷ 300 ∷ 300 ∷ 300 ∷ 300
    ∷ 205 ∷ 205 ∷ 205 ∷ 205 ∷ 205 ∷ 205
    ∷ 180 ∷ 180 ∷ 180 ∷ 180 ∷ 180 ∷ 180
    ∷ 160 ∷ 160 ∷ 160 ∷ 160 ∷ 160 ∷ 160
    ∷ 135 ∷ 135 ∷ 135 ∷ 135 ∷ 135 ∷ 135
    ∷ 110 ∷ 110 ∷ 110 ∷ 110 ∷ 110 ∷ 110
    ∷ 90 ∷ 100 ∷ 100 ∷ 100 ∷ 100 ∷ 100
    ∷ 65 ∷ 90 ∷ 100 ∷ 100 ∷ 100 ∷ 100
    ∷ 55 ∷ 65 ∷ 90 ∷ 100 ∷ 100 ∷ 100
    ∷ 45 ∷ 55 ∷ 65 ∷ 90 ∷ 100 ∷ 100
    ∷ 40 ∷ 45 ∷ 55 ∷ 65 ∷ 90 ∷ 100
    ∷ []

-- the rates of a sheet of factors in hundredths
abbrev pub rates_of_lem : List ℕ → List ℕ
rates_of_lem sheet = map hundredths sheet

-- how many a book is charged by: one for each band and age
abbrev pub rate_places : ℕ
rate_places = 66

abbrev pub built_in_rates_lem : List ℕ
built_in_rates_lem = rates_of_lem built_in_sheet

-- The factor of a table of rates for a score and its age.
unfoldable pub scored_factor_lem : List ℕ → Bool → ℕ → ℕ → ℕ
scored_factor_lem rates aged number age = entry_at rates (band number) (column_serving_lem aged age)

-- Without a score: 1.3, or 3.0 where more than 5% of the loans have none.
unfoldable pub unscored_factor_lem : ℕ → ℕ → ℕ
unscored_factor_lem loans unscored = pick (ltb loans (20 * unscored)) (hundredths 300) (hundredths 130)

unfoldable pub credit_factor_lem : List ℕ → Bool → ℕ → ℕ → Score → ℕ
credit_factor_lem rates aged loans unscored (Scored number age) = scored_factor_lem rates aged number age
credit_factor_lem rates aged loans unscored Unscored = unscored_factor_lem loans unscored

-- m is at least 0.01 and at most 3
pub record FactorInRange (m : ℕ) : Type 0 where
  pub least : hundredths 1 ≤ m
  pub most : m ≤ hundredths 300

-- a table of rates that are in range
pub record RatesInRange (rates : List ℕ) : Type 0 where
  pub each : (k : ℕ) → k < 66 → FactorInRange (get_or rates k 0)
