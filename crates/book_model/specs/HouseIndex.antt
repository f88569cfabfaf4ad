-- 02, L4: the house price index of a book, and what it makes of a loan's property value (000, 1.1.5 ii).
use Rattle.std.specs.Prelude.{ℕ, ◌+◌, ◌*◌, ◌-◌, ◌/◌, ◌%◌, ◌≤◌, ◌<◌, ◌≡◌, Bool, ◌&&◌, ◌||◌, List, [], ◌∷◌, eqb, length, get_or, set, replicate}
use Rattle.exact.specs.Choice.{pick}
use Rattle.line_forms.specs.Bytes.{within}
use Rattle.line_forms.specs.declared.IndexValue.{IndexValue}
use Rattle.line_forms.specs.declared.Loan.{Loan}
use Rattle.line_forms.specs.declared.Content.{Content}
use Rattle.line_forms.specs.declared.Content.TheVariants.{Header as header, Loan as loan, Policy as policy, Derivative as derivative, Asset as asset}
use Rattle.line_forms.specs.declared.Content.TheVariants.{Amount as amount, Index as index, Mark as mark, NoForm}
use Rattle.book_model.specs.declared.Adjustment.{Adjustment}
use Rattle.book_model.specs.LineKinds.{sum_by}

-- a value for each area and month (YYYYMM), 0 where none is set
abbrev pub Index : Type 0
Index = (area month : ℕ) → ℕ

-- Loans from 200501 to 201511 go by the index: values of earlier ones arrive already adjusted, later ones keep theirs.
unfoldable pub is_indexed_lem : Loan → Bool
is_indexed_lem l = within 200501 201511 l.from

-- The property value becomes value × last / own: the index of 201512 over that of the loan's month, both of its area.
unfoldable pub adjustment_of : Index → Loan → Adjustment
adjustment_of values l =
    pick (is_indexed_lem l) (record { last = values l.area 201512; own = values l.area l.from }) (record { last = 1; own = 1 })

-- one of the two is not set
abbrev pub lacking : Adjustment → Bool
lacking a = eqb a.own 0 || eqb a.last 0

-- something of the index value that a line holds, and x where it holds none
abbrev pub of_index : {A : Type 0} → (IndexValue → A) → A → Content → A
of_index f x (header h) = x
of_index f x (loan l) = x
of_index f x (policy p) = x
of_index f x (derivative d) = x
of_index f x (asset a) = x
of_index f x (amount a) = x
of_index f x (index i) = f i
of_index f x (mark m) = x
of_index f x NoForm = x

-- what a line sets for an area and month
abbrev pub set_by : (area month : ℕ) → Content → ℕ
set_by area month c = of_index (λ i. pick (eqb i.area area && eqb i.month month) i.value 0) 0 c

-- The values that lines set. Of the lines taken at most one sets a value for an area and month: the sum is that value.
unfoldable pub values_in : List (List ℕ) → Index
values_in kept area month = sum_by (set_by area month) kept

-- The table lent with a book

-- the areas by their places among the names, and the months from 200501 to 201512
pub record InTable (area month : ℕ) : Type 0 where
  pub area_most : area < 12
  pub least : 200501 ≤ month
  pub most : month ≤ 201512
  pub month_least : 1 ≤ month % 100
  pub month_most : month % 100 ≤ 12

-- the place of a value: for each area its 132 months
abbrev pub place_for : (area month : ℕ) → ℕ
place_for area month = area * 132 + ((month / 100 - 2005) * 12 + (month % 100 - 1))

abbrev pub values_at : (table : List ℕ) → Index
values_at table area month = get_or table (place_for area month) 0

-- twelve areas
abbrev pub index_places : ℕ
index_places = 1584

-- no value set
unfoldable pub empty_index : List ℕ
empty_index = replicate index_places 0

-- the table with what the data of a line sets
unfoldable pub index_with : Content → List ℕ → List ℕ
index_with c table = of_index (λ i. set table (place_for i.area i.month) i.value) table c

-- 1 for an index value, else 0
abbrev pub index_line : Content → ℕ
index_line c = of_index (λ i. 1) 0 c

-- how many values are set
unfoldable pub set_places : List ℕ → ℕ
set_places [] = 0
set_places (x ∷ table) = pick (eqb x 0) 0 1 + set_places table

-- What opening and feeding assure of the table, where so many index lines are taken.
pub record IndexSound (table : List ℕ) (indexed : ℕ) : Type 0 where
  pub size : length table ≡ index_places
  pub each : (i : ℕ) → get_or table i 0 ≤ 1000000
  pub counted : indexed ≡ set_places table
