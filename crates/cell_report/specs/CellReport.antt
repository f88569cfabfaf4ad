-- The table of loans by score and loan-to-value as text (02, L1): 60 lines, each ended by a newline.
use Rattle.std.specs.Prelude.{ℕ, zero, suc, ◌+◌, ◌-◌, ◌*◌, List, [], ◌∷◌, ◌++◌, get_or}
use Rattle.exact.specs.Text.{text}
use Rattle.report.specs.Decimal.{digits, signed}
use Rattle.report.specs.Line.{line}
use Rattle.cell_report.specs.declared.Cell.{Cell}

-- (cell BAND LTV COUNT BAL CHARGE)
abbrev pub cell_line : (band ltv : ℕ) → Cell → List ℕ
cell_line band ltv c =
    line (text "cell") (digits band ∷ digits ltv ∷ digits c.count ∷ digits c.balance ∷ signed c.charge ∷ [])

-- the line of a table's cell
abbrev pub cell_text : (ℕ → ℕ → Cell) → (band ltv : ℕ) → List ℕ
cell_text at band ltv = cell_line band ltv (at band ltv)

-- the lines of one band, LTV 1 to 5
abbrev pub band_text : (ℕ → ℕ → Cell) → (band : ℕ) → List ℕ
band_text at band =
    cell_text at band 1
    ++ cell_text at band 2
    ++ cell_text at band 3
    ++ cell_text at band 4
    ++ cell_text at band 5

-- the lines of bands 1 to n
unfoldable pub bands_text : (ℕ → ℕ → Cell) → (n : ℕ) → List ℕ
bands_text at zero = []
bands_text at (suc n) = bands_text at n ++ band_text at (suc n)

-- 02, L1: all 60 lines, bands outermost, 1 to 11 upward and 12 for no score
abbrev pub cells_text : (ℕ → ℕ → Cell) → List ℕ
cells_text at = bands_text at 12

-- A table has 240 places, four for each cell, bands outermost: count, sum of balances, and of charges the parts above and below 0.
abbrev pub place_of : (band ltv : ℕ) → ℕ
place_of band ltv = ((band - 1) * 5 + (ltv - 1)) * 4

-- what a table says of a cell
abbrev pub cell_at : List ℕ → (band ltv : ℕ) → Cell
cell_at cells band ltv =
    record {
      count = get_or cells (place_of band ltv) 0;
      balance = get_or cells (place_of band ltv + 1) 0;
      charge = record { plus = get_or cells (place_of band ltv + 2) 0; minus = get_or cells (place_of band ltv + 3) 0 };
    }
