-- Laws of the table's text: how it grows, what it depends on, and how long it can be.
-- Assumes nothing.
use mathlib.Core.Path.{◌≡◌, refl, ap, ap₂}
use mathlib.Core.List.{List, [], ◌∷◌, ◌++◌}
use Prim.Native.Nat.{ℕ, zero, suc, ◌+◌, ◌-◌, ◌*◌, ◌^◌, ◌≤◌, ◌<◌}
use native.Mathlib.Omega.{arith}
use lib.ListN.{length, get_or, length-append}
use Rattle.exact.specs.Text.{text}
use Rattle.report.specs.Decimal.{digits, signed}
use Rattle.report.proofs.Decimal.{digits-length, signed-length}
use Rattle.report.proofs.Lines.{line-length, spaced-length}
use Rattle.cell_report.specs.declared.Cell.{Cell}
use Rattle.cell_report.specs.CellReport.{cell_line, cell_text, band_text, bands_text, cells_text, cell_at}

-- the lines of the first n columns of a band
abbrev pub columns : (ℕ → ℕ → Cell) → (band n : ℕ) → List ℕ
columns at band zero = []
columns at band (suc n) = columns at band n ++ cell_text at band (suc n)

-- the column n is added to those before it
pub columns_more : (at : ℕ → ℕ → Cell) (band n : ℕ) → 1 ≤ n → columns at band (n + 1 - 1) ≡ columns at band (n - 1) ++ cell_text at band n
columns_more at band zero h = absurd (omega arith)
columns_more at band (suc n) h =
    let after : suc n + 1 - 1 ≡ suc n = omega arith in
    let before : suc n - 1 ≡ n = omega arith in
    rw (after, before) refl

-- the band n is added to those before it
pub bands_more : (at : ℕ → ℕ → Cell) (n : ℕ) → 1 ≤ n → bands_text at (n + 1 - 1) ≡ bands_text at (n - 1) ++ band_text at n
unfolding bands_text
bands_more at zero h = absurd (omega arith)
bands_more at (suc n) h =
    let after : suc n + 1 - 1 ≡ suc n = omega arith in
    let before : suc n - 1 ≡ n = omega arith in
    rw (after, before) refl

-- Only the 60 cells matter.

bands-alike :
    {at other : ℕ → ℕ → Cell} (n : ℕ) →
    ((band ltv : ℕ) → 1 ≤ band → band ≤ n → 1 ≤ ltv → ltv ≤ 5 → at band ltv ≡ other band ltv) →
    bands_text at n ≡ bands_text other n
unfolding bands_text
bands-alike zero same = refl
bands-alike {at} {other} (suc n) same = ap₂ ◌++◌ (bands-alike n (λ band ltv a b. same band ltv a (omega arith)))
    (ap₂ ◌++◌ (ap₂ ◌++◌ (ap₂ ◌++◌ (ap₂ ◌++◌ (alike 1 (omega arith) (omega arith)) (alike 2 (omega arith) (omega arith))) (alike 3 (omega arith) (omega arith)))
    (alike 4 (omega arith) (omega arith))) (alike 5 (omega arith) (omega arith)))
  where
    alike : (ltv : ℕ) → 1 ≤ ltv → ltv ≤ 5 → cell_text at (suc n) ltv ≡ cell_text other (suc n) ltv
    alike ltv a b = ap (cell_line (suc n) ltv) (same (suc n) ltv (omega arith) (omega arith) a b)

pub cells-alike :
    {at other : ℕ → ℕ → Cell} →
    ((band ltv : ℕ) → 1 ≤ band → band ≤ 12 → 1 ≤ ltv → ltv ≤ 5 → at band ltv ≡ other band ltv) →
    cells_text at ≡ cells_text other
cells-alike same = bands-alike 12 same

-- Numbers of 64 bits: the longest text fits the least buffer.

pub line-most :
    (band ltv : ℕ) (c : Cell) →
    band < 2 ^ 64 →
    ltv < 2 ^ 64 →
    c.count < 2 ^ 64 →
    c.balance < 2 ^ 64 →
    c.charge.plus < 2 ^ 64 →
    c.charge.minus < 2 ^ 64 →
    length (cell_line band ltv c) ≤ 113
line-most band ltv c b l n s p m =
    let five = signed c.charge ∷ [] in
    let four = digits c.balance ∷ five in
    let three = digits c.count ∷ four in
    let two = digits ltv ∷ three in
    omega (
      arith,
      line-length (text "cell") (digits band ∷ two),
      spaced-length (digits band) two,
      spaced-length (digits ltv) three,
      spaced-length (digits c.count) four,
      spaced-length (digits c.balance) five,
      spaced-length (signed c.charge) [],
      digits-length 19 band (omega arith),
      digits-length 19 ltv (omega arith),
      digits-length 19 c.count (omega arith),
      digits-length 19 c.balance (omega arith),
      signed-length 19 c.charge (omega arith) (omega arith),
    )

five-most : (m : ℕ) (t : ℕ → List ℕ) → ((k : ℕ) → k ≤ 5 → length (t k) ≤ m) → length (t 1 ++ t 2 ++ t 3 ++ t 4 ++ t 5) ≤ 5 * m
five-most m t h =
    omega (
      arith,
      length-append (t 1 ++ t 2 ++ t 3 ++ t 4) (t 5),
      length-append (t 1 ++ t 2 ++ t 3) (t 4),
      length-append (t 1 ++ t 2) (t 3),
      length-append (t 1) (t 2),
      h 1 (omega arith),
      h 2 (omega arith),
      h 3 (omega arith),
      h 4 (omega arith),
      h 5 (omega arith),
    )

bands-most : (cells : List ℕ) → ((i : ℕ) → get_or cells i 0 < 2 ^ 64) → (n : ℕ) → n ≤ 12 → length (bands_text (cell_at cells) n) ≤ 565 * n
unfolding bands_text
bands-most cells small zero h = omega arith
bands-most cells small (suc n) h =
    omega (
      arith,
      length-append (bands_text (cell_at cells) n) (band_text (cell_at cells) (suc n)),
      bands-most cells small n (omega arith),
      five-most 113 (cell_text (cell_at cells) (suc n))
          (λ ltv k. line-most (suc n) ltv (cell_at cells (suc n) ltv) (omega arith) (omega arith) (small _) (small _) (small _) (small _)),
    )

pub cells_fit : (cells : List ℕ) → ((i : ℕ) → get_or cells i 0 < 2 ^ 64) → length (cells_text (cell_at cells)) ≤ 8192
cells_fit cells small = omega (arith, bands-most cells small 12 (omega arith))
