-- Demand 1: a book handed in is taken or turned down by a numbered refusal; a refused line changes nothing in the book, and a refused closing
-- writes nothing. Over the definitions that the contracts equate with the calls (Calls.antt); proved in proofs/Demand1.antt. What joining
-- answers, 0 or 16, and gives is in Joining.antt.
use Rattle.std.specs.Prelude.{ℕ, ◌≤◌, ◌≡◌, length}
use mathlib.Core.List.{List, [], ◌∷◌, Memᴰ}
use Rattle.figures.specs.Sums.{no_sums}
use Rattle.loan_charge.specs.CreditFactor.{built_in_rates_lem}
use Rattle.book_model.specs.declared.Book.{Book}
use Rattle.book_model.specs.Calls.{State, SoundBook, Sound, opening, feeding, report_of, closing, closed, cells_text_of, closing_cells, closed_cells}
use Rattle.book_model.specs.Cells.{empty_cells}
use Rattle.book_model.specs.HouseIndex.{empty_index}
use Rattle.book_model.specs.Marks.{no_marks}

-- The value of a refused opening: an all-zero header and no line taken, under the regulator's table, no loan in any cell, no index value and no mark.
abbrev pub refused_state : State
refused_state = record {
  book = record { header = record { loans = 0; unscored = 0; fresh = 0; held = 0 }; sums = no_sums; indexed = 0 };
  rates = built_in_rates_lem;
  cells = empty_cells;
  index = empty_index;
  marks = no_marks;
}

pub record Demand1 : Type 0 where
  -- The answer is 0, or the number of a refusal that document 01, or a request of 02, names for the call.
  pub opening_numbers : (sheet line : List ℕ) → Memᴰ (opening sheet line).refusal (0 ∷ 1 ∷ 2 ∷ 7 ∷ 3 ∷ 4 ∷ 10 ∷ [])
  pub feeding_numbers : (s : State) (line : List ℕ) → Memᴰ (feeding s line).refusal (0 ∷ 1 ∷ 2 ∷ 7 ∷ 3 ∷ 5 ∷ 12 ∷ 8 ∷ 11 ∷ 13 ∷ 14 ∷ 15 ∷ [])
  pub closing_numbers : (b : Book) (size : ℕ) → Memᴰ (closing b size).refusal (0 ∷ 6 ∷ 9 ∷ [])
  pub cells_numbers : (b : Book) (cells : List ℕ) (size : ℕ) → Memᴰ (closing_cells b cells size).refusal (0 ∷ 6 ∷ 9 ∷ [])
  -- Refused, an opening gives no book but the value above, a feeding the same state, every place of its tables included, and a closing
  -- leaves every byte.
  pub refused_opening : (sheet line : List ℕ) → ((opening sheet line).refusal ≡ 0 → ⊥) → (opening sheet line).state ≡ refused_state
  pub refused_feeding : (s : State) (line : List ℕ) → ((feeding s line).refusal ≡ 0 → ⊥) → (feeding s line).state ≡ s
  pub refused_closing : (b : Book) (buffer : List ℕ) → ((closing b (length buffer)).refusal ≡ 0 → ⊥) → closed b buffer ≡ buffer
  pub refused_cells : (b : Book) (cells buffer : List ℕ) → ((closing_cells b cells (length buffer)).refusal ≡ 0 → ⊥) →
      closed_cells b cells buffer ≡ buffer
  -- The longest text fits the least buffer that its closing takes.
  pub report_fits : (b : Book) → SoundBook b → length (report_of b) ≤ 512
  pub cells_fit : (s : State) → Sound s → length (cells_text_of s.cells) ≤ 8192
  -- What a call gives may be handed to the next.
  pub opening_sound : (sheet line : List ℕ) → Sound (opening sheet line).state
  pub feeding_sound : (s : State) (line : List ℕ) → Sound s → Sound (feeding s line).state
