-- 02, L8: two open books joined without reading their lines again. Proved in proofs/Joining.antt, and through the calls themselves in the
-- crate histories.
use Rattle.std.specs.Prelude.{ℕ, zero, suc, ◌+◌, ◌*◌, ◌≤◌, ◌<◌, ◌≡◌, Bool, true, false, ◌&&◌, ◌||◌, ◌↔◌, leb, ltb, eqb, get_or}
use mathlib.Core.List.{List, [], ◌∷◌, ◌++◌, Permᴰ}
use Rattle.exact.specs.Choice.{pick}
use Rattle.loan_charge.specs.CreditFactor.{rate_places}
use Rattle.line_forms.specs.declared.Header.{Header}
use Rattle.line_forms.specs.declared.Content.TheVariants.{Header as header}
use Rattle.line_forms.specs.Claims.{line_content}
use Rattle.line_forms.specs.Contents.{bytes_of, header_in_range, on_aged_table_lem}
use Rattle.line_forms.specs.Readings.{line_of}
use Rattle.figures.specs.Sums.{plus}
use Rattle.book_model.specs.Accepted.{most_other}
use Rattle.book_model.specs.Calls.{State, Answer, state_at, empty_state, Sound, closing, closed, closing_cells, closed_cells}
use Rattle.book_model.specs.Demand1.{refused_state}
use Rattle.book_model.specs.Demand2.{CountsReached}
use Rattle.book_model.specs.GivenState.{state_given, IsOpened}
use Rattle.book_model.specs.History.{History, opened, all_fed, sheet_of, terms_of, accepted_of, lines_taken}
use Rattle.book_model.specs.HouseIndex.{index_places, of_index}
use Rattle.book_model.specs.Marks.{no_marks}
use Rattle.book_model.specs.Terms.{refused_terms}

-- "held .. and header counts are added"
abbrev pub added_header_lem : Header → Header → Header
added_header_lem g h = record {
  loans = g.loans + h.loans;
  unscored = g.unscored + h.unscored;
  fresh = g.fresh + h.fresh;
  held = g.held + h.held;
}

abbrev pub joined_header : State → State → Header
joined_header a b = added_header_lem a.book.header b.book.header

-- When two books may be joined

-- "for each book whose header counts loans the added header chooses the same score column and, where that book's header counts unscored loans,
-- the same factor for them": the first column or that of the age (02, L5), 3.0 or 1.3
pub record KeepsChoices (own joined : Header) : Type 0 where
  pub column : 1 ≤ own.loans → (9 * own.loans ≤ 10 * own.fresh) ↔ (9 * joined.loans ≤ 10 * joined.fresh)
  pub factor : 1 ≤ own.loans → 1 ≤ own.unscored → (own.loans < 20 * own.unscored) ↔ (joined.loans < 20 * joined.unscored)

-- "the same factor sheet": all that books are opened under beside their headers
abbrev pub SameFactors : State → State → Type 0
SameFactors a b = a.rates ≡ b.rates

pub record MayJoin (a b : State) : Type 0 where
  -- "only under the same factor sheet and index values,
  pub factors : SameFactors a b
  pub index : a.index ≡ b.index
  -- when the added header is in range,
  pub loans : (joined_header a b).loans ≤ 1000000
  pub held : (joined_header a b).held ≤ 10000000000000
  -- the lines that are not loans, index lines once, total at most 100,000,
  pub lines : a.book.sums.counts.other + b.book.sums.counts.other + a.book.indexed ≤ 100000
  -- and for each book whose header counts loans .."
  pub first : KeepsChoices a.book.header (joined_header a b)
  pub second : KeepsChoices b.book.header (joined_header a b)

-- The test. Need not be believed: it is equal to the conditions (JoiningAnswer).

-- whether the first n places of two tables are the same
unfoldable pub same_places : ℕ → List ℕ → List ℕ → Bool
same_places zero xs ys = true
same_places (suc n) xs ys = same_places n xs ys && eqb (get_or xs n 0) (get_or ys n 0)

-- whether two answers are the same
abbrev pub alike : Bool → Bool → Bool
alike x y = pick x y (pick y false true)

-- whether a header makes loans without a score count 3.0
unfoldable pub many_unscored_lem : Header → Bool
many_unscored_lem h = ltb h.loans (20 * h.unscored)

unfoldable pub keeps_choices_lem : (own joined : Header) → Bool
keeps_choices_lem own joined =
    eqb own.loans 0
    || (alike (on_aged_table_lem own) (on_aged_table_lem joined) && (eqb own.unscored 0 || alike (many_unscored_lem own) (many_unscored_lem joined)))

unfoldable pub same_factors_lem : (first second : List ℕ) → Bool
same_factors_lem first second = same_places rate_places first second

unfoldable pub same_index_lem : (first second : List ℕ) → Bool
same_index_lem first second = same_places index_places first second

unfoldable pub may_join_lem : State → State → Bool
may_join_lem a b =
    same_factors_lem a.rates b.rates && same_index_lem a.index b.index && header_in_range (joined_header a b)
    && leb (a.book.sums.counts.other + b.book.sums.counts.other + a.book.indexed) most_other
    && keeps_choices_lem a.book.header (joined_header a b) && keeps_choices_lem b.book.header (joined_header a b)

-- The joined book

-- n places, the place i holding f i
unfoldable pub places : ℕ → (ℕ → ℕ) → List ℕ
places zero f = []
places (suc n) f = places n f ++ (f n ∷ [])

-- the cells of both, place by place
unfoldable pub added_cells : (first second : List ℕ) → List ℕ
added_cells first second = places 240 (λ i. get_or first i 0 + get_or second i 0)

-- "held, counts, sums and header counts are added, but the index lines, being the same in both, count once"; "marks are dropped"
abbrev pub joined_state : State → State → State
joined_state a b = state_at
    (record { header = joined_header a b; sums = plus a.book.sums b.book.sums; indexed = a.book.indexed })
    a.rates (added_cells a.cells b.cells) a.index no_marks

-- "Where, and only where, a condition is wanting, 16 comes back, with a refused opening's value where one must stand"
unfoldable pub joining : State → State → Answer
joining a b = pick (may_join_lem a b) (record { refusal = 0; state = joined_state a b }) (record { refusal = 16; state = empty_state refused_terms })

-- The lines still standing in both, index lines once and first

abbrev pub is_index_line : List ℕ → Bool
is_index_line s = of_index (λ i. true) false (line_content (line_of s))

unfoldable pub index_lines : List (List ℕ) → List (List ℕ)
index_lines [] = []
index_lines (s ∷ kept) = pick (is_index_line s) (s ∷ index_lines kept) (index_lines kept)

unfoldable pub other_lines : List (List ℕ) → List (List ℕ)
other_lines [] = []
other_lines (s ∷ kept) = pick (is_index_line s) (other_lines kept) (s ∷ other_lines kept)

-- the header line of the one book
abbrev pub added_header_line : History → History → List ℕ
added_header_line h k = bytes_of (header (added_header_lem (terms_of h).header (terms_of k).header))

-- one book with the added header, under the sheet of the first, fed lines
abbrev pub one_book : History → History → (lines : List (List ℕ)) → History
one_book h k lines = all_fed (opened (sheet_of h) (added_header_line h k)) lines

abbrev pub standing_in_both : History → History → List (List ℕ)
standing_in_both h k = index_lines (lines_taken h) ++ (other_lines (lines_taken h) ++ other_lines (lines_taken k))

-- the history that a joined book counts as
abbrev pub joined : History → History → History
joined h k = one_book h k (standing_in_both h k)

-- the same lines, each of the two parts in whatever order
pub record LinesOfBoth (h k : History) (first rest : List (List ℕ)) : Type 0 where
  pub index : Permᴰ first (index_lines (lines_taken h))
  pub others : Permᴰ rest (other_lines (lines_taken h) ++ other_lines (lines_taken k))

-- What is claimed

-- two books were opened, and joining them is not refused
pub record JoinedBooks (h k : History) : Type 0 where
  pub first : IsOpened h
  pub second : IsOpened k
  pub joins : (joining (state_given h) (state_given k)).refusal ≡ 0

-- both closings answer and write the same
pub record ClosedAlike (s u : State) : Type 0 where
  pub answers : (size : ℕ) → closing s.book size ≡ closing u.book size
  pub writes : (buffer : List ℕ) → closed s.book buffer ≡ closed u.book buffer
  pub cells_answers : (size : ℕ) → closing_cells s.book s.cells size ≡ closing_cells u.book u.cells size
  pub cells_writes : (buffer : List ℕ) → closed_cells s.book s.cells buffer ≡ closed_cells u.book u.cells buffer

-- n is what joining two books answers: 0 exactly where they may be joined, 16 exactly where a condition is wanting.
pub record JoiningAnswer (a b : State) (n : ℕ) : Type 0 where
  pub joins : (n ≡ 0) ↔ MayJoin a b
  pub number_16 : (n ≡ 16) ↔ (MayJoin a b → ⊥)

pub record Joining : Type 0 where
  pub answers : (a b : State) → Sound a → Sound b → JoiningAnswer a b (joining a b).refusal
  -- "held, counts, sums and header counts are added, but the index lines, being the same in both, count once"
  pub joins : (a b : State) → (joining a b).refusal ≡ 0 → (joining a b).state ≡ joined_state a b
  -- "with a refused opening's value where one must stand"
  pub refused : (a b : State) → ((joining a b).refusal ≡ 0 → ⊥) → joining a b ≡ record { refusal = 16; state = refused_state }
  -- What a joining gives may be handed to the next call.
  pub sound : (a b : State) → Sound a → Sound b → Sound (joining a b).state
  -- Closing the joined book is not refused with 6 exactly where closing neither of the two would be.
  pub reached : (a b : State) → Sound a → Sound b → CountsReached (joined_header a b) (joined_state a b).book.sums.counts ↔
      (CountsReached a.book.header a.book.sums.counts × CountsReached b.book.header b.book.sums.counts)
  -- "Closing the joined book gives the report, or the refusal, of one book with the added header fed the lines still standing in both, index
  -- lines once and first": that book is opened, every one of these lines is taken, no mark is kept, and the joined book is that one book, its
  -- tables included. "A joined book counts as one that opening and feeding give, with those lines taken."
  pub opens : {h k : History} → JoinedBooks h k → IsOpened (joined h k)
  pub taken : {h k : History} → JoinedBooks h k → accepted_of (joined h k) ≡ record { kept = standing_in_both h k; notes = [] }
  pub counts_as : {h k : History} → JoinedBooks h k → (joining (state_given h) (state_given k)).state ≡ state_given (joined h k)
  -- So it is in whatever order the index lines come, and the others after them; both closings answer and write the same.
  pub taken_in_order : {h k : History} → JoinedBooks h k → {first rest : List (List ℕ)} → LinesOfBoth h k first rest →
      accepted_of (one_book h k (first ++ rest)) ≡ record { kept = first ++ rest; notes = [] }
  pub as_one_book : {h k : History} → JoinedBooks h k → {first rest : List (List ℕ)} → LinesOfBoth h k first rest →
      (joining (state_given h) (state_given k)).state ≡ state_given (one_book h k (first ++ rest))
  pub closes : {h k : History} → JoinedBooks h k → {first rest : List (List ℕ)} → LinesOfBoth h k first rest →
      ClosedAlike (joining (state_given h) (state_given k)).state (state_given (one_book h k (first ++ rest)))
