-- Which lines a book takes: document 01's ledger, here the accepted lines. It is given what the book is opened under and the lines in turn,
-- no answer and nothing of a book. From request L3 on the forms and ranges of the requests of 02 that have landed count as document 01's,
-- and a line is added only where no refusal named in them applies. Up to now these are 11 and 12 (L4), and 13 to 15 (L6) for marks and
-- returns, which are not added: at a mark the ledger notes its list, at a return it takes a noted list up again. 16 (L8) is met by no line.
use Rattle.std.specs.Prelude.{ℕ, suc, Bool, ◌&&◌, ◌||◌, List, [], ◌∷◌, ◌++◌, map, leb, eqb, length, get_or, take}
use Rattle.exact.specs.Choice.{pick}
use Rattle.loan_charge.specs.declared.Score.{Score}
use Rattle.line_forms.specs.declared.Header.{Header}
use Rattle.line_forms.specs.declared.MarkLine.{MarkLine}
use Rattle.line_forms.specs.Claims.{line_content}
use Rattle.line_forms.specs.Readings.{line_of}
use Rattle.figures.specs.declared.Counts.{Counts}
use Rattle.figures.specs.Sums.{no_counts, counts_sum_lem}
use Rattle.book_model.specs.declared.Adjustment.{Adjustment}
use Rattle.book_model.specs.HouseIndex.{adjustment_of, lacking}
use Rattle.book_model.specs.LineKinds.{LineKind, a_loan, an_index, a_mark, another, refused, of_mark, kind_of, line_counts, unscored_count, fresh_count}
use Rattle.book_model.specs.Marks.{place_among, is_among, Kept, mark_refusal}
use Rattle.book_model.specs.Terms.{Terms, Basis, basis_of}

-- how many of the lines are loans, loans without a score, loans with a fresh one, and other lines
unfoldable pub counts_in : List (List ℕ) → Counts
counts_in [] = no_counts
counts_in (s ∷ kept) = counts_sum_lem (line_counts s) (counts_in kept)

-- 5: a loan beyond the header's loans, one without a score beyond its unscored, or one with a fresh score beyond its fresh (02, L5)
abbrev pub loan_beyond_lem : Header → Counts → Score → Bool
loan_beyond_lem h c score =
    leb h.loans c.loans || (eqb (unscored_count score) 1 && leb h.unscored c.unscored) || (eqb (fresh_count score) 1 && leb h.fresh c.fresh)

-- then 12: the index value of its month or of 201512, by which its property value goes, is not set
abbrev pub loan_refusal : Header → Counts → Adjustment → Score → ℕ
loan_refusal h c a score = pick (loan_beyond_lem h c score) 5 (pick (lacking a) 12 0)

-- 8: a line beyond 100,000 that is not a loan
abbrev pub most_other : ℕ
most_other = 100000

abbrev pub other_refusal : Counts → ℕ
other_refusal c = pick (leb most_other c.other) 8 0

-- then 11: a second value for an area and month, where `before` is set, 0 for none
abbrev pub index_refusal : Counts → (before : ℕ) → ℕ
index_refusal c before = pick (leb most_other c.other) 8 (pick (eqb before 0) 0 11)

-- The refusal that a line meets, counting only the lines accepted so far and not withdrawn since: 1, 2, 7 or 3 by its bytes, then 5 and 12,
-- or 8 and 11, or 13 and 14, or 15; 0 for none.
unfoldable pub refusal_for : Basis → Counts → Kept → LineKind → ℕ
refusal_for g c k (a_loan l) = loan_refusal g.terms.header c (adjustment_of g.index l) l.score
refusal_for g c k (an_index i) = index_refusal c (g.index i.area i.month)
refusal_for g c k (a_mark m) = mark_refusal k m
refusal_for g c k another = other_refusal c
refusal_for g c k (refused number) = number

-- 02, L6: a list of lines noted under a mark's name
pub record Note : Type 0 where
  pub name : ℕ
  pub list : List (List ℕ)

-- document 01's ledger: the accepted lines, in the order of the list, and what is noted under the marks kept, in the order set
pub record Accepted : Type 0 where
  pub kept : List (List ℕ)
  pub notes : List Note

abbrev pub none_accepted : Accepted
none_accepted = record { kept = []; notes = [] }

abbrev pub names_of : List Note → List ℕ
names_of notes = map (λ n. n.name) notes

abbrev pub kept_by : List Note → Kept
kept_by notes = record { named = λ n. is_among n (names_of notes); count = length notes }

abbrev pub refusal_of : Terms → Accepted → List ℕ → ℕ
refusal_of t a s = refusal_for (basis_of t a.kept) (counts_in a.kept) (kept_by a.notes) (kind_of (line_of s))

-- a mark: the list is noted under its name
abbrev pub noted : Accepted → (name : ℕ) → Accepted
noted a name = record { kept = a.kept; notes = a.notes ++ (record { name = name; list = a.kept } ∷ []) }

-- where there is none
abbrev pub no_note : Note
no_note = record { name = 0; list = [] }

-- a return: the list noted under its name is taken up again, and the marks set after that one are dropped
abbrev pub place_of_note : Accepted → (name : ℕ) → ℕ
place_of_note a name = place_among name (names_of a.notes)

abbrev pub taken_up : Accepted → (name : ℕ) → Accepted
taken_up a name = record { kept = (get_or a.notes (place_of_note a name) no_note).list; notes = take (suc (place_of_note a name)) a.notes }

-- any other line is added at the end
abbrev pub added : Accepted → List ℕ → Accepted
added a s = record { kept = a.kept ++ (s ∷ []); notes = a.notes }

abbrev pub with_mark : Accepted → MarkLine → Accepted
with_mark a m = pick m.back (taken_up a m.name) (noted a m.name)

-- A line that meets a refusal leaves the ledger as it is.
unfoldable pub accept : Terms → Accepted → List ℕ → Accepted
accept t a s = pick (eqb (refusal_of t a s) 0) (of_mark (with_mark a) (added a s) (line_content (line_of s))) a
