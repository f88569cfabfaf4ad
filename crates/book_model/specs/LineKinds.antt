-- What a line is to the counts of a book: a loan, an index value, a mark or return, another line, or one refused by its bytes.
use Rattle.std.specs.Prelude.{ℕ, ◌+◌, List, [], ◌∷◌, leb}
use Rattle.exact.specs.Choice.{pick}
use Rattle.loan_charge.specs.declared.Score.{Score}
use Rattle.loan_charge.specs.declared.Score.TheVariants.{Scored, Unscored}
use Rattle.line_forms.specs.declared.IndexValue.{IndexValue}
use Rattle.line_forms.specs.declared.Loan.{Loan}
use Rattle.line_forms.specs.declared.MarkLine.{MarkLine}
use Rattle.line_forms.specs.declared.Content.{Content}
use Rattle.line_forms.specs.declared.Content.TheVariants.{Header as header, Loan as loan, Policy as policy, Derivative as derivative, Asset as asset}
use Rattle.line_forms.specs.declared.Content.TheVariants.{Amount as amount, Index as index, Mark as mark, NoForm}
use Rattle.line_forms.specs.declared.Line.{Line}
use Rattle.line_forms.specs.Claims.{line_refusal, line_content}
use Rattle.line_forms.specs.Readings.{line_of}
use Rattle.figures.specs.declared.Counts.{Counts}
use Rattle.figures.specs.Sums.{no_counts}

pub data LineKind : Type 0 where
  a_loan : Loan → LineKind
  an_index : IndexValue → LineKind
  a_mark : MarkLine → LineKind
  another : LineKind
  refused : (number : ℕ) → LineKind

-- by the data that a line holds, where line reading gave the number n
unfoldable pub content_kind : ℕ → Content → LineKind
content_kind n (header h) = refused n
content_kind n (loan l) = a_loan l
content_kind n (policy p) = another
content_kind n (derivative d) = another
content_kind n (asset a) = another
content_kind n (amount a) = another
content_kind n (index i) = an_index i
content_kind n (mark m) = a_mark m
content_kind n NoForm = refused n

-- something of the mark or return that a line holds, and x where it holds none
abbrev pub of_mark : {A : Type 0} → (MarkLine → A) → A → Content → A
of_mark f x (header h) = x
of_mark f x (loan l) = x
of_mark f x (policy p) = x
of_mark f x (derivative d) = x
of_mark f x (asset a) = x
of_mark f x (amount a) = x
of_mark f x (index i) = x
of_mark f x (mark m) = f m
of_mark f x NoForm = x

abbrev pub kind_of : Line → LineKind
kind_of l = content_kind (line_refusal l) (line_content l)

-- 1 for a loan without a score, else 0
unfoldable pub unscored_count : Score → ℕ
unscored_count (Scored number age) = 0
unscored_count Unscored = 1

-- 02, L5: 1 for a loan with a score that is fresh, of age up to 12, else 0
unfoldable pub fresh_count : Score → ℕ
fresh_count (Scored number age) = pick (leb age 12) 1 0
fresh_count Unscored = 0

-- How a line of a kind counts. Index lines count among the lines that are not loans (02, L4), marks and returns do not (02, L6).
unfoldable pub kind_counts : LineKind → Counts
kind_counts (a_loan l) = record { loans = 1; unscored = unscored_count l.score; fresh = fresh_count l.score; other = 0 }
kind_counts (an_index i) = record { loans = 0; unscored = 0; fresh = 0; other = 1 }
kind_counts (a_mark m) = no_counts
kind_counts another = record { loans = 0; unscored = 0; fresh = 0; other = 1 }
kind_counts (refused number) = no_counts

-- counts with so many index lines among the lines that are not loans
abbrev pub with_indexed : Counts → ℕ → Counts
with_indexed c n = record { loans = c.loans; unscored = c.unscored; fresh = c.fresh; other = c.other + n }

abbrev pub line_counts : List ℕ → Counts
line_counts s = kind_counts (kind_of (line_of s))

-- a number of each line, summed over the lines
unfoldable pub sum_by : (Content → ℕ) → List (List ℕ) → ℕ
sum_by f [] = 0
sum_by f (s ∷ kept) = f (line_content (line_of s)) + sum_by f kept
