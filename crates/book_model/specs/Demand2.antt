-- Demand 2: when, and only when, opening, feeding and closing are refused, and with which number (document 01, "Who can be turned down").
-- From request L3 on the forms and ranges of the requests of 02 that have landed count as document 01's, and a book is opened and a line
-- taken only where no refusal named in them applies. Up to now these are 10, for a sheet of factors, 11 and 12, for index values, and 13 to
-- 15, for marks; L5 adds fresh loans to what 4, 5 and 6 count. 16 (L8) is met by no line: Joining.antt has it. Where marks were returned to,
-- the lines taken are those still standing.
-- Lines are spoken of by `bytes_of`, how a form's data is written, and not by any reader; counts by inequalities. Proved in
-- proofs/Demand2.antt.
use Rattle.std.specs.Prelude.{ℕ, ◌+◌, ◌≤◌, ◌<◌, ◌≡◌, Bool, true, false, ◌↔◌, ◌⊎◌, length}
use mathlib.Core.List.{List, Memᴰ}
use Rattle.loan_charge.specs.declared.Score.{Score}
use Rattle.loan_charge.specs.declared.Score.TheVariants.{Scored, Unscored}
use Rattle.sheet.specs.Sheet.{SheetRules}
use Rattle.line_forms.specs.declared.Header.{Header}
use Rattle.line_forms.specs.declared.IndexValue.{IndexValue}
use Rattle.line_forms.specs.declared.Loan.{Loan}
use Rattle.line_forms.specs.declared.Content.{Content}
use Rattle.line_forms.specs.declared.Content.TheVariants.{Header as header, Loan as loan, Policy as policy, Derivative as derivative, Asset as asset}
use Rattle.line_forms.specs.declared.Content.TheVariants.{Amount as amount, Index as index, Mark as mark, NoForm}
use Rattle.line_forms.specs.Contents.{in_range}
use Rattle.line_forms.specs.Claims.{Shows, ShowsInRange, AfterHeader, NoBytes}
use Rattle.figures.specs.declared.Counts.{Counts}
use Rattle.book_model.specs.Accepted.{Note, Accepted, counts_in}
use Rattle.book_model.specs.Calls.{Answer, empty_state, opening, feeding, closing, closing_cells}
use Rattle.book_model.specs.Demand3.{after_lines}
use Rattle.book_model.specs.History.{opened, all_fed, terms_of, accepted_of}
use Rattle.book_model.specs.LineKinds.{line_counts}
use Rattle.book_model.specs.Terms.{Terms, under_sheet}

-- data of a form that counts among the lines that are not loans: neither a header's nor a loan's, no mark and no return (02, L6)
abbrev pub OtherForm : Content → Type 0
OtherForm (header h) = ⊥
OtherForm (loan l) = ⊥
OtherForm (policy p) = Unit {0}
OtherForm (derivative d) = Unit {0}
OtherForm (asset a) = Unit {0}
OtherForm (amount a) = Unit {0}
OtherForm (index i) = Unit {0}
OtherForm (mark m) = ⊥
OtherForm NoForm = ⊥

-- 02, L5: a score with age up to 12
abbrev pub Fresh : Score → Type 0
Fresh (Scored number age) = age ≤ 12
Fresh Unscored = ⊥

-- What a line counts as, by its bytes: as a loan, as one without a score, as one with a fresh score, as another line, or as none of them.
pub record Counted (s : List ℕ) : Type 0 where
  pub loans : ((line_counts s).loans ≡ 1) ↔ ((l : Loan) × ShowsInRange s (loan l))
  pub unscored : ((line_counts s).unscored ≡ 1) ↔ ((l : Loan) × ShowsInRange s (loan l) × (l.score ≡ Unscored))
  pub fresh : ((line_counts s).fresh ≡ 1) ↔ ((l : Loan) × ShowsInRange s (loan l) × Fresh l.score)
  pub other : ((line_counts s).other ≡ 1) ↔ ((c : Content) × OtherForm c × ShowsInRange s c)
  pub once : (line_counts s).loans + (line_counts s).other ≤ 1
  pub among_loans : (line_counts s).unscored + (line_counts s).fresh ≤ (line_counts s).loans

-- s is a header in range that counts no more loans without a score and with a fresh one than loans: it opens a book under a sheet that
-- keeps the rules
abbrev pub Opens : (s : List ℕ) → Header → Type 0
Opens s h = ShowsInRange s (header h) × (h.unscored + h.fresh ≤ h.loans)

-- the answer of opening with a sheet of factors and the line s
pub record OpeningAnswer (sheet s : List ℕ) (a : Answer) : Type 0 where
  pub opens : (h : Header) → (a ≡ record { refusal = 0; state = empty_state (under_sheet h sheet) }) ↔ (Opens s h × SheetRules sheet)
  pub number_1 : (a.refusal ≡ 1) ↔ (240 < length s)
  pub number_2 : (a.refusal ≡ 2) ↔ ((length s ≤ 240) × NoBytes s)
  pub number_7 : (a.refusal ≡ 7) ↔ ((c : Content) × AfterHeader c × Shows s c)
  pub number_3 : (a.refusal ≡ 3) ↔ ((h : Header) × Shows s (header h) × (in_range (header h) ≡ false))
  pub number_4 : (a.refusal ≡ 4) ↔ ((h : Header) × ShowsInRange s (header h) × (h.loans < h.unscored + h.fresh))
  -- 10 after all tests of the header, and only where a rule of the sheet is broken
  pub number_10 : (a.refusal ≡ 10) ↔ (((h : Header) × Opens s h) × (SheetRules sheet → ⊥))

-- a loan that the header's counts leave room for, and one beyond them, where lines with the counts c are taken
abbrev pub LoanFits : Header → Counts → Score → Type 0
LoanFits h c score = (c.loans < h.loans) × (score ≡ Unscored → c.unscored < h.unscored) × (Fresh score → c.fresh < h.fresh)

abbrev pub LoanBeyond : Header → Counts → Score → Type 0
LoanBeyond h c score = (h.loans ≤ c.loans) ⊎ ((score ≡ Unscored) × (h.unscored ≤ c.unscored)) ⊎ (Fresh score × (h.fresh ≤ c.fresh))

-- 02, L4: one of the lines taken is an index line of this area and month
pub record IsSet (kept : List (List ℕ)) (area month : ℕ) : Type 0 where
  pub line : List ℕ
  pub value : ℕ
  pub taken : Memᴰ line kept
  pub shown : ShowsInRange line (index (record { area = area; month = month; value = value }))

-- the months of loans whose property value goes by the index
pub record Indexed (l : Loan) : Type 0 where
  pub least : 200501 ≤ l.from
  pub most : l.from ≤ 201511

-- a loan that wants no index value but those that are set, and one that wants another
abbrev pub ValuesSet : List (List ℕ) → Loan → Type 0
ValuesSet kept l = Indexed l → IsSet kept l.area l.from × IsSet kept l.area 201512

abbrev pub ValueMissing : List (List ℕ) → Loan → Type 0
ValueMissing kept l = Indexed l × ((IsSet kept l.area l.from → ⊥) ⊎ (IsSet kept l.area 201512 → ⊥))

-- 02, L6: the ledger has a note under this name
pub record IsNoted (notes : List Note) (name : ℕ) : Type 0 where
  pub note : Note
  pub kept : Memᴰ note notes
  pub named : note.name ≡ name

-- a line that is a return to a mark
abbrev pub IsReturn : List ℕ → Type 0
IsReturn s = (name : ℕ) × ShowsInRange s (mark (record { back = true; name = name }))

-- a return (true) to a name that is kept; a mark (false) whose name is not, where fewer than eight are
abbrev pub MarkFits : (back : Bool) → List Note → (name : ℕ) → Type 0
MarkFits true notes name = IsNoted notes name
MarkFits false notes name = (IsNoted notes name → ⊥) × (length notes < 8)

-- data of a form other than the header's that meets no refusal where the ledger is `a`
abbrev pub Fits : Header → Accepted → Content → Type 0
Fits h a (header x) = ⊥
Fits h a (loan l) = LoanFits h (counts_in a.kept) l.score × ValuesSet a.kept l
Fits h a (policy p) = (counts_in a.kept).other < 100000
Fits h a (derivative d) = (counts_in a.kept).other < 100000
Fits h a (asset x) = (counts_in a.kept).other < 100000
Fits h a (amount x) = (counts_in a.kept).other < 100000
Fits h a (index i) = ((counts_in a.kept).other < 100000) × (IsSet a.kept i.area i.month → ⊥)
Fits h a (mark m) = MarkFits m.back a.notes m.name
Fits h a NoForm = ⊥

-- n is what feeding s answers under the terms t where the ledger is `a`
pub record FeedingAnswer (t : Terms) (a : Accepted) (s : List ℕ) (n : ℕ) : Type 0 where
  pub taken : (n ≡ 0) ↔ ((c : Content) × ShowsInRange s c × Fits t.header a c)
  pub number_1 : (n ≡ 1) ↔ (240 < length s)
  pub number_2 : (n ≡ 2) ↔ ((length s ≤ 240) × NoBytes s)
  pub number_7 : (n ≡ 7) ↔ ((x : Header) × Shows s (header x))
  pub number_3 : (n ≡ 3) ↔ ((c : Content) × AfterHeader c × Shows s c × (in_range c ≡ false))
  pub number_5 : (n ≡ 5) ↔ ((l : Loan) × ShowsInRange s (loan l) × LoanBeyond t.header (counts_in a.kept) l.score)
  pub number_12 : (n ≡ 12) ↔ ((l : Loan) × ShowsInRange s (loan l) × LoanFits t.header (counts_in a.kept) l.score × ValueMissing a.kept l)
  pub number_8 : (n ≡ 8) ↔ ((c : Content) × OtherForm c × ShowsInRange s c × (100000 ≤ (counts_in a.kept).other))
  pub number_11 : (n ≡ 11) ↔ ((i : IndexValue) × ShowsInRange s (index i) × ((counts_in a.kept).other < 100000) × IsSet a.kept i.area i.month)
  -- 02, L6: 13 before 14
  pub number_13 : (n ≡ 13) ↔ ((name : ℕ) × ShowsInRange s (mark (record { back = false; name = name })) × IsNoted a.notes name)
  pub number_14 : (n ≡ 14) ↔
      ((name : ℕ) × ShowsInRange s (mark (record { back = false; name = name })) × (IsNoted a.notes name → ⊥) × (8 ≤ length a.notes))
  pub number_15 : (n ≡ 15) ↔ ((name : ℕ) × ShowsInRange s (mark (record { back = true; name = name })) × (IsNoted a.notes name → ⊥))

-- lines with the counts c are fewer loans than the header counts, fewer without a score or fewer with a fresh one; or no fewer of any
abbrev pub CountsShort : Header → Counts → Type 0
CountsShort h c = (c.loans < h.loans) ⊎ (c.unscored < h.unscored) ⊎ (c.fresh < h.fresh)

abbrev pub CountsReached : Header → Counts → Type 0
CountsReached h c = (h.loans ≤ c.loans) × (h.unscored ≤ c.unscored) × (h.fresh ≤ c.fresh)

-- n is what closing answers there, with a buffer of this size where `least` bytes are asked
pub record ClosingAnswer (least : ℕ) (t : Terms) (a : Accepted) (size n : ℕ) : Type 0 where
  pub number_6 : (n ≡ 6) ↔ CountsShort t.header (counts_in a.kept)
  pub number_9 : (n ≡ 9) ↔ (CountsReached t.header (counts_in a.kept) × (size < least))
  pub writes : (n ≡ 0) ↔ (CountsReached t.header (counts_in a.kept) × (least ≤ size))

-- For every sheet of factors, every header line, every list of lines fed after it, and the next line or buffer. (An opening that is
-- refused gives the value of an all-zero header under the regulator's table, of which it holds too.)
pub record Demand2 : Type 0 where
  pub openings : (sheet s : List ℕ) → OpeningAnswer sheet s (opening sheet s)
  pub counted : (s : List ℕ) → Counted s
  pub feedings : (sheet header : List ℕ) (lines : List (List ℕ)) (s : List ℕ) →
      FeedingAnswer (terms_of (opened sheet header)) (accepted_of (all_fed (opened sheet header) lines)) s
      (feeding (after_lines (opening sheet header).state lines) s).refusal
  pub closings : (sheet header : List ℕ) (lines : List (List ℕ)) (size : ℕ) →
      ClosingAnswer 512 (terms_of (opened sheet header)) (accepted_of (all_fed (opened sheet header) lines)) size
      (closing (after_lines (opening sheet header).state lines).book size).refusal
  pub cells_closings : (sheet header : List ℕ) (lines : List (List ℕ)) (size : ℕ) →
      ClosingAnswer 8192 (terms_of (opened sheet header)) (accepted_of (all_fed (opened sheet header) lines)) size
      (closing_cells (after_lines (opening sheet header).state lines).book (after_lines (opening sheet header).state lines).cells size).refusal
