-- Demand 2 for one line: when, and only when, line reading and header reading give each of their answers (01, "Who can be turned down").
use Rattle.std.specs.Prelude.{ℕ, ◌+◌, ◌≤◌, ◌<◌, true, false, List, ◌↔◌, ◌⊎◌, ◌≡◌, length, Result, Ok, Err}
use Rattle.line_forms.specs.Bytes.{all_within}
use Rattle.line_forms.specs.Contents.{bytes_of, Writable, in_range}
use Rattle.line_forms.specs.Names.{NameWritable, is_name, letters_of}
use Rattle.line_forms.specs.Refusals.{number_of}
use Rattle.line_forms.specs.Readings.{longest_line, header_of, content_of}
use Rattle.line_forms.specs.declared.Header.{Header}
use Rattle.line_forms.specs.declared.Content.{Content}
use Rattle.line_forms.specs.declared.Content.TheVariants.{Header as header, Loan as loan, Policy as policy, Derivative as derivative}
use Rattle.line_forms.specs.declared.Content.TheVariants.{Asset as asset, Amount as amount, Index as index, Mark as mark, NoForm}
use Rattle.line_forms.specs.declared.Line.{Line}
use Rattle.line_forms.specs.declared.Line.TheVariants.{Loan as LoanLine, Policy as PolicyLine, Derivative as DerivativeLine}
use Rattle.line_forms.specs.declared.Line.TheVariants.{Asset as AssetLine, Amount as AmountLine, Index as IndexLine, Mark as MarkRead, Refusal}
use Rattle.line_forms.specs.declared.refusal.Refusal.{Refusal as Reason}
use Rattle.line_forms.specs.declared.refusal.Refusal.TheVariants.{NoForm as Formless, Misplaced}

-- s is the bytes of data c
pub record Shows (s : List ℕ) (c : Content) : Type 0 where
  pub writable : Writable c
  pub bytes : s ≡ bytes_of c

-- and its numbers are in range
pub record ShowsInRange (s : List ℕ) (c : Content) : Type 0 where
  pub shows : Shows s c
  pub within_range : in_range c ≡ true

-- data of a form other than the header's
abbrev pub AfterHeader : Content → Type 0
AfterHeader (header h) = ⊥
AfterHeader (loan l) = Unit {0}
AfterHeader (policy p) = Unit {0}
AfterHeader (derivative d) = Unit {0}
AfterHeader (asset a) = Unit {0}
AfterHeader (amount a) = Unit {0}
AfterHeader (index i) = Unit {0}
AfterHeader (mark m) = Unit {0}
AfterHeader NoForm = ⊥

-- line reading's answer that holds such data
abbrev pub line_with : Content → Line
line_with (header h) = Refusal Misplaced
line_with (loan l) = LoanLine l
line_with (policy p) = PolicyLine p
line_with (derivative d) = DerivativeLine d
line_with (asset a) = AssetLine a
line_with (amount a) = AmountLine a
line_with (index i) = IndexLine i
line_with (mark m) = MarkRead m
line_with NoForm = Refusal Formless

-- 01: "If an answer is an enum, a definition gives this paper's number and values for each of its cases. The promises use this definition."
-- These are the definitions for line reading's and header reading's answers: the number of the refusal, 0 where the line is accepted, ..
abbrev pub line_refusal : Line → ℕ
line_refusal (LoanLine l) = 0
line_refusal (PolicyLine p) = 0
line_refusal (DerivativeLine d) = 0
line_refusal (AssetLine a) = 0
line_refusal (AmountLine a) = 0
line_refusal (IndexLine i) = 0
line_refusal (MarkRead m) = 0
line_refusal (Refusal r) = number_of r

abbrev pub header_refusal : Result Header Reason → ℕ
header_refusal (Ok h) = 0
header_refusal (Err r) = number_of r

-- .. and the values of an accepted line.
abbrev pub line_content : Line → Content
line_content (LoanLine l) = loan l
line_content (PolicyLine p) = policy p
line_content (DerivativeLine d) = derivative d
line_content (AssetLine a) = asset a
line_content (AmountLine a) = amount a
line_content (IndexLine i) = index i
line_content (MarkRead m) = mark m
line_content (Refusal r) = NoForm

abbrev pub header_content : Result Header Reason → Content
header_content (Ok h) = header h
header_content (Err r) = NoForm

-- a line that is no form's bytes
abbrev pub NoBytes : List ℕ → Type 0
NoBytes s = (c : Content) → Writable c → s ≡ bytes_of c → ⊥

-- what the answer r for a line s after the header says of the line
pub record LineReading (s : List ℕ) (r : Line) : Type 0 where
  pub accepted : (c : Content) → AfterHeader c → ((line_refusal r ≡ 0) × (line_content r ≡ c)) ↔ (Writable c × (in_range c ≡ true) × (s ≡ bytes_of c))
  pub refused1 : (line_refusal r ≡ 1) ↔ (longest_line < length s)
  pub refused2 : (line_refusal r ≡ 2) ↔ ((length s ≤ longest_line) × NoBytes s)
  pub refused7 : (line_refusal r ≡ 7) ↔ ((h : Header) × Writable (header h) × (s ≡ bytes_of (header h)))
  pub refused3 : (line_refusal r ≡ 3) ↔ ((c : Content) × AfterHeader c × Writable c × (in_range c ≡ false) × (s ≡ bytes_of c))
  pub numbers : (AfterHeader (line_content r) × (line_refusal r ≡ 0)) ⊎ (line_refusal r ≡ 1) ⊎ (line_refusal r ≡ 2) ⊎ (line_refusal r ≡ 7) ⊎ (line_refusal r ≡ 3)

-- what the answer r for a header line s says of it
pub record HeaderReading (s : List ℕ) (r : Result Header Reason) : Type 0 where
  pub accepted :
      (h : Header) →
      ((header_refusal r ≡ 0) × (header_content r ≡ header h)) ↔
      (Writable (header h) × (in_range (header h) ≡ true) × (h.unscored + h.fresh ≤ h.loans) × (s ≡ bytes_of (header h)))
  pub refused1 : (header_refusal r ≡ 1) ↔ (longest_line < length s)
  pub refused2 : (header_refusal r ≡ 2) ↔ ((length s ≤ longest_line) × NoBytes s)
  pub refused7 : (header_refusal r ≡ 7) ↔ ((c : Content) × AfterHeader c × Writable c × (s ≡ bytes_of c))
  pub refused3 : (header_refusal r ≡ 3) ↔ ((h : Header) × Writable (header h) × (in_range (header h) ≡ false) × (s ≡ bytes_of (header h)))
  pub refused4 :
      (header_refusal r ≡ 4) ↔
      ((h : Header) × Writable (header h) × (in_range (header h) ≡ true) × (h.loans < h.unscored + h.fresh) × (s ≡ bytes_of (header h)))
  pub numbers :
      ((h : Header) × (header_content r ≡ header h) × (header_refusal r ≡ 0)) ⊎
      (header_refusal r ≡ 1) ⊎ (header_refusal r ≡ 2) ⊎ (header_refusal r ≡ 7) ⊎ (header_refusal r ≡ 3) ⊎ (header_refusal r ≡ 4)

-- No form is longer than 196 bytes, so refusal 1 meets none; its bytes give the data back; and a header in its ranges can be written.
pub record BytesRead : Type 0 where
  pub short : (c : Content) → Writable c → length (bytes_of c) ≤ 196
  pub back : (c : Content) → Writable c → content_of (bytes_of c) ≡ c
  pub header_back : (h : Header) → in_range (header h) ≡ true → h.unscored + h.fresh ≤ h.loans → header_of (bytes_of (header h)) ≡ Ok h

-- 02, L6: the numbers from 1 to most_name are the names of 1 to 12 lower-case letters, one each.
pub record NameNumbers : Type 0 where
  pub letters : (n : ℕ) → NameWritable n → (is_name (letters_of n) ≡ true) × (all_within 97 122 (letters_of n) ≡ true)
  pub number : (t : List ℕ) → is_name t ≡ true → all_within 97 122 t ≡ true → (n : ℕ) × NameWritable n × (t ≡ letters_of n)
  pub same : (m n : ℕ) → NameWritable m → NameWritable n → (letters_of m ≡ letters_of n) ↔ (m ≡ n)
