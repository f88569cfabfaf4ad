-- What a line holds, as a function of its bytes, and the answers of line reading and header reading.
use Rattle.std.specs.Prelude.{ℕ, ◌+◌, Bool, true, false, List, ltb, eqb, length, Result, Ok, Err}
use Rattle.exact.specs.Text.{text}
use Rattle.exact.specs.Choice.{pick}
use Rattle.line_forms.specs.Forms.{Values, choices_of}
use Rattle.line_forms.specs.Parsing.{values_at, has_form, letters_at, place_of}
use Rattle.line_forms.specs.Contents.{header_form, header_in_range, loan_form, loan_in_range, policy_form, policy_in_range, derivative_form}
use Rattle.line_forms.specs.Contents.{derivative_in_range, asset_form, asset_in_range, plain_form, signed_form, amount_in_range, index_form, index_in_range}
use Rattle.line_forms.specs.Contents.{mark_form}
use Rattle.fixed_point.specs.declared.Signed.{Signed}
use Rattle.line_forms.specs.declared.Header.{Header}
use Rattle.line_forms.specs.declared.Loan.{Loan}
use Rattle.line_forms.specs.declared.Class.{Class}
use Rattle.line_forms.specs.declared.Class.TheVariants.{Home, Multi}
use Rattle.line_forms.specs.declared.Policy.{Policy}
use Rattle.line_forms.specs.declared.Kind.{Kind}
use Rattle.line_forms.specs.declared.Kind.TheVariants.{Rate, Float, Fx, Equity as EquityKind, Metal, Other}
use Rattle.line_forms.specs.declared.Derivative.{Derivative}
use Rattle.line_forms.specs.declared.Asset.{Asset}
use Rattle.line_forms.specs.declared.Item.{Item}
use Rattle.line_forms.specs.declared.Item.TheVariants.{Claims, Lossc, Stated, Equity, Aoci, B, C}
use Rattle.line_forms.specs.declared.IndexValue.{IndexValue}
use Rattle.line_forms.specs.declared.MarkLine.{MarkLine}
use Rattle.line_forms.specs.declared.Content.{Content}
use Rattle.line_forms.specs.declared.Content.TheVariants.{Header as header, Loan as loan, Policy as policy, Derivative as derivative}
use Rattle.line_forms.specs.declared.Content.TheVariants.{Asset as asset, Amount as amount, Index as index, Mark as mark, NoForm}
use Rattle.line_forms.specs.declared.Line.{Line}
use Rattle.line_forms.specs.declared.Line.TheVariants.{Loan as LoanLine, Policy as PolicyLine, Derivative as DerivativeLine}
use Rattle.line_forms.specs.declared.Line.TheVariants.{Asset as AssetLine, Amount as AmountLine, Index as IndexLine, Mark as MarkRead, Refusal}
use Rattle.line_forms.specs.declared.refusal.Refusal.{Refusal as Reason}
use Rattle.line_forms.specs.declared.refusal.Refusal.TheVariants.{LongLine, NoForm as Formless, OutOfRange, OverCounted, Misplaced}

-- The data that a form's values make.

abbrev pub header_with : Values header_form → Header
header_with v = record {
  loans = v.0;
  unscored = v.1.0;
  fresh = v.1.1.0;
  held = v.1.1.1.0;
}

abbrev pub loan_with : Values loan_form → Loan
loan_with v = record {
  balance = v.0;
  value = v.1.0;
  amortization = v.1.1.0;
  term = v.1.1.1.0;
  score = v.1.1.1.1.0;
  supplement = v.1.1.1.1.1.0;
  from = v.1.1.1.1.1.1.0;
  area = v.1.1.1.1.1.1.1.0;
}

abbrev pub class_at : ℕ → Class
class_at i = pick (eqb i 0) Home Multi

abbrev pub policy_with : Values policy_form → Policy
policy_with v = record {
  class = class_at v.0;
  premium = v.1.0;
  term = v.1.1.0;
  completed = v.1.1.1.0;
}

abbrev pub kind_at : ℕ → Kind
kind_at i =
    pick (eqb i 0) Rate
    (pick (eqb i 1) Float (pick (eqb i 2) Fx (pick (eqb i 3) EquityKind (pick (eqb i 4) Metal Other))))

abbrev pub derivative_with : Values derivative_form → Derivative
derivative_with v = record {
  kind = kind_at v.0;
  cost = v.1.0;
  notional = v.1.1.0;
  months = v.1.1.1.0;
  payments = v.1.1.1.1.0;
  factor = v.1.1.1.1.1.0;
}

abbrev pub asset_with : Values asset_form → Asset
asset_with v = record { amount = v.0; factor = v.1.0 }

abbrev pub index_with : Values index_form → IndexValue
index_with v = record { area = v.0; month = v.1.0; value = v.1.1.0 }

abbrev pub mark_with : (back : Bool) → Values (mark_form back) → MarkLine
mark_with back v = record { back = back; name = v.0 }

-- an amount without a sign
abbrev pub unsigned : ℕ → Signed
unsigned n = record { plus = n; minus = 0 }

-- What a line holds as each form.

unfoldable pub header_held : List ℕ → Content
header_held s = pick (has_form header_form s) (header (header_with (values_at header_form s 0))) NoForm

unfoldable pub loan_held : List ℕ → Content
loan_held s = pick (has_form loan_form s) (loan (loan_with (values_at loan_form s 0))) NoForm

unfoldable pub policy_held : List ℕ → Content
policy_held s = pick (has_form policy_form s) (policy (policy_with (values_at policy_form s 0))) NoForm

unfoldable pub derivative_held : List ℕ → Content
derivative_held s =
    pick (has_form derivative_form s) (derivative (derivative_with (values_at derivative_form s 0))) NoForm

unfoldable pub asset_held : List ℕ → Content
asset_held s = pick (has_form asset_form s) (asset (asset_with (values_at asset_form s 0))) NoForm

unfoldable pub index_held : List ℕ → Content
index_held s = pick (has_form index_form s) (index (index_with (values_at index_form s 0))) NoForm

unfoldable pub mark_held : (back : Bool) → List ℕ → Content
mark_held back s = pick (has_form (mark_form back) s) (mark (mark_with back (values_at (mark_form back) s 0))) NoForm

-- an amount after the text t
unfoldable pub plain_held : Item → List ℕ → List ℕ → Content
plain_held i t s =
    pick (has_form (plain_form t) s) (amount (record { item = i; amount = unsigned (values_at (plain_form t) s 0).0 }))
    NoForm

unfoldable pub signed_held : Item → List ℕ → List ℕ → Content
signed_held i t s =
    pick (has_form (signed_form t) s) (amount (record { item = i; amount = (values_at (signed_form t) s 0).0 })) NoForm

-- the name of each form, after its opening bracket
abbrev pub names : List (List ℕ)
names = choices_of (text "loan|policy|deriv|asset|book|claims|lossc|stated|equity|aoci|b|c|index|mark|back")

-- an amount by the place of its name
unfoldable pub amount_held : ℕ → List ℕ → Content
amount_held name s =
    pick (eqb name 5) (plain_held Claims (text "(claims ") s)
    (pick (eqb name 6) (plain_held Lossc (text "(lossc ") s)
    (pick (eqb name 7) (plain_held Stated (text "(stated ") s)
    (pick (eqb name 8) (signed_held Equity (text "(equity ") s)
    (pick (eqb name 9) (signed_held Aoci (text "(aoci ") s)
    (pick (eqb name 10) (plain_held B (text "(b ") s)
    (pick (eqb name 11) (plain_held C (text "(c ") s) NoForm))))))

-- what a line holds by the place of its name
abbrev pub held_as : ℕ → List ℕ → Content
held_as name s =
    pick (eqb name 0) (loan_held s)
    (pick (eqb name 1) (policy_held s)
    (pick (eqb name 2) (derivative_held s)
    (pick (eqb name 3) (asset_held s)
    (pick (eqb name 4) (header_held s)
    (pick (eqb name 12) (index_held s)
    (pick (eqb name 13) (mark_held false s)
    (pick (eqb name 14) (mark_held true s) (amount_held name s))))))))

-- What a line holds.
unfoldable pub content_of : List ℕ → Content
content_of s = held_as (place_of (letters_at s 1) names) s

-- The answer for what a line after the header holds: 01's refusal, or the line's values (01, "Who can be turned down").
unfoldable pub line_for : Content → Line
line_for NoForm = Refusal Formless
line_for (header h) = Refusal Misplaced
line_for (loan l) = pick (loan_in_range l) (LoanLine l) (Refusal OutOfRange)
line_for (policy p) = pick (policy_in_range p) (PolicyLine p) (Refusal OutOfRange)
line_for (derivative d) = pick (derivative_in_range d) (DerivativeLine d) (Refusal OutOfRange)
line_for (asset a) = pick (asset_in_range a) (AssetLine a) (Refusal OutOfRange)
line_for (amount a) = pick (amount_in_range a) (AmountLine a) (Refusal OutOfRange)
line_for (index i) = pick (index_in_range i) (IndexLine i) (Refusal OutOfRange)
line_for (mark m) = MarkRead m

-- 01: "A line is at most 240 bytes, without its newline."
abbrev pub longest_line : ℕ
longest_line = 240

-- Feeding tests 1, 2, 7, 3.
unfoldable pub line_of : List ℕ → Line
line_of s = pick (ltb longest_line (length s)) (Refusal LongLine) (line_for (content_of s))

-- The answer for what a header line holds.
unfoldable pub header_for_lem : Content → Result Header Reason
header_for_lem NoForm = Err Formless
header_for_lem (loan l) = Err Misplaced
header_for_lem (policy p) = Err Misplaced
header_for_lem (derivative d) = Err Misplaced
header_for_lem (asset a) = Err Misplaced
header_for_lem (amount a) = Err Misplaced
header_for_lem (index i) = Err Misplaced
header_for_lem (mark m) = Err Misplaced
header_for_lem (header h) =
    pick (header_in_range h) (pick (ltb h.loans (h.unscored + h.fresh)) (Err OverCounted) (Ok h)) (Err OutOfRange)

-- Opening tests 1, 2, 7, 3, 4.
unfoldable pub header_of : List ℕ → Result Header Reason
header_of s = pick (ltb longest_line (length s)) (Err LongLine) (header_for_lem (content_of s))
