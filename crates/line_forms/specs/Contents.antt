-- 01, "A book, line by line", and 02, L4 to L6: each form as it is shown there, its data, and its ranges with both ends.
use Rattle.std.specs.Prelude.{ℕ, ◌*◌, ◌%◌, Bool, true, false, ◌&&◌, List, [], ◌≡◌, ltb}
use Rattle.loan_charge.specs.declared.Score.{Score}
use Rattle.loan_charge.specs.declared.Score.TheVariants.{Scored, Unscored}
use Rattle.exact.specs.Text.{text}
use Rattle.line_forms.specs.Bytes.{within}
use Rattle.line_forms.specs.Forms.{choices_of, Form, field, end, number, signed, word, score, name, Values, AllWritable, form_text}
use Rattle.fixed_point.specs.declared.Signed.{Signed}
use Rattle.line_forms.specs.declared.Header.{Header}
use Rattle.line_forms.specs.declared.Loan.{Loan}
use Rattle.line_forms.specs.declared.Class.{Class}
use Rattle.line_forms.specs.declared.Class.TheVariants.{Home, Multi}
use Rattle.line_forms.specs.declared.Policy.{Policy}
use Rattle.line_forms.specs.declared.Kind.{Kind}
use Rattle.line_forms.specs.declared.Kind.TheVariants.{Rate, Float, Fx, Equity, Metal, Other}
use Rattle.line_forms.specs.declared.Derivative.{Derivative}
use Rattle.line_forms.specs.declared.Asset.{Asset}
use Rattle.line_forms.specs.declared.Item.{Item}
use Rattle.line_forms.specs.declared.Item.TheVariants.{Claims, Lossc, Stated, Equity as EquityItem, Aoci, B, C}
use Rattle.line_forms.specs.declared.Amount.{Amount}
use Rattle.line_forms.specs.declared.IndexValue.{IndexValue}
use Rattle.line_forms.specs.declared.MarkLine.{MarkLine}
use Rattle.line_forms.specs.declared.Content.{Content}
use Rattle.line_forms.specs.declared.Content.TheVariants.{Header as header, Loan as loan, Policy as policy, Derivative as derivative}
use Rattle.line_forms.specs.declared.Content.TheVariants.{Asset as asset, Amount as amount, Index as index, Mark as mark, NoForm}

-- The header.

-- (book (loans D) (unscored D) (fresh D) (held D)), fresh the count of scored loans with age up to 12 (02, L5)
abbrev pub header_form : Form
header_form =
    field (text "(book (loans ") number
    (field (text ") (unscored ") number
    (field (text ") (fresh ") number
    (field (text ") (held ") number
    (end (text "))")))))

abbrev pub header_values : Header → Values header_form
header_values h = (h.loans, (h.unscored, (h.fresh, (h.held, tt))))

-- unscored and fresh are bounded only by refusal 4
unfoldable pub header_in_range : Header → Bool
header_in_range h = within 0 1000000 h.loans && within 0 10000000000000 h.held

-- Whether the aged table serves: "The first column serves when 10 times [fresh] is at least 9 times loans; otherwise the aged table does"
-- (02, L5).
unfoldable pub on_aged_table_lem : Header → Bool
on_aged_table_lem h = ltb (10 * h.fresh) (9 * h.loans)

-- Areas and months (02, L4).

-- NAME: the eleven areas of 000, Appendix A, and `other`
abbrev pub areas : List (List ℕ)
areas = choices_of (text "calgary|edmonton|halifax|hamilton|montreal|ottawagatineau|quebec|toronto|vancouver|victoria|winnipeg|other")

-- YYYYMM, which is read as a D
unfoldable pub month_in_range : (low high : ℕ) → ℕ → Bool
month_in_range low high n = within low high n && within 1 12 (n % 100)

-- Loans.

-- the month and the area that end a loan
abbrev pub origin_form : Form
origin_form = field (text ") (from ") number (field (text ") (area ") (word areas) (end (text "))")))

-- (loan (bal D) (val D) (amort D) (term D) (score D D) (sup D) (from YYYYMM) (area NAME)), or (score none)
abbrev pub loan_form : Form
loan_form =
    field (text "(loan (bal ") number
    (field (text ") (val ") number
    (field (text ") (amort ") number
    (field (text ") (term ") number
    (field (text ") (score ") score
    (field (text ") (sup ") number
    origin_form)))))

abbrev pub loan_values : Loan → Values loan_form
loan_values l = (l.balance, (l.value, (l.amortization, (l.term, (l.score, (l.supplement, (l.from, (l.area, tt))))))))

unfoldable pub score_in_range : Score → Bool
score_in_range (Scored n age) = within 300 900 n && within 0 600 age
score_in_range Unscored = true

unfoldable pub loan_in_range : Loan → Bool
loan_in_range l =
    within 1 200000000 l.balance && within 1 10000000000 l.value && within 1 480 l.amortization &&
    within 1 480 l.term && score_in_range l.score && within 0 1 l.supplement && month_in_range 190001 209912 l.from

-- Policies.

-- (policy (class home|multi) (prem D) (term D) (done D))
abbrev pub classes : List (List ℕ)
classes = choices_of (text "home|multi")

abbrev pub class_place : Class → ℕ
class_place Home = 0
class_place Multi = 1

abbrev pub policy_form : Form
policy_form =
    field (text "(policy (class ") (word classes)
    (field (text ") (prem ") number
    (field (text ") (term ") number
    (field (text ") (done ") number
    (end (text "))")))))

abbrev pub policy_values : Policy → Values policy_form
policy_values p = (class_place p.class, (p.premium, (p.term, (p.completed, tt))))

unfoldable pub policy_in_range : Policy → Bool
policy_in_range p = within 0 100000000 p.premium && within 1 480 p.term && within 0 40 p.completed

-- Money without a range of its own is at most 100,000,000,000 either way.
unfoldable pub money_in_range : Signed → Bool
money_in_range n = within 0 100000000000 n.plus && within 0 100000000000 n.minus

-- Derivatives.

-- (deriv (kind rate|float|fx|equity|metal|other) (cost S) (notional D) (months D) (pays D) (factor D))
abbrev pub kinds : List (List ℕ)
kinds = choices_of (text "rate|float|fx|equity|metal|other")

abbrev pub kind_place : Kind → ℕ
kind_place Rate = 0
kind_place Float = 1
kind_place Fx = 2
kind_place Equity = 3
kind_place Metal = 4
kind_place Other = 5

abbrev pub derivative_form : Form
derivative_form =
    field (text "(deriv (kind ") (word kinds)
    (field (text ") (cost ") signed
    (field (text ") (notional ") number
    (field (text ") (months ") number
    (field (text ") (pays ") number
    (field (text ") (factor ") number
    (end (text "))")))))))

abbrev pub derivative_values : Derivative → Values derivative_form
derivative_values d =
    (kind_place d.kind, (d.cost, (d.notional, (d.months, (d.payments, (d.factor, tt))))))

unfoldable pub derivative_in_range : Derivative → Bool
derivative_in_range d =
    money_in_range d.cost && within 0 100000000000 d.notional && within 0 600 d.months &&
    within 1 100 d.payments && within 0 10000 d.factor

-- Assets.

-- (asset (amount D) (factor D))
abbrev pub asset_form : Form
asset_form = field (text "(asset (amount ") number (field (text ") (factor ") number (end (text "))")))

abbrev pub asset_values : Asset → Values asset_form
asset_values a = (a.amount, (a.factor, tt))

unfoldable pub asset_in_range : Asset → Bool
asset_in_range a = within 0 100000000000 a.amount && within 0 10000 a.factor

-- Amounts.

-- a text, one number and a closing bracket
abbrev pub plain_form : List ℕ → Form
plain_form t = field t number (end (text ")"))

abbrev pub signed_form : List ℕ → Form
signed_form t = field t signed (end (text ")"))

-- (claims D), (lossc D), (stated D), (equity S), (aoci S), (b D), (c D)
abbrev pub amount_form : Item → Form
amount_form Claims = plain_form (text "(claims ")
amount_form Lossc = plain_form (text "(lossc ")
amount_form Stated = plain_form (text "(stated ")
amount_form EquityItem = signed_form (text "(equity ")
amount_form Aoci = signed_form (text "(aoci ")
amount_form B = plain_form (text "(b ")
amount_form C = plain_form (text "(c ")

abbrev pub amount_values : (i : Item) → Signed → Values (amount_form i)
amount_values Claims n = (n.plus, tt)
amount_values Lossc n = (n.plus, tt)
amount_values Stated n = (n.plus, tt)
amount_values EquityItem n = (n, tt)
amount_values Aoci n = (n, tt)
amount_values B n = (n.plus, tt)
amount_values C n = (n.plus, tt)

unfoldable pub amount_in_range : Amount → Bool
amount_in_range a = money_in_range a.amount

-- Values of the house price index (02, L4).

-- (index NAME YYYYMM D)
abbrev pub index_form : Form
index_form = field (text "(index ") (word areas) (field (text " ") number (field (text " ") number (end (text ")"))))

abbrev pub index_values : IndexValue → Values index_form
index_values i = (i.area, (i.month, (i.value, tt)))

unfoldable pub index_in_range : IndexValue → Bool
index_in_range i = month_in_range 200501 201512 i.month && within 1 1000000 i.value

-- Marks and returns to them (02, L6).

-- (mark NAME), (back NAME)
abbrev pub mark_text : (back : Bool) → List ℕ
mark_text false = text "(mark "
mark_text true = text "(back "

abbrev pub mark_form : (back : Bool) → Form
mark_form back = field (mark_text back) name (end (text ")"))

abbrev pub mark_values : (m : MarkLine) → Values (mark_form m.back)
mark_values m = (m.name, tt)

-- What a line holds, and how that is written.

abbrev pub form_for : Content → Form
form_for (header h) = header_form
form_for (loan l) = loan_form
form_for (policy p) = policy_form
form_for (derivative d) = derivative_form
form_for (asset a) = asset_form
form_for (amount a) = amount_form a.item
form_for (index i) = index_form
form_for (mark m) = mark_form m.back
form_for NoForm = end []

abbrev pub values_for : (c : Content) → Values (form_for c)
values_for (header h) = header_values h
values_for (loan l) = loan_values l
values_for (policy p) = policy_values p
values_for (derivative d) = derivative_values d
values_for (asset a) = asset_values a
values_for (amount a) = amount_values a.item a.amount
values_for (index i) = index_values i
values_for (mark m) = mark_values m
values_for NoForm = tt

-- the bytes of what a line holds
unfoldable pub bytes_of : Content → List ℕ
bytes_of c = form_text (form_for c) (values_for c)

-- a sign only where the form has an S
abbrev pub SignFits : (i : Item) → Signed → Type 0
SignFits Claims n = n.minus ≡ 0
SignFits Lossc n = n.minus ≡ 0
SignFits Stated n = n.minus ≡ 0
SignFits EquityItem n = Unit {0}
SignFits Aoci n = Unit {0}
SignFits B n = n.minus ≡ 0
SignFits C n = n.minus ≡ 0

-- each number is one that its D or S can write, each area one of the names, and a mark's number a name's
abbrev pub Writable : Content → Type 0
Writable (header h) = AllWritable header_form (header_values h)
Writable (loan l) = AllWritable loan_form (loan_values l)
Writable (policy p) = AllWritable policy_form (policy_values p)
Writable (derivative d) = AllWritable derivative_form (derivative_values d)
Writable (asset a) = AllWritable asset_form (asset_values a)
Writable (amount a) = AllWritable (amount_form a.item) (amount_values a.item a.amount) × SignFits a.item a.amount
Writable (index i) = AllWritable index_form (index_values i)
Writable (mark m) = AllWritable (mark_form m.back) (mark_values m)
Writable NoForm = ⊥

-- a mark has no number, so none out of range
unfoldable pub in_range : Content → Bool
in_range (header h) = header_in_range h
in_range (loan l) = loan_in_range l
in_range (policy p) = policy_in_range p
in_range (derivative d) = derivative_in_range d
in_range (asset a) = asset_in_range a
in_range (amount a) = amount_in_range a
in_range (index i) = index_in_range i
in_range (mark m) = true
in_range NoForm = false
