-- No form is longer than 196 bytes.
use Prim.Native.Nat.{ℕ, zero, suc, ◌+◌, ◌≤◌, max}
use native.Mathlib.Nat.{le_trans}
use native.Mathlib.Omega.{arith}
use mathlib.Core.Bool.{Bool, true, false}
use mathlib.Core.List.{List, [], ◌∷◌, ◌++◌}
use lib.Dec.{eqb, lit≤}
use lib.ListN.{length, get_or, length-append}
use Rattle.loan_charge.specs.declared.Score.{Score}
use Rattle.loan_charge.specs.declared.Score.TheVariants.{Scored, Unscored}
use Rattle.exact.specs.Choice.{pick}
use Rattle.line_forms.specs.Numerals.{decimal, signed_text}
use Rattle.line_forms.specs.Forms.{Field, number, signed, word, score, name, Form, field, end, Value, Values, FieldWritable, AllWritable}
use Rattle.line_forms.specs.Forms.{field_text, form_text, score_text, ScoreWritable}
use Rattle.line_forms.specs.Contents.{header_form, header_values, loan_form, loan_values, policy_form, policy_values, derivative_form}
use Rattle.line_forms.specs.Contents.{derivative_values, asset_form, asset_values, amount_form, amount_values, index_form, index_values, mark_form}
use Rattle.line_forms.specs.Contents.{mark_values, bytes_of, Writable}
use Rattle.fixed_point.specs.declared.Signed.{Signed}
use Rattle.line_forms.specs.declared.Item.{Item}
use Rattle.line_forms.specs.declared.Item.TheVariants.{Claims, Lossc, Stated, Equity, Aoci, B, C}
use Rattle.line_forms.specs.declared.Content.{Content}
use Rattle.line_forms.specs.declared.Content.TheVariants.{Header as header, Loan as loan, Policy as policy, Derivative as derivative}
use Rattle.line_forms.specs.declared.Content.TheVariants.{Asset as asset, Amount as amount, Index as index, Mark as mark, NoForm}
use Rattle.line_forms.proofs.NameLaws.{letters-short}
use Rattle.line_forms.proofs.Numerals.{decimal-short}

abbrev longest : List (List ℕ) → ℕ
longest [] = 0
longest (w ∷ choices) = max (length w) (longest choices)

word_size : (choices : List (List ℕ)) (i : ℕ) → length (get_or choices i []) ≤ longest choices
word_size [] i = omega arith
word_size (w ∷ choices) zero = omega arith
word_size (w ∷ choices) (suc i) = omega (arith, word_size choices i)

-- the most bytes of a field and of a form
abbrev field_size : Field → ℕ
field_size number = 14
field_size signed = 15
field_size (word choices) = longest choices
field_size score = 29
field_size name = 12

abbrev form_size : Form → ℕ
form_size (field t k f) = length t + (field_size k + form_size f)
form_size (end t) = length t

signed-size : (n : Signed) → FieldWritable signed n → length (signed_text n) ≤ 15
unfolding signed_text
signed-size n w = go (eqb n.minus 0)
  where
    go : (b : Bool) → length (pick b (decimal n.plus) (45 ∷ decimal n.minus)) ≤ 15
    go true = omega (arith, decimal-short n.plus w.0)
    go false = omega (arith, decimal-short n.minus w.1)

score-size : (q : Score) → ScoreWritable q → length (score_text q) ≤ 29
score-size (Scored n age) w =
    omega (arith, length-append (decimal n) (32 ∷ decimal age), decimal-short n w.0, decimal-short age w.1)
score-size Unscored w = omega arith

field-size : (k : Field) (v : Value k) → FieldWritable k v → length (field_text k v) ≤ field_size k
field-size number v w = decimal-short v w
field-size signed v w = signed-size v w
field-size (word choices) v w = word_size choices v
field-size score v w = score-size v w
field-size name v w = letters-short v

form-size : (f : Form) (v : Values f) → AllWritable f v → length (form_text f v) ≤ form_size f
form-size (field t k f) v w =
    omega (
      arith,
      length-append t (field_text k v.0 ++ form_text f v.1),
      length-append (field_text k v.0) (form_text f v.1),
      field-size k v.0 w.0,
      form-size f v.1 w.1,
    )
form-size (end t) v w = omega arith

amount-bound : (i : Item) → form_size (amount_form i) ≤ 196
amount-bound Claims = lit≤ tt
amount-bound Lossc = lit≤ tt
amount-bound Stated = lit≤ tt
amount-bound Equity = lit≤ tt
amount-bound Aoci = lit≤ tt
amount-bound B = lit≤ tt
amount-bound C = lit≤ tt

mark-bound : (back : Bool) → form_size (mark_form back) ≤ 196
mark-bound false = lit≤ tt
mark-bound true = lit≤ tt

pub content-size : (c : Content) → Writable c → length (bytes_of c) ≤ 196
unfolding bytes_of
content-size (header h) w = le_trans (form-size header_form (header_values h) w) (lit≤ tt)
content-size (loan l) w = le_trans (form-size loan_form (loan_values l) w) (lit≤ tt)
content-size (policy p) w = le_trans (form-size policy_form (policy_values p) w) (lit≤ tt)
content-size (derivative d) w = le_trans (form-size derivative_form (derivative_values d) w) (lit≤ tt)
content-size (asset a) w = le_trans (form-size asset_form (asset_values a) w) (lit≤ tt)
content-size (amount a) w = le_trans (form-size (amount_form a.item) (amount_values a.item a.amount) w.0) (amount-bound a.item)
content-size (index i) w = le_trans (form-size index_form (index_values i) w) (lit≤ tt)
content-size (mark m) w = le_trans (form-size (mark_form m.back) (mark_values m) w) (mark-bound m.back)
content-size NoForm w = absurd w
