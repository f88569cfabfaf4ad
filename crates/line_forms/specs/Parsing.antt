-- Need not be believed: Claims.antt says what reading comes to. Reading a form, from a position of a line on: a field that does not stand
-- there gives the position past the end, where nothing stands.
use Rattle.std.specs.Prelude.{ℕ, suc, ◌+◌, Bool, List, [], ◌∷◌, ltb, eqb, length, drop, get_or}
use Rattle.exact.specs.Choice.{pick}
use Rattle.exact.specs.Text.{text}
use Rattle.line_forms.specs.Bytes.{past, after, run_of, same}
use Rattle.line_forms.specs.Forms.{Field, number, signed, word, score, name, Form, field, end, Value, Values}
use Rattle.line_forms.specs.Names.{is_name, name_from}
use Rattle.line_forms.specs.Numerals.{is_numeral, value_from}
use Rattle.fixed_point.specs.declared.Signed.{Signed}
use Rattle.loan_charge.specs.declared.Score.{Score}
use Rattle.loan_charge.specs.declared.Score.TheVariants.{Scored, Unscored}

-- the digits from a position on
abbrev pub digits_at : List ℕ → ℕ → List ℕ
digits_at s at = run_of 48 57 (drop at s)

-- the lower-case letters, bytes 97 to 122, from a position on
abbrev pub letters_at : List ℕ → ℕ → List ℕ
letters_at s at = run_of 97 122 (drop at s)

unfoldable pub number_at : List ℕ → ℕ → ℕ
number_at s at = pick (is_numeral (digits_at s at)) (value_from 0 (digits_at s at)) 0

unfoldable pub after_number : List ℕ → ℕ → ℕ
after_number s at = pick (is_numeral (digits_at s at)) (at + length (digits_at s at)) (past s)

-- whether a minus sign stands at a position
abbrev pub minus_at_lem : List ℕ → ℕ → Bool
minus_at_lem s at = eqb (get_or s at 0) 45

-- a non-zero D, taken as negative
abbrev pub negative_at_lem : List ℕ → ℕ → Signed
negative_at_lem s at = record { plus = 0; minus = number_at s at }

unfoldable pub after_negative : List ℕ → ℕ → ℕ
after_negative s at = pick (eqb (number_at s at) 0) (past s) (after_number s at)

unfoldable pub signed_at_lem : List ℕ → ℕ → Signed
signed_at_lem s at = pick (minus_at_lem s at) (negative_at_lem s (at + 1)) (record { plus = number_at s at; minus = 0 })

unfoldable pub after_signed : List ℕ → ℕ → ℕ
after_signed s at = pick (minus_at_lem s at) (after_negative s (at + 1)) (after_number s at)

-- the place of a word among the choices, their number where it is none of them
unfoldable pub place_of : List ℕ → List (List ℕ) → ℕ
place_of w [] = 0
place_of w (x ∷ choices) = pick (same w x) 0 (suc (place_of w choices))

unfoldable pub after_word : List (List ℕ) → List ℕ → ℕ → ℕ
after_word choices s at =
    pick (ltb (place_of (letters_at s at) choices) (length choices)) (at + length (letters_at s at)) (past s)

-- whether the word `none` stands at a position, in place of a score
abbrev pub none_at : List ℕ → ℕ → Bool
none_at s at = same (letters_at s at) (text "none")

-- the position of a score's age
abbrev pub age_after : List ℕ → ℕ → ℕ
age_after s at = after s (after_number s at) (text " ")

unfoldable pub score_at_lem : List ℕ → ℕ → Score
score_at_lem s at = pick (none_at s at) Unscored (Scored (number_at s at) (number_at s (age_after s at)))

unfoldable pub after_score : List ℕ → ℕ → ℕ
after_score s at = pick (none_at s at) (at + length (letters_at s at)) (after_number s (age_after s at))

unfoldable pub name_at : List ℕ → ℕ → ℕ
name_at s at = pick (is_name (letters_at s at)) (name_from 0 (letters_at s at)) 0

unfoldable pub after_name : List ℕ → ℕ → ℕ
after_name s at = pick (is_name (letters_at s at)) (at + length (letters_at s at)) (past s)

abbrev pub field_at : (k : Field) → List ℕ → ℕ → Value k
field_at number s at = number_at s at
field_at signed s at = signed_at_lem s at
field_at (word choices) s at = place_of (letters_at s at) choices
field_at score s at = score_at_lem s at
field_at name s at = name_at s at

abbrev pub after_field : Field → List ℕ → ℕ → ℕ
after_field number s at = after_number s at
after_field signed s at = after_signed s at
after_field (word choices) s at = after_word choices s at
after_field score s at = after_score s at
after_field name s at = after_name s at

abbrev pub values_at : (f : Form) → List ℕ → ℕ → Values f
values_at (field t k f) s at =
    (field_at k s (after s at t), values_at f s (after_field k s (after s at t)))
values_at (end t) s at = tt

abbrev pub after_form : Form → List ℕ → ℕ → ℕ
after_form (field t k f) s at = after_form f s (after_field k s (after s at t))
after_form (end t) s at = after s at t

-- A line has a form where reading ends with the line.
abbrev pub has_form : Form → List ℕ → Bool
has_form f s = eqb (after_form f s 0) (length s)
