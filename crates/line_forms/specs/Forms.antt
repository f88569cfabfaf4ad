-- A form of a line: texts with fields between them, and how its values are written.
use Rattle.std.specs.Prelude.{ℕ, ◌<◌, List, [], ◌∷◌, ◌++◌, ◌⊎◌, ◌≡◌, length, get_or}
use Rattle.exact.specs.Choice.{pick}
use Rattle.exact.specs.Text.{text}
use Rattle.line_forms.specs.Bytes.{within}
use Rattle.line_forms.specs.Names.{letters_of, NameWritable}
use Rattle.line_forms.specs.Numerals.{decimal, limit, signed_text}
use Rattle.fixed_point.specs.declared.Signed.{Signed}
use Rattle.loan_charge.specs.declared.Score.{Score}
use Rattle.loan_charge.specs.declared.Score.TheVariants.{Scored, Unscored}

-- 01: "Upright bars separate choices." A bar is the byte 124; no letter is above it.
abbrev pub longer : ℕ → List (List ℕ) → List (List ℕ)
longer b [] = []
longer b (w ∷ choices) = (b ∷ w) ∷ choices

abbrev pub choices_of : List ℕ → List (List ℕ)
choices_of [] = [] ∷ []
choices_of (b ∷ t) = pick (within 0 123 b) (longer b (choices_of t)) ([] ∷ choices_of t)

-- a D, an S, one of the words that upright bars separate, a score, or the NAME of a mark (02, L6)
pub data Field : Type 0 where
  number : Field
  signed : Field
  word : List (List ℕ) → Field
  score : Field
  name : Field

-- a text and then a field, or the last text
pub data Form : Type 0 where
  field : List ℕ → Field → Form → Form
  end : List ℕ → Form

-- a field's value; a word's is its place among the choices, 0 first, and a name's its number
abbrev pub Value : Field → Type 0
Value number = ℕ
Value signed = Signed
Value (word choices) = ℕ
Value score = Score
Value name = ℕ

abbrev pub Values : Form → Type 0
Values (field t k f) = Value k × Values f
Values (end t) = Unit {0}

-- `(score D D)`, the score and then its age, or `(score none)`
abbrev pub score_text : Score → List ℕ
score_text (Scored n age) = decimal n ++ (text " " ++ decimal age)
score_text Unscored = text "none"

abbrev pub ScoreWritable : Score → Type 0
ScoreWritable (Scored n age) = (n < limit) × (age < limit)
ScoreWritable Unscored = Unit {0}

-- values that the field can write
abbrev pub FieldWritable : (k : Field) → Value k → Type 0
FieldWritable number n = n < limit
FieldWritable signed n = (n.plus < limit) × (n.minus < limit) × ((n.plus ≡ 0) ⊎ (n.minus ≡ 0))
FieldWritable (word choices) i = i < length choices
FieldWritable score q = ScoreWritable q
FieldWritable name n = NameWritable n

abbrev pub field_text : (k : Field) → Value k → List ℕ
field_text number n = decimal n
field_text signed n = signed_text n
field_text (word choices) i = get_or choices i []
field_text score q = score_text q
field_text name n = letters_of n

abbrev pub AllWritable : (f : Form) → Values f → Type 0
AllWritable (field t k f) v = FieldWritable k v.0 × AllWritable f v.1
AllWritable (end t) v = Unit {0}

abbrev pub form_text : (f : Form) → Values f → List ℕ
form_text (field t k f) v = t ++ (field_text k v.0 ++ form_text f v.1)
form_text (end t) v = t
