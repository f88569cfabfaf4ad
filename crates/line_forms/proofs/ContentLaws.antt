-- What a line holds and the line's bytes determine each other.
use Prim.Native.Nat.{ℕ, zero, suc, ◌<◌}
use native.Mathlib.Omega.{arith}
use mathlib.Core.Path.{◌≡◌, refl, sym, ◌∙◌, ap}
use mathlib.Core.Bool.{Bool, true, false}
use mathlib.Core.List.{List, ◌∷◌, ◌++◌}
use mathlib.Core.Logic.{◌⊎◌, inl, inr}
use lib.Dec.{eqb}
use lib.ListN.{drop}
use Rattle.exact.specs.Text.{text}
use Rattle.exact.specs.Choice.{pick}
use Rattle.line_forms.specs.Bytes.{past, stands_at, after, run_of, same, all_within}
use Rattle.line_forms.specs.Numerals.{limit}
use Rattle.line_forms.specs.Forms.{Form, Values, AllWritable, form_text}
use Rattle.line_forms.specs.Parsing.{values_at, has_form, letters_at, place_of}
use Rattle.line_forms.specs.Contents.{header_form, header_values, loan_form, loan_values, policy_form, policy_values, class_place, derivative_form}
use Rattle.line_forms.specs.Contents.{derivative_values, kind_place, asset_form, asset_values, plain_form, signed_form, amount_form, amount_values}
use Rattle.line_forms.specs.Contents.{index_form, index_values, mark_form, bytes_of, SignFits, Writable}
use Rattle.line_forms.specs.Readings.{header_with, loan_with, policy_with, class_at, derivative_with, kind_at, asset_with, unsigned, header_held}
use Rattle.line_forms.specs.Readings.{loan_held, policy_held, derivative_held, asset_held, plain_held, signed_held, names, amount_held, held_as}
use Rattle.line_forms.specs.Readings.{index_with, index_held, mark_with, mark_held, content_of}
use Rattle.fixed_point.specs.declared.Signed.{Signed}
use Rattle.line_forms.specs.declared.Header.{Header}
use Rattle.line_forms.specs.declared.Loan.{Loan}
use Rattle.line_forms.specs.declared.Class.{Class}
use Rattle.line_forms.specs.declared.Class.TheVariants.{Home, Multi}
use Rattle.line_forms.specs.declared.Policy.{Policy}
use Rattle.line_forms.specs.declared.Kind.{Kind}
use Rattle.line_forms.specs.declared.Kind.TheVariants.{Rate, Float, Fx, Equity, Metal, Other}
use Rattle.line_forms.specs.declared.Derivative.{Derivative}
use Rattle.line_forms.specs.declared.Asset.{Asset}
use Rattle.line_forms.specs.declared.Item.{Item}
use Rattle.line_forms.specs.declared.Item.TheVariants.{Claims, Lossc, Stated, Equity as EquityItem, Aoci, B, C}
use Rattle.line_forms.specs.declared.IndexValue.{IndexValue}
use Rattle.line_forms.specs.declared.Content.{Content}
use Rattle.line_forms.specs.declared.Content.TheVariants.{Header as header, Loan as loan, Policy as policy, Derivative as derivative}
use Rattle.line_forms.specs.declared.Content.TheVariants.{Asset as asset, Amount as amount, Index as index, Mark as mark, NoForm}
use Rattle.line_forms.proofs.Bytes.{run-exact, Stands, text-cases, stands-fits, after-true}
use Rattle.line_forms.proofs.FieldLaws.{among, spelled}
use Rattle.line_forms.proofs.FormLaws.{stops, proper, form_of, form-has, form-stops}

-- From a line to what it holds: the line is the bytes of that.

abbrev pub Right : List ℕ → Content → Type 0
Right s c = (c ≡ NoForm) ⊎ (Writable c × (s ≡ bytes_of c))

pick-right : (s : List ℕ) (b : Bool) (x y : Content) → (b ≡ true → Right s x) → Right s y → Right s (pick b x y)
pick-right s true x y f r = f refl
pick-right s false x y f r = r

-- the places of words
class-place : (i : ℕ) → i < 2 → class_place (class_at i) ≡ i
class-place zero h = refl
class-place (suc zero) h = refl
class-place (suc (suc i)) h = absurd (omega arith)

kind-place : (i : ℕ) → i < 6 → kind_place (kind_at i) ≡ i
kind-place zero h = refl
kind-place (suc zero) h = refl
kind-place (suc (suc zero)) h = refl
kind-place (suc (suc (suc zero))) h = refl
kind-place (suc (suc (suc (suc zero)))) h = refl
kind-place (suc (suc (suc (suc (suc zero))))) h = refl
kind-place (suc (suc (suc (suc (suc (suc i)))))) h = absurd (omega arith)

-- from a form's values to what is made of them
made : (s : List ℕ) (f : Form) (v u : Values f) → (s ≡ form_text f v) × AllWritable f v → u ≡ v → AllWritable f u × (s ≡ form_text f u)
made s f v u k e = rw e (k.1, k.0)

-- every form is proper
proper-header : proper header_form ≡ true
unfolding stops
proper-header = refl

pub proper-loan : proper loan_form ≡ true
unfolding stops spelled among same all_within
proper-loan = refl

proper-policy : proper policy_form ≡ true
unfolding stops spelled among same all_within
proper-policy = refl

proper-derivative : proper derivative_form ≡ true
unfolding stops spelled among same all_within
proper-derivative = refl

proper-asset : proper asset_form ≡ true
unfolding stops
proper-asset = refl

proper-index : proper index_form ≡ true
unfolding stops spelled among same all_within
proper-index = refl

proper-mark : (back : Bool) → proper (mark_form back) ≡ true
unfolding stops
proper-mark back = refl

proper-plain : (t : List ℕ) → proper (plain_form t) ≡ true
unfolding stops
proper-plain t = refl

proper-signed : (t : List ℕ) → proper (signed_form t) ≡ true
unfolding stops
proper-signed t = refl

-- what is read of a form that the line has
held-right :
    (f : Form) (s : List ℕ) (make : Values f → Content) (other : Content) → proper f ≡ true →
    ((v : Values f) → (s ≡ form_text f v) × AllWritable f v → Right s (make v)) → Right s other →
    Right s (pick (has_form f s) (make (values_at f s 0)) other)
held-right f s make other p g r =
    pick-right s (has_form f s) (make (values_at f s 0)) other (λ h. g (values_at f s 0) (form_of f s p h)) r

header-right : (s : List ℕ) → Right s (header_held s)
unfolding header_held bytes_of
header-right s =
    held-right header_form s (λ v. header (header_with v)) NoForm proper-header (λ v k. inr (k.1, k.0)) (inl refl)

loan-right : (s : List ℕ) → Right s (loan_held s)
unfolding loan_held bytes_of
loan-right s =
    held-right loan_form s (λ v. loan (loan_with v)) NoForm proper-loan (λ v k. inr (k.1, k.0)) (inl refl)

policy-right : (s : List ℕ) → Right s (policy_held s)
unfolding policy_held bytes_of
policy-right s =
    held-right policy_form s (λ v. policy (policy_with v)) NoForm proper-policy
    (λ v k. inr (made s policy_form v (policy_values (policy_with v)) k (rw (class-place v.0 k.1.0))))
    (inl refl)

derivative-right : (s : List ℕ) → Right s (derivative_held s)
unfolding derivative_held bytes_of
derivative-right s =
    held-right derivative_form s (λ v. derivative (derivative_with v)) NoForm proper-derivative
    (λ v k. inr (made s derivative_form v (derivative_values (derivative_with v)) k (rw (kind-place v.0 k.1.0))))
    (inl refl)

asset-right : (s : List ℕ) → Right s (asset_held s)
unfolding asset_held bytes_of
asset-right s =
    held-right asset_form s (λ v. asset (asset_with v)) NoForm proper-asset (λ v k. inr (k.1, k.0)) (inl refl)

index-right : (s : List ℕ) → Right s (index_held s)
unfolding index_held bytes_of
index-right s =
    held-right index_form s (λ v. index (index_with v)) NoForm proper-index (λ v k. inr (k.1, k.0)) (inl refl)

mark-right : (back : Bool) (s : List ℕ) → Right s (mark_held back s)
unfolding mark_held bytes_of
mark-right back s =
    held-right (mark_form back) s (λ v. mark (mark_with back v)) NoForm (proper-mark back) (λ v k. inr (k.1, k.0)) (inl refl)

plain-right :
    (i : Item) (t s : List ℕ) →
    ((n : ℕ) → (s ≡ form_text (plain_form t) (n, tt)) × AllWritable (plain_form t) (n, tt) → Right s (amount (record { item = i; amount = unsigned n }))) →
    Right s (plain_held i t s)
unfolding plain_held
plain-right i t s f =
    held-right (plain_form t) s (λ v. amount (record { item = i; amount = unsigned v.0 })) NoForm (proper-plain t)
    (λ v k. f v.0 k)
    (inl refl)

signed-right :
    (i : Item) (t s : List ℕ) →
    ((n : Signed) → (s ≡ form_text (signed_form t) (n, tt)) × AllWritable (signed_form t) (n, tt) → Right s (amount (record { item = i; amount = n }))) →
    Right s (signed_held i t s)
unfolding signed_held
signed-right i t s f =
    held-right (signed_form t) s (λ v. amount (record { item = i; amount = v.0 })) NoForm (proper-signed t)
    (λ v k. f v.0 k)
    (inl refl)

-- the same through a choice of two, whichever is taken
either-right : (s : List ℕ) (b : Bool) (x y : Content) → Right s x → Right s y → Right s (pick b x y)
either-right s b x y p q = pick-right s b x y (λ h. p) q

amount-right : (name : ℕ) (s : List ℕ) → Right s (amount_held name s)
unfolding amount_held bytes_of
amount-right name s =
    either-right s (eqb name 5) _ _ (plain-right Claims (text "(claims ") s (λ n k. inr ((k.1, refl), k.0)))
    (either-right s (eqb name 6) _ _ (plain-right Lossc (text "(lossc ") s (λ n k. inr ((k.1, refl), k.0)))
    (either-right s (eqb name 7) _ _ (plain-right Stated (text "(stated ") s (λ n k. inr ((k.1, refl), k.0)))
    (either-right s (eqb name 8) _ _ (signed-right EquityItem (text "(equity ") s (λ n k. inr ((k.1, tt), k.0)))
    (either-right s (eqb name 9) _ _ (signed-right Aoci (text "(aoci ") s (λ n k. inr ((k.1, tt), k.0)))
    (either-right s (eqb name 10) _ _ (plain-right B (text "(b ") s (λ n k. inr ((k.1, refl), k.0)))
    (either-right s (eqb name 11) _ _ (plain-right C (text "(c ") s (λ n k. inr ((k.1, refl), k.0)))
    (inl refl)))))))

held-as-right : (name : ℕ) (s : List ℕ) → Right s (held_as name s)
held-as-right name s =
    either-right s (eqb name 0) _ _ (loan-right s)
    (either-right s (eqb name 1) _ _ (policy-right s)
    (either-right s (eqb name 2) _ _ (derivative-right s)
    (either-right s (eqb name 3) _ _ (asset-right s)
    (either-right s (eqb name 4) _ _ (header-right s)
    (either-right s (eqb name 12) _ _ (index-right s)
    (either-right s (eqb name 13) _ _ (mark-right false s)
    (either-right s (eqb name 14) _ _ (mark-right true s) (amount-right name s))))))))

pub content-right : (s : List ℕ) → Right s (content_of s)
unfolding content_of
content-right s = held-as-right (place_of (letters_at s 1) names) s

-- From what is written to what the line holds.

-- a name stands after the opening bracket and before a space, and its place decides the reader
named :
    (s w y : List ℕ) (place : ℕ) (c : Content) → all_within 97 122 w ≡ true → place_of w names ≡ place →
    s ≡ 40 ∷ (w ++ (32 ∷ y)) → held_as place s ≡ c → content_of s ≡ c
unfolding content_of run_of
named s w y place c l p e h =
    let d : letters_at s 1 ≡ w = rw e (run-exact 97 122 w (32 ∷ y) l refl) in
    rw (d, p) h

-- a line that begins as a loan is read as one, and no other is
pub loan-begins : (s : List ℕ) → stands_at s 0 (text "(loan (bal ") ≡ true → content_of s ≡ loan_held s
unfolding place_of same all_within
loan-begins s h =
    let e : s ≡ text "(loan (bal " ++ drop 11 s = begun (text-cases s 0 (text "(loan (bal ")) in
    named s (text "loan") (text "(bal " ++ drop 11 s) 0 (loan_held s) refl refl e refl
  where
    begun : Stands s 0 (text "(loan (bal ") ⊎ (after s 0 (text "(loan (bal ") ≡ past s) → s ≡ text "(loan (bal " ++ drop 11 s
    begun (inl k) = k.text
    begun (inr k) =
        absurd (omega (arith, after-true s 0 (text "(loan (bal ") h, stands-fits s 0 (text "(loan (bal ") h))

pub no_loan : (s : List ℕ) → stands_at s 0 (text "(loan (bal ") ≡ false → NoForm ≡ loan_held s
unfolding loan_held
no_loan s h = rw (form-stops loan_form s 0 proper-loan h)

-- what is read of a form's bytes
held :
    (f : Form) (s : List ℕ) (make : Values f → Content) (other : Content) (v : Values f) → proper f ≡ true →
    s ≡ form_text f v → AllWritable f v → pick (has_form f s) (make (values_at f s 0)) other ≡ make v
held f s make other v p e w = let k = form-has f s v p e w in rw k.0 (ap make k.1)

header-written : (s : List ℕ) (h : Header) → Writable (header h) → s ≡ bytes_of (header h) → content_of s ≡ header h
unfolding bytes_of header_held place_of same all_within
header-written s h w e =
    named s (text "book") _ 4 (header h) refl refl e
    (held header_form s (λ v. header (header_with v)) NoForm (header_values h) proper-header e w)

loan-written : (s : List ℕ) (l : Loan) → Writable (loan l) → s ≡ bytes_of (loan l) → content_of s ≡ loan l
unfolding bytes_of loan_held place_of same all_within
loan-written s l w e =
    named s (text "loan") _ 0 (loan l) refl refl e
    (held loan_form s (λ v. loan (loan_with v)) NoForm (loan_values l) proper-loan e w)

class_back :
    (p : Policy) (q : Class) → q ≡ p.class →
    policy (record { class = class_at (class_place q); premium = p.premium; term = p.term; completed = p.completed }) ≡ policy p
class_back p Home e = ap (λ (q : Class). policy (record { class = q; premium = p.premium; term = p.term; completed = p.completed })) e
class_back p Multi e = ap (λ (q : Class). policy (record { class = q; premium = p.premium; term = p.term; completed = p.completed })) e

policy-written : (s : List ℕ) (p : Policy) → Writable (policy p) → s ≡ bytes_of (policy p) → content_of s ≡ policy p
unfolding bytes_of policy_held place_of same all_within
policy-written s p w e =
    named s (text "policy") _ 1 (policy p) refl refl e
    (held policy_form s (λ v. policy (policy_with v)) NoForm (policy_values p) proper-policy e w ∙ class_back p p.class refl)

kind-back : (q : Kind) → kind_at (kind_place q) ≡ q
kind-back Rate = refl
kind-back Float = refl
kind-back Fx = refl
kind-back Equity = refl
kind-back Metal = refl
kind-back Other = refl

derivative-written : (s : List ℕ) (d : Derivative) → Writable (derivative d) → s ≡ bytes_of (derivative d) → content_of s ≡ derivative d
unfolding bytes_of derivative_held place_of same all_within
derivative-written s d w e =
    named s (text "deriv") _ 2 (derivative d) refl refl e
    (held derivative_form s (λ v. derivative (derivative_with v)) NoForm (derivative_values d) proper-derivative e w ∙
    rw (kind-back d.kind))

asset-written : (s : List ℕ) (a : Asset) → Writable (asset a) → s ≡ bytes_of (asset a) → content_of s ≡ asset a
unfolding bytes_of asset_held place_of same all_within
asset-written s a w e =
    named s (text "asset") _ 3 (asset a) refl refl e
    (held asset_form s (λ v. asset (asset_with v)) NoForm (asset_values a) proper-asset e w)

index-written : (s : List ℕ) (i : IndexValue) → Writable (index i) → s ≡ bytes_of (index i) → content_of s ≡ index i
unfolding bytes_of index_held place_of same all_within
index-written s i w e =
    named s (text "index") _ 12 (index i) refl refl e
    (held index_form s (λ v. index (index_with v)) NoForm (index_values i) proper-index e w)

mark-held :
    (s : List ℕ) (back : Bool) (n : ℕ) → AllWritable (mark_form back) (n, tt) → s ≡ form_text (mark_form back) (n, tt) →
    mark_held back s ≡ mark (record { back = back; name = n })
unfolding mark_held
mark-held s back n w e = held (mark_form back) s (λ v. mark (mark_with back v)) NoForm (n, tt) (proper-mark back) e w

mark-written :
    (s : List ℕ) (back : Bool) (n : ℕ) → AllWritable (mark_form back) (n, tt) → s ≡ form_text (mark_form back) (n, tt) →
    content_of s ≡ mark (record { back = back; name = n })
unfolding place_of same all_within
mark-written s false n w e = named s (text "mark") _ 13 _ refl refl e (mark-held s false n w e)
mark-written s true n w e = named s (text "back") _ 14 _ refl refl e (mark-held s true n w e)

plain-written :
    (i : Item) (t s : List ℕ) (n : ℕ) → n < limit → s ≡ form_text (plain_form t) (n, tt) →
    plain_held i t s ≡ amount (record { item = i; amount = unsigned n })
unfolding plain_held
plain-written i t s n w e =
    held (plain_form t) s (λ v. amount (record { item = i; amount = unsigned v.0 })) NoForm (n, tt) (proper-plain t) e (w, tt)

signed-written :
    (i : Item) (t s : List ℕ) (n : Signed) → AllWritable (signed_form t) (n, tt) → s ≡ form_text (signed_form t) (n, tt) →
    signed_held i t s ≡ amount (record { item = i; amount = n })
unfolding signed_held
signed-written i t s n w e =
    held (signed_form t) s (λ v. amount (record { item = i; amount = v.0 })) NoForm (n, tt) (proper-signed t) e w

-- an amount without a sign is its part above 0
unsigned_back : (i : Item) (n : Signed) → n.minus ≡ 0 → amount (record { item = i; amount = unsigned n.plus }) ≡ amount (record { item = i; amount = n })
unsigned_back i n e = ap (λ (m : ℕ). amount (record { item = i; amount = record { plus = n.plus; minus = m } })) (sym e)

amount-written :
    (s : List ℕ) (i : Item) (n : Signed) → AllWritable (amount_form i) (amount_values i n) → SignFits i n →
    s ≡ form_text (amount_form i) (amount_values i n) → content_of s ≡ amount (record { item = i; amount = n })
unfolding amount_held place_of same all_within
amount-written s Claims n w z e =
    named s (text "claims") _ 5 _ refl refl e (plain-written Claims (text "(claims ") s n.plus w.0 e ∙ unsigned_back Claims n z)
amount-written s Lossc n w z e =
    named s (text "lossc") _ 6 _ refl refl e (plain-written Lossc (text "(lossc ") s n.plus w.0 e ∙ unsigned_back Lossc n z)
amount-written s Stated n w z e =
    named s (text "stated") _ 7 _ refl refl e (plain-written Stated (text "(stated ") s n.plus w.0 e ∙ unsigned_back Stated n z)
amount-written s EquityItem n w z e =
    named s (text "equity") _ 8 _ refl refl e (signed-written EquityItem (text "(equity ") s n w e)
amount-written s Aoci n w z e =
    named s (text "aoci") _ 9 _ refl refl e (signed-written Aoci (text "(aoci ") s n w e)
amount-written s B n w z e =
    named s (text "b") _ 10 _ refl refl e (plain-written B (text "(b ") s n.plus w.0 e ∙ unsigned_back B n z)
amount-written s C n w z e =
    named s (text "c") _ 11 _ refl refl e (plain-written C (text "(c ") s n.plus w.0 e ∙ unsigned_back C n z)

-- The bytes of what a line can hold are read as that.
pub content-written : (s : List ℕ) (c : Content) → Writable c → s ≡ bytes_of c → content_of s ≡ c
unfolding bytes_of
content-written s (header h) w e = header-written s h w e
content-written s (loan l) w e = loan-written s l w e
content-written s (policy p) w e = policy-written s p w e
content-written s (derivative d) w e = derivative-written s d w e
content-written s (asset a) w e = asset-written s a w e
content-written s (amount a) w e = amount-written s a.item a.amount w.0 w.1 e
content-written s (index i) w e = index-written s i w e
content-written s (mark m) w e = mark-written s m.back m.name w e
content-written s NoForm w e = absurd w
