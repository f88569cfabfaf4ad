-- Laws of a form: a line has a form where, and only where, it is the bytes of values that the form can write, and reading gives them back.
use Prim.Native.Nat.{ℕ, zero, suc, ◌+◌, ◌≤◌, ◌<◌}
use native.Mathlib.Omega.{arith}
use mathlib.Core.Path.{◌≡◌, refl, sym, ◌∙◌, ap}
use mathlib.Core.Bool.{Bool, true, false, ◌&&◌, not}
use mathlib.Core.List.{List, [], ◌∷◌, ◌++◌, append-nil}
use mathlib.Core.Logic.{◌⊎◌, inl, inr}
use borrow.Author.Tests.{not-true, eq-eqb, ne_eqb, eqb-true}
use lib.Dec.{eqb}
use lib.ListN.{length, drop, length-drop}
use lib.Seq.{drop-length}
use Rattle.line_forms.specs.Bytes.{past, stands_at, after, run_of, within}
use Rattle.line_forms.specs.Forms.{Field, Form, field, end, Values, FieldWritable, AllWritable, field_text, form_text}
use Rattle.line_forms.specs.Parsing.{field_at, after_field, values_at, after_form, has_form}
use Rattle.line_forms.proofs.Bytes.{and_both, rest-after, text-stands, Stands, text-cases, after-past, after-false}
use Rattle.line_forms.proofs.NumberLaws.{Ends}
use Rattle.line_forms.proofs.FieldLaws.{proper_field, field-written, FieldRead, field-read, field_past}

-- neither a digit nor a letter comes first
unfoldable pub stops : List ℕ → Bool
stops [] = false
stops (b ∷ t) = not (within 48 57 b) && not (within 97 122 b)

pub stops-ends : (t x : List ℕ) → stops t ≡ true → Ends (t ++ x)
unfolding stops run_of
stops-ends [] x h = let z : ◌≡◌ {A = ℕ} 0 1 = cc in absurd (omega (arith, z))
stops-ends (b ∷ t) x h =
    let k = and_both (not (within 48 57 b)) (not (within 97 122 b)) h in
    record {
      digits = rw (not-true (within 48 57 b) k.0);
      letters = rw (not-true (within 97 122 b) k.1);
    }

-- the first text of a form
abbrev pub first_text : Form → List ℕ
first_text (field t k f) = t
first_text (end t) = t

-- fields whose choices are words, and after each field a text that shows its end
abbrev pub proper : Form → Bool
proper (field t k f) = (proper_field k && stops (first_text f)) && proper f
proper (end t) = true

record Proper (k : Field) (f : Form) : Type 0 where
  this : proper_field k ≡ true
  ends : stops (first_text f) ≡ true
  rest : proper f ≡ true

is-proper : (t : List ℕ) (k : Field) (f : Form) → proper (field t k f) ≡ true → Proper k f
is-proper t k f h =
    let a = and_both (proper_field k && stops (first_text f)) (proper f) h in
    let b = and_both (proper_field k) (stops (first_text f)) a.0 in
    record { this = b.0; ends = b.1; rest = a.1 }

form-ends : (f : Form) (v : Values f) → stops (first_text f) ≡ true → Ends (form_text f v)
form-ends (field t k f) v h = stops-ends t (field_text k v.0 ++ form_text f v.1) h
form-ends (end t) v h = rw append-nil at (stops-ends t [] h)

-- the first text and field of a form's bytes, read, and the rest of the line
pub form-step :
    (t : List ℕ) (k : Field) (f : Form) (s : List ℕ) (at : ℕ) (v : Values (field t k f)) → proper (field t k f) ≡ true →
    at ≤ length s → drop at s ≡ form_text (field t k f) v → AllWritable (field t k f) v →
    (q : ℕ) × (after_field k s (after s at t) ≡ q) × (q ≤ length s) × (drop q s ≡ form_text f v.1) × (field_at k s (after s at t) ≡ v.0)
form-step t k f s at v p l e w =
    let q = is-proper t k f p in
    let r = rest-after s at t (field_text k v.0 ++ form_text f v.1) l e in
    let a : after s at t ≡ at + length t = text-stands s at t (field_text k v.0 ++ form_text f v.1) l e in
    let b =
    field-written k s (at + length t) v.0 (form_text f v.1) r.0 r.1 w.0 q.this (form-ends f v.1 q.ends) in
    let n = rest-after s (at + length t) (field_text k v.0) (form_text f v.1) r.0 r.1 in
    (at + length t + length (field_text k v.0), rw a b.1, n.0, n.1, rw a b.0)

pub form-written :
    (f : Form) (s : List ℕ) (at : ℕ) (v : Values f) → proper f ≡ true → at ≤ length s → drop at s ≡ form_text f v →
    AllWritable f v → (after_form f s at ≡ length s) × (values_at f s at ≡ v)
form-written (field t k f) s at v p l e w =
    let a = form-step t k f s at v p l e w in
    let i = form-written f s a.0 v.1 (is-proper t k f p).rest a.2 a.3 w.1 in
    (rw a.1 i.0, rw (a.4, a.1, i.1))
form-written (end t) s at v p l e w =
    (text-stands s at t [] l (e ∙ sym (append-nil t)) ∙ omega (arith, length-drop at s, ap length e), refl)

pub form-past : (f : Form) (s : List ℕ) (at : ℕ) → proper f ≡ true → length s < at → length s < after_form f s at
form-past (field t k f) s at p l =
    let q = is-proper t k f p in
    rw (after-past s at t l, field_past k s (past s) q.this (omega arith)) (form-past f s (past s) q.rest (omega arith))
form-past (end t) s at p l = rw (after-past s at t l) (omega arith)

pub form-read :
    (f : Form) (s : List ℕ) (at : ℕ) → proper f ≡ true → at ≤ length s → after_form f s at ≡ length s →
    (drop at s ≡ form_text f (values_at f s at)) × AllWritable f (values_at f s at)
form-read (field t k f) s at p l e =
    start (is-proper t k f p) (λ at h x. form-read f s at (is-proper t k f p).rest h x) (text-cases s at t)
  where
    Read : ℕ → Type 0
    Read at = (drop at s ≡ form_text f (values_at f s at)) × AllWritable f (values_at f s at)

    Goal : ℕ → Type 0
    Goal from =
        (drop at s ≡ t ++ (field_text k (field_at k s from) ++ form_text f (values_at f s (after_field k s from)))) ×
        (FieldWritable k (field_at k s from) × AllWritable f (values_at f s (after_field k s from)))

    next :
        Proper k f → ((at : ℕ) → at ≤ length s → after_form f s at ≡ length s → Read at) → Stands s at t →
        after_form f s (after_field k s (at + length t)) ≡ length s →
        FieldRead k s (at + length t) ⊎ (after_field k s (at + length t) ≡ past s) → Goal (at + length t)
    next q ih a x (inl b) =
        let i = ih (after_field k s (at + length t)) b.fits x in (
          a.text ∙ ap (λ (y : List ℕ). t ++ y) (b.text ∙ ap (λ (y : List ℕ). field_text k (field_at k s (at + length t)) ++ y) i.0),
          (b.small, i.1),
        )
    next q ih a x (inr b) = absurd (omega (arith, form-past f s (past s) q.rest (omega arith), rw b at x))

    start : Proper k f → ((at : ℕ) → at ≤ length s → after_form f s at ≡ length s → Read at) → Stands s at t ⊎ (after s at t ≡ past s) → Goal (after s at t)
    start q ih (inl a) =
        rw a.next (next q ih a (rw a.next at e) (field-read k s (at + length t) a.fits))
    start q ih (inr a) =
        let x : after_form f s (past s) ≡ length s = rw (a, field_past k s (past s) q.this (omega arith)) at e in
        absurd (omega (arith, form-past f s (past s) q.rest (omega arith)))
form-read (end t) s at p l e = start (text-cases s at t)
  where
    start : Stands s at t ⊎ (after s at t ≡ past s) → (drop at s ≡ t) × Unit {0}
    start (inl a) =
        let x : at + length t ≡ length s = sym a.next ∙ e in
        (a.text ∙ rw (x, drop-length s, append-nil), tt)
    start (inr a) = absurd (omega (arith, a, e))

-- A line has a form just where it is the bytes of writable values, and these are the values read.
pub form_of : (f : Form) (s : List ℕ) → proper f ≡ true → has_form f s ≡ true → (s ≡ form_text f (values_at f s 0)) × AllWritable f (values_at f s 0)
form_of f s p h = form-read f s 0 p (omega arith) (eqb-true (after_form f s 0) (length s) h)

pub form-has : (f : Form) (s : List ℕ) (v : Values f) → proper f ≡ true → s ≡ form_text f v → AllWritable f v → (has_form f s ≡ true) × (values_at f s 0 ≡ v)
form-has f s v p e w =
    let k = form-written f s 0 v p (omega arith) e w in
    (eq-eqb (after_form f s 0) (length s) k.0, k.1)

-- A line has not the form where one of its texts, from a position on, does not stand.
pub form-stops : (f : Form) (s : List ℕ) (at : ℕ) → proper f ≡ true → stands_at s at (first_text f) ≡ false → eqb (after_form f s at) (length s) ≡ false
form-stops (field t k f) s at p h =
    let q = is-proper t k f p in
    rw (← after-false s at t h, field_past k s (past s) q.this (omega arith))
    (ne_eqb (after_form f s (past s)) (length s) (λ e. omega (arith, form-past f s (past s) q.rest (omega arith))))
form-stops (end t) s at p h = rw (← after-false s at t h) (ne_eqb (past s) (length s) (λ e. omega arith))

-- a form without its first n fields
abbrev pub later : ℕ → Form → Form
later zero f = f
later (suc n) (field t k f) = later n f
later (suc n) (end t) = end t

pub proper-later : (n : ℕ) (f : Form) → proper f ≡ true → proper (later n f) ≡ true
proper-later zero f p = p
proper-later (suc n) (field t k f) p = proper-later n f (is-proper t k f p).rest
proper-later (suc n) (end t) p = refl
