-- What a reader finds of a form, field by field, and that this is what the form's line holds.
use Prim.Native.Nat.{ℕ, ◌+◌, ◌≤◌}
use mathlib.Core.Path.{◌≡◌, refl}
use mathlib.Core.Bool.{true, false}
use mathlib.Core.List.{List}
use borrow.Author.Tests.{eq-eqb, ne_eqb}
use lib.ListN.{length}
use Rattle.exact.specs.Choice.{pick}
use Rattle.line_forms.specs.Bytes.{stands_at, after}
use Rattle.line_forms.specs.Forms.{Field, Form, field, end, Value, Values}
use Rattle.line_forms.specs.Parsing.{field_at, after_field, values_at, after_form, has_form}
use Rattle.line_forms.proofs.Bytes.{after-true, stands-fits}
use Rattle.line_forms.proofs.FormLaws.{first_text, proper, proper-later, form-stops}

-- what a reader found of the form from a position on: the values, and the position after them
pub record Reading (s : List ℕ) (f : Form) (at : ℕ) : Type 0 where
  pub found : Values f
  pub next : ℕ
  pub values : found ≡ values_at f s at
  pub ends : next ≡ after_form f s at

-- what another reader found of it
abbrev pub taken : {s : List ℕ} {f : Form} {at : ℕ} {v : Values f} {p : ℕ} → (v ≡ values_at f s at) × (p ≡ after_form f s at) → Reading s f at
taken {s} {f} {at} {v} {p} e = record { found = v; next = p; values = e.0; ends = e.1 }

-- the last text
abbrev pub last : {s t : List ℕ} {at p : ℕ} → p ≡ after s at t → Reading s (end t) at
last {s} {t} {at} {p} e = record { found = tt; next = p; values = refl; ends = e }

-- a text and the field after it
abbrev pub step :
    {s t : List ℕ} {k : Field} {f : Form} {at : ℕ} {v : Value k} {q : ℕ} →
    (v ≡ field_at k s (after s at t)) × (q ≡ after_field k s (after s at t)) → Reading s f q → Reading s (field t k f) at
step {s} {t} {k} {f} {at} {v} {q} e r = record {
  found = (v, r.found);
  next = r.next;
  values = rw (e.0, r.values, e.1);
  ends = rw (r.ends, e.1);
}

-- the same where the reader of the text and that of the field are two
abbrev pub skipped :
    {s t : List ℕ} {k : Field} {f : Form} {at p : ℕ} {v : Value k} {q : ℕ} →
    p ≡ after s at t → (v ≡ field_at k s p) × (q ≡ after_field k s p) → Reading s f q → Reading s (field t k f) at
skipped {v = v} e h r = step {v = v} (rw (← e) h) r

-- A line holds what was found of a form where the reading ended with the line, and else nothing.
pub holds :
    {A : Type 0} {s : List ℕ} {f : Form} (r : Reading s f 0) (make : Values f → A) (other : A) → r.next ≡ length s →
    make r.found ≡ pick (has_form f s) (make (values_at f s 0)) other
holds r make other h = rw (← r.ends, ← r.values, eq-eqb _ _ h)

pub holds_not :
    {A : Type 0} {s : List ℕ} {f : Form} (r : Reading s f 0) (made other : A) → (r.next ≡ length s → ⊥) →
    other ≡ pick (has_form f s) made other
holds_not r made other h = rw (← r.ends, ne_eqb _ _ h)

-- A reader of `f` that has come to a position, with the form `rest` before it, where every text so far stood.
pub record Reached (f rest : Form) : Type 0 where
  pub line : List ℕ
  pub at : ℕ
  pub whole : Reading line rest at → Reading line f 0
  pub same_next : (r : Reading line rest at) → (whole r).next ≡ r.next
  pub good : proper rest ≡ true

abbrev pub begun : (f : Form) (s : List ℕ) → proper f ≡ true → Reached f f
begun f s p = record { line = s; at = 0; whole = λ r. r; same_next = λ r. refl; good = p }

-- over a text that stands and the field after it
abbrev pub over :
    {g : Form} {t : List ℕ} {k : Field} {f : Form} {v : Value k} {q : ℕ} (w : Reached g (field t k f)) →
    stands_at w.line w.at t ≡ true →
    (v ≡ field_at k w.line (w.at + length t)) × (q ≡ after_field k w.line (w.at + length t)) → Reached g f
over {g} {t} {k} {f} {v} {q} w h e = record {
  line = w.line;
  at = q;
  whole = λ r. w.whole (step {v = v} (rw (← after-true w.line w.at t h) e) r);
  same_next = λ r. w.same_next (step {v = v} (rw (← after-true w.line w.at t h) e) r);
  good = proper-later 1 (field t k f) w.good;
}

-- a text that does not stand: the line has not the form
pub stopped :
    {A : Type 0} {f rest : Form} (w : Reached f rest) (made other : A) →
    stands_at w.line w.at (first_text rest) ≡ false → other ≡ pick (has_form f w.line) made other
stopped {f = f} {rest = rest} w made other h =
    let r : Reading w.line rest w.at =
    record { found = values_at rest w.line w.at; next = after_form rest w.line w.at; values = refl; ends = refl } in
    rw (← (w.whole r).ends, w.same_next r, form-stops rest w.line w.at w.good h)

-- the text that stands next fits in the line
pub room :
    {f rest : Form} (w : Reached f rest) → stands_at w.line w.at (first_text rest) ≡ true →
    w.at + length (first_text rest) ≤ length w.line
room {f = f} {rest = rest} w h = stands-fits w.line w.at (first_text rest) h
