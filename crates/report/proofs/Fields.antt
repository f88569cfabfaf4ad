-- A line's fields, one after the other. Assumes nothing.
use Rattle.std.proofs.Common.{ℕ, zero, suc, List, [], ◌∷◌, ◌++◌, length, take, map, ◌≡◌, ◌+◌, ◌<◌, ◌≤◌, refl, arith}
use Rattle.std.proofs.lemmas.List.{map-append}
use lib.ListN.{get_or, length-append}
use lib.Seq.{take-suc}
use native.Mathlib.Numerals.{add-one}
use Rattle.report.specs.declared.Field.{Field}
use Rattle.report.specs.declared.Field.TheVariants.{Count}
use Rattle.report.specs.Fields.{field_text}
use Rattle.report.specs.Line.{spaced, line}
use Rattle.report.proofs.Lines.{Begun, spaced-length, line-length}

-- one field more
pub fields_more :
    (fields : List Field) (i : ℕ) → i < length fields →
    map field_text (take (i + 1) fields) ≡ map field_text (take i fields) ++ (field_text (get_or fields i (Count 0)) ∷ [])
fields_more fields i h =
    rw (add-one i, take-suc fields i (Count 0) h, map-append field_text (take i fields) (get_or fields i (Count 0) ∷ [])) refl

-- the texts so far, and the next, are no longer than all
pub fields_room :
    (fields : List Field) (i : ℕ) → i < length fields →
    length (spaced (map field_text (take i fields))) + suc (length (field_text (get_or fields i (Count 0)))) ≤ length (spaced (map field_text fields))
fields_room [] i h = absurd (omega arith)
fields_room (f ∷ fs) zero h = omega (arith, spaced-length (field_text f) (map field_text fs))
fields_room (f ∷ fs) (suc i) h =
    omega (
      arith,
      spaced-length (field_text f) (map field_text fs),
      spaced-length (field_text f) (map field_text (take i fs)),
      fields_room fs i (omega arith),
    )

-- room for the next field, in a line begun where there is room for all of it
pub next_room :
    {old name xs : List ℕ} {a : ℕ} (fields : List Field) (i : ℕ) → i < length fields →
    length (line name (map field_text fields)) ≤ length old →
    Begun old name (map field_text (take i fields)) a xs →
    a + suc (length (field_text (get_or fields i (Count 0)))) ≤ length old
next_room {old} {name} {xs} {a} fields i h k b =
    omega (
      arith,
      b.so_far.count,
      length-append name (spaced (map field_text (take i fields))),
      line-length name (map field_text fields),
      fields_room fields i h,
      k,
    )
