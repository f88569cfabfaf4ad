-- Marks by the bytes of the lines that set them, and notes by their names: what 13 to 15 test. Assumes nothing.
use mathlib.Core.Path.{◌≡◌, refl, sym, ◌∙◌, ap, subst}
use mathlib.Core.Bool.{Bool, true, false, true≢false}
use mathlib.Core.List.Memᴰ
use mathlib.Core.List.{List, [], ◌∷◌, ◌++◌, Memᴰ}
use mathlib.Core.Logic.{◌↔◌}
use Prim.Native.Nat.{ℕ, zero, suc, ◌<◌}
use native.Mathlib.Omega.{arith}
use lib.Dec.{eqb}
use lib.ListN.{length, get_or}
use borrow.Author.Tests.{ltb-true, lt-ltb, eq-eqb}
use Rattle.exact.specs.Choice.{pick}
use Rattle.line_forms.specs.declared.MarkLine.{MarkLine}
use Rattle.line_forms.specs.declared.Content.TheVariants.{Mark as mark}
use Rattle.line_forms.specs.Claims.{ShowsInRange, line_content}
use Rattle.line_forms.specs.Readings.{line_of}
use Rattle.book_model.specs.Accepted.{Note, names_of, no_note}
use Rattle.book_model.specs.Demand2.{IsNoted}
use Rattle.book_model.specs.Marks.{place_among, is_among}
use Rattle.book_model.proofs.Ledger.{named-at, name-at, names-length}
use Rattle.book_model.proofs.SetValues.{read}

-- Lines by their bytes

pub mark-content : (s : List ℕ) (m : MarkLine) → ShowsInRange s (mark m) → line_content (line_of s) ≡ mark m
mark-content s m h = ap line_content (read s (mark m) tt h)

-- Notes by their names

pub member : (before : List Note) (note : Note) (after : List Note) → Memᴰ note (before ++ (note ∷ after))
member [] note after = Memᴰ.head refl
member (n ∷ before) note after = Memᴰ.tail (member before note after)

member-at : (notes : List Note) (k : ℕ) → k < length notes → Memᴰ (get_or notes k no_note) notes
member-at [] k h = absurd (omega (arith, h))
member-at (n ∷ notes) zero h = Memᴰ.head refl
member-at (n ∷ notes) (suc k) h = Memᴰ.tail (member-at notes k (omega (arith, h)))

-- the place of a name that is among them
place-known : (notes : List Note) (n : Note) → Memᴰ n notes → place_among n.name (names_of notes) < length notes
unfolding place_among
place-known [] n m = absurd (Memᴰ.not-nil m)
place-known (x ∷ notes) n (Memᴰ.head e) = rw (eq-eqb x.name n.name (ap (λ (y : Note). y.name) (sym e))) (omega arith)
place-known (x ∷ notes) n (Memᴰ.tail m) = go (eqb x.name n.name) (place-known notes n m)
  where
    go : (t : Bool) → place_among n.name (names_of notes) < length notes → pick t 0 (suc (place_among n.name (names_of notes))) < suc (length notes)
    go true h = omega arith
    go false h = omega (arith, h)

pub noted-among : (notes : List Note) (name : ℕ) → IsNoted notes name → is_among name (names_of notes) ≡ true
noted-among notes name h =
    lt-ltb (place_among name (names_of notes)) (length (names_of notes))
    (omega (arith, subst (λ (k : ℕ). place_among k (names_of notes) < length notes) h.named (place-known notes h.note h.kept), names-length notes))

pub among-noted : (notes : List Note) (name : ℕ) → is_among name (names_of notes) ≡ true → IsNoted notes name
among-noted notes name e =
    let at : ℕ = place_among name (names_of notes) in
    let p : at < length (names_of notes) = ltb-true at (length (names_of notes)) e in
    record {
      note = get_or notes at no_note;
      kept = member-at notes at (omega (arith, p, names-length notes));
      named = sym (name-at notes at) ∙ named-at name (names_of notes) p;
    }

pub not_noted : (notes : List Note) (name : ℕ) → (is_among name (names_of notes) ≡ false) ↔ (IsNoted notes name → ⊥)
not_noted notes name = (λ e h. true≢false (sym (noted-among notes name h) ∙ e), λ n. go (is_among name (names_of notes)) refl n)
  where
    go : (t : Bool) → is_among name (names_of notes) ≡ t → (IsNoted notes name → ⊥) → t ≡ false
    go true e n = absurd (n (among-noted notes name e))
    go false e n = refl
