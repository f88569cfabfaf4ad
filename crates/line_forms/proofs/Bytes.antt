-- Laws of byte strings: equality, runs and the position after a text.
use Prim.Native.Nat.{ℕ, zero, suc, ◌+◌, ◌-◌, ◌≤◌, ◌<◌, zero-le, suc-le-suc}
use native.Mathlib.Nat.{sub_self}
use native.Mathlib.Numerals.{add-one}
use native.Mathlib.Omega.{arith}
use mathlib.Core.Path.{◌≡◌, refl, sym, ◌∙◌, ap}
use mathlib.Core.Bool.{Bool, true, false, ◌&&◌, ◌||◌, not}
use mathlib.Core.List.{List, [], ◌∷◌, ◌++◌}
use borrow.Author.Tests.{not-true, not-false, eq-eqb, eqb-true, leb-true, leb-false, le-leb, lt-leb}
use lib.Dec.{eqb, leb}
use lib.ListN.{length, take, drop, get_or, drop_of_length-le, length-drop, length-append, take-append-drop}
use lib.Seq.{drop-cons, take-suc, get_or-drop, drop-drop, drop-append_seam, take-append_seam}
use mathlib.Core.Logic.{◌⊎◌, inl, inr}
use Rattle.exact.specs.Choice.{pick}
use Rattle.line_forms.specs.Bytes.{same, run_of, stands_at, after, past, within, all_within}

pub false-and : (a : Bool) → (a && false) ≡ false
false-and true = refl
false-and false = refl

-- what a branch on the opposite of an answer r tells of the test q that it is
pub told-true : {r q : Bool} → r ≡ q → not r ≡ false → q ≡ true
told-true {r} e l = sym e ∙ not-false r l

pub told-false : {r q : Bool} → r ≡ q → not r ≡ true → q ≡ false
told-false {r} e l = sym e ∙ not-true r l

pub and_both : (a b : Bool) → (a && b) ≡ true → (a ≡ true) × (b ≡ true)
and_both true b h = (refl, h)
and_both false b h = let z : ◌≡◌ {A = ℕ} 0 1 = cc in absurd (omega (arith, z))

pub or-false : (a b : Bool) → (a || b) ≡ false → (a ≡ false) × (b ≡ false)
or-false true b h = let z : ◌≡◌ {A = ℕ} 0 1 = cc in absurd (omega (arith, z))
or-false false b h = (refl, h)

-- byte strings compared to a place, and one place more
pub same_step :
    (a b : List ℕ) (i : ℕ) → i < length a → i < length b →
    same (drop i a) (drop i b) ≡ (eqb (get_or a i 0) (get_or b i 0) && same (drop (i + 1) a) (drop (i + 1) b))
unfolding same
same_step a b i ha hb = rw (add-one, drop-cons a i 0 ha, drop-cons b i 0 hb)

pub same_end : (a b : List ℕ) (i : ℕ) → length a ≤ i → length b ≤ i → same (drop i a) (drop i b) ≡ true
unfolding same
same_end a b i ha hb = rw (drop_of_length-le a ha, drop_of_length-le b hb)

pub and_assoc : (a b c : Bool) → (a && (b && c)) ≡ (a && b && c)
and_assoc true b c = refl
and_assoc false b c = refl

pub and-true : (a : Bool) → (a && true) ≡ a
and-true true = refl
and-true false = refl

-- bytes in a range, one place more
pub all-step :
    (low high : ℕ) (t : List ℕ) (i : ℕ) → i < length t →
    all_within low high (drop i t) ≡ (within low high (get_or t i 0) && all_within low high (drop (i + 1) t))
unfolding all_within
all-step low high t i h = rw (add-one, drop-cons t i 0 h)

pub all_end : (low high : ℕ) (t : List ℕ) (i : ℕ) → length t ≤ i → all_within low high (drop i t) ≡ true
unfolding all_within
all_end low high t i h = rw (drop_of_length-le t h)

pub same_length : (a b : List ℕ) → (length a ≡ length b → ⊥) → same a b ≡ false
unfolding same
same_length [] [] h = absurd (h refl)
same_length [] (y ∷ t) h = refl
same_length (x ∷ s) [] h = refl
same_length (x ∷ s) (y ∷ t) h = rw (same_length s t (λ e. h (ap suc e)), false-and)

pub same-eq : (a b : List ℕ) → same a b ≡ true → a ≡ b
unfolding same
same-eq [] [] h = refl
same-eq [] (y ∷ t) h = cc
same-eq (x ∷ s) [] h = cc
same-eq (x ∷ s) (y ∷ t) h = go (eqb x y) refl h (same-eq s t)
  where
    go : (q : Bool) → eqb x y ≡ q → (q && same s t) ≡ true → (same s t ≡ true → s ≡ t) → x ∷ s ≡ y ∷ t
    go true e k f = cc (eqb-true x y e, f k)
    go false e k f = cc

pub same_refl : (a : List ℕ) → same a a ≡ true
unfolding same
same_refl [] = refl
same_refl (x ∷ s) = rw (eq-eqb x x refl, same_refl s)

-- a run goes on over a byte in range and stops at any other
pub run_step :
    (low high : ℕ) (s : List ℕ) (i : ℕ) → i < length s → within low high (get_or s i 0) ≡ true →
    run_of low high (drop i s) ≡ get_or s i 0 ∷ run_of low high (drop (i + 1) s)
unfolding run_of
run_step low high s i h e = rw (add-one, drop-cons s i 0 h, e)

pub run-stops : (low high : ℕ) (s : List ℕ) (i : ℕ) → i < length s → within low high (get_or s i 0) ≡ false → run_of low high (drop i s) ≡ []
unfolding run_of
run-stops low high s i h e = rw (drop-cons s i 0 h, e)

pub run_end : (low high : ℕ) (s : List ℕ) (i : ℕ) → length s ≤ i → run_of low high (drop i s) ≡ []
unfolding run_of
run_end low high s i h = rw (drop_of_length-le s h)

-- the part from `at` to `end` with one byte more
pub part-more : (s : List ℕ) (at end : ℕ) → at ≤ end → end < length s → take (end + 1 - at) (drop at s) ≡ take (end - at) (drop at s) ++ (get_or s end 0 ∷ [])
part-more s at end ha he =
    let e1 : end + 1 - at ≡ suc (end - at) = omega arith in
    let e2 : at + (end - at) ≡ end = omega arith in
    let h : end - at < length (drop at s) = simp length-drop (omega arith) in
    rw (e1, take-suc (drop at s) (end - at) 0 h, get_or-drop at s (end - at) 0, e2)

-- the position after a text that does not fit, that stands there, and that does not
pub after-short : (s : List ℕ) (at : ℕ) (t : List ℕ) → length s < at + length t → past s ≡ after s at t
unfolding after
after-short s at t h = rw (lt-leb (at + length t) (length s) h)

pub after-stands : (s : List ℕ) (at : ℕ) (t : List ℕ) → at + length t ≤ length s → same (take (length t) (drop at s)) t ≡ true → at + length t ≡ after s at t
unfolding after
after-stands s at t h e = rw (le-leb (at + length t) (length s) h, e)

pub after-other : (s : List ℕ) (at : ℕ) (t : List ℕ) → same (take (length t) (drop at s)) t ≡ false → past s ≡ after s at t
unfolding after
after-other s at t e = rw (e, false-and)

-- the same by the test itself
pub stands-fits : (s : List ℕ) (at : ℕ) (t : List ℕ) → stands_at s at t ≡ true → at + length t ≤ length s
stands-fits s at t e =
    leb-true (at + length t) (length s) (and_both (leb (at + length t) (length s)) (same (take (length t) (drop at s)) t) e).0

pub after-true : (s : List ℕ) (at : ℕ) (t : List ℕ) → stands_at s at t ≡ true → at + length t ≡ after s at t
unfolding after
after-true s at t e = rw e

pub after-false : (s : List ℕ) (at : ℕ) (t : List ℕ) → stands_at s at t ≡ false → past s ≡ after s at t
unfolding after
after-false s at t e = rw e

pub within-bounds : (low high n : ℕ) → within low high n ≡ true → (low ≤ n) × (n ≤ high)
within-bounds low high n h =
    let k : (leb low n ≡ true) × (leb n high ≡ true) = and_both (leb low n) (leb n high) h in
    (leb-true low n k.0, leb-true n high k.1)

-- bytes in range, one by one
pub all_first : (low high b : ℕ) (t : List ℕ) → all_within low high (b ∷ t) ≡ true → (low ≤ b) × (b ≤ high) × (all_within low high t ≡ true)
unfolding all_within
all_first low high b t h =
    let e = and_both (within low high b) (all_within low high t) h in
    let k = within-bounds low high b e.0 in
    (k.0, k.1, e.1)

pub all-at : (low high : ℕ) (t : List ℕ) (i : ℕ) → all_within low high t ≡ true → i < length t → (low ≤ get_or t i 0) × (get_or t i 0 ≤ high)
all-at low high [] i h l = absurd (omega arith)
all-at low high (b ∷ t) zero h l = let k = all_first low high b t h in (k.0, k.1)
all-at low high (b ∷ t) (suc i) h l = all-at low high t i (all_first low high b t h).2 (omega arith)

pub run_length : (low high : ℕ) (s : List ℕ) → length (run_of low high s) ≤ length s
unfolding run_of
run_length low high [] = zero-le
run_length low high (b ∷ s) = go (within low high b) (run_length low high s)
  where
    go : (q : Bool) → length (run_of low high s) ≤ length s → length (pick q (b ∷ run_of low high s) []) ≤ suc (length s)
    go true h = suc-le-suc h
    go false h = zero-le

-- a run ends within the line, or where it began
pub run_fits : (low high : ℕ) (s : List ℕ) (at : ℕ) → length (run_of low high (drop at s)) ≤ length s - at
run_fits low high s at = omega (arith, run_length low high (drop at s), length-drop at s)

-- A run is the beginning of what it is taken from.
pub run-split : (low high : ℕ) (s : List ℕ) → s ≡ run_of low high s ++ drop (length (run_of low high s)) s
unfolding run_of
run-split low high [] = refl
run-split low high (b ∷ s) = go (within low high b) (run-split low high s)
  where
    go :
        (q : Bool) → s ≡ run_of low high s ++ drop (length (run_of low high s)) s →
        b ∷ s ≡ pick q (b ∷ run_of low high s) [] ++ drop (length (pick q (b ∷ run_of low high s) [])) (b ∷ s)
    go true e = ap (λ (t : List ℕ). b ∷ t) e
    go false e = refl

-- Bytes in range before a rest that begins with none are the run.
pub run-exact : (low high : ℕ) (t r : List ℕ) → all_within low high t ≡ true → run_of low high r ≡ [] → run_of low high (t ++ r) ≡ t
unfolding run_of all_within
run-exact low high [] r h e = e
run-exact low high (b ∷ t) r h e =
    let k : (within low high b ≡ true) × (all_within low high t ≡ true) = and_both (within low high b) (all_within low high t) h in
    rw (k.0, run-exact low high t r k.1 e)

pub run-within : (low high : ℕ) (s : List ℕ) → all_within low high (run_of low high s) ≡ true
unfolding run_of all_within
run-within low high [] = refl
run-within low high (b ∷ s) = go (within low high b) refl (run-within low high s)
  where
    go : (q : Bool) → within low high b ≡ q → all_within low high (run_of low high s) ≡ true → all_within low high (pick q (b ∷ run_of low high s) []) ≡ true
    go true e h = rw (e, h)
    go false e h = refl

pub all_append : (low high : ℕ) (s t : List ℕ) → all_within low high s ≡ true → all_within low high t ≡ true → all_within low high (s ++ t) ≡ true
unfolding all_within
all_append low high [] t h k = k
all_append low high (b ∷ s) t h k =
    let e : (within low high b ≡ true) × (all_within low high s ≡ true) = and_both (within low high b) (all_within low high s) h in
    rw e.0 (all_append low high s t e.1 k)

-- A part of bytes in range is the run where the byte after it is in range no longer; and one byte more.
pub part-run :
    (low high : ℕ) (s : List ℕ) (at end : ℕ) → at ≤ end → end < length s →
    all_within low high (take (end - at) (drop at s)) ≡ true → within low high (get_or s end 0) ≡ false →
    take (end - at) (drop at s) ≡ run_of low high (drop at s)
part-run low high s at end l h a e =
    let k : at + (end - at) ≡ end = omega arith in
    let t = take (end - at) (drop at s) in
    let r : run_of low high (drop (end - at) (drop at s)) ≡ [] =
    rw (drop-drop (end - at) at s, k) (run-stops low high s end h e) in
    sym (ap (run_of low high) (sym (take-append-drop (end - at) (drop at s))) ∙ run-exact low high t (drop (end - at) (drop at s)) a r)

pub part-empty : (low high : ℕ) (s : List ℕ) (at : ℕ) → all_within low high (take (at - at) (drop at s)) ≡ true
unfolding all_within
part-empty low high s at = rw (sub_self at)

pub part-longer :
    (low high : ℕ) (s : List ℕ) (at end next : ℕ) → next ≡ end + 1 → at ≤ end → end < length s →
    all_within low high (take (end - at) (drop at s)) ≡ true → within low high (get_or s end 0) ≡ true →
    all_within low high (take (next - at) (drop at s)) ≡ true
unfolding all_within
part-longer low high s at end next n l h a e =
    rw (n, part-more s at end l h)
    (all_append low high (take (end - at) (drop at s)) (get_or s end 0 ∷ []) a (rw e))

-- a part of a line, from `at` to `end`, whose bytes are all in range
pub record Part (low high : ℕ) : Type 0 where
  pub line : List ℕ
  pub at : ℕ
  pub end : ℕ
  pub order : at ≤ end
  pub all : all_within low high (take (end - at) (drop at line)) ≡ true

-- no byte, n bytes tested at once, one byte more, and the part as the run
abbrev pub no_part : (low high : ℕ) → List ℕ → ℕ → Part low high
no_part low high s at = record { line = s; at = at; end = at; order = omega arith; all = part-empty low high s at }

abbrev pub tested-part : (low high : ℕ) (s : List ℕ) (at n : ℕ) → all_within low high (take (at + n - at) (drop at s)) ≡ true → Part low high
tested-part low high s at n h = record { line = s; at = at; end = at + n; order = omega arith; all = h }

abbrev pub more-part :
    {low high : ℕ} (p : Part low high) (next : ℕ) → next ≡ p.end + 1 → p.end < length p.line →
    within low high (get_or p.line p.end 0) ≡ true → Part low high
more-part {low} {high} p next n h e = record {
  line = p.line;
  at = p.at;
  end = next;
  order = omega (arith, p.order);
  all = part-longer low high p.line p.at p.end next n p.order h p.all e;
}

pub run-part :
    {low high : ℕ} (p : Part low high) → p.end < length p.line → within low high (get_or p.line p.end 0) ≡ false →
    take (p.end - p.at) (drop p.at p.line) ≡ run_of low high (drop p.at p.line)
run-part {low} {high} p h e = part-run low high p.line p.at p.end p.order h p.all e

-- the part of a line after a text that stands in it
pub rest-after : (s : List ℕ) (at : ℕ) (t x : List ℕ) → at ≤ length s → drop at s ≡ t ++ x → (at + length t ≤ length s) × (drop (at + length t) s ≡ x)
rest-after s at t x h e = (
  omega (arith, length-drop at s, ap length e, length-append t x),
  sym (drop-drop (length t) at s) ∙ rw e (drop-append_seam t x),
)

-- A text stands where the rest of the line begins with it, and only there.
pub text-stands : (s : List ℕ) (at : ℕ) (t x : List ℕ) → at ≤ length s → drop at s ≡ t ++ x → after s at t ≡ at + length t
text-stands s at t x h e =
    sym (after-stands s at t (rest-after s at t x h e).0 (rw (e, take-append_seam t x) (same_refl t)))

pub record Stands (s : List ℕ) (at : ℕ) (t : List ℕ) : Type 0 where
  pub fits : at + length t ≤ length s
  pub next : after s at t ≡ at + length t
  pub text : drop at s ≡ t ++ drop (at + length t) s

pub text-cases : (s : List ℕ) (at : ℕ) (t : List ℕ) → Stands s at t ⊎ (after s at t ≡ past s)
text-cases s at t = go (leb (at + length t) (length s)) refl (same (take (length t) (drop at s)) t) refl
  where
    go : (p : Bool) → leb (at + length t) (length s) ≡ p → (q : Bool) → same (take (length t) (drop at s)) t ≡ q → Stands s at t ⊎ (after s at t ≡ past s)
    go true e true f = inl (record {
      fits = leb-true (at + length t) (length s) e;
      next = sym (after-stands s at t (leb-true (at + length t) (length s) e) f);
      text =
          sym (take-append-drop (length t) (drop at s)) ∙
          rw (same-eq (take (length t) (drop at s)) t f, drop-drop (length t) at s);
    })
    go true e false f = inr (sym (after-other s at t f))
    go false e true f = inr (sym (after-short s at t (leb-false (at + length t) (length s) e)))
    go false e false f = inr (sym (after-other s at t f))

pub after-past : (s : List ℕ) (at : ℕ) (t : List ℕ) → length s < at → after s at t ≡ past s
after-past s at t h = sym (after-short s at t (omega arith))
