-- The bytes of an input in turn: where it is cut does not matter, and a line may be read at once. Assumes nothing.
use mathlib.Core.Path.{◌≡◌, refl, sym, ◌∙◌, ap}
use mathlib.Core.Bool.{Bool, true, false, not, ◌&&◌, false≢true}
use mathlib.Core.List.{List, [], ◌∷◌, ◌++◌}
use Prim.Native.Nat.{ℕ, ◌+◌, ◌-◌, ◌≤◌, ◌<◌}
use native.Mathlib.Omega.{arith}
use native.Mathlib.Numerals.{add-one}
use lib.Dec.{eqb, ltb}
use lib.ListN.{length, take, drop, get_or, length-take, length-drop}
use lib.Seq.{take-suc, take_all, length-take-le, take-add}
use borrow.Author.Tests.{eq-eqb, ltb-true, ltb-false}
use Rattle.std.specs.Prelude.{Err}
use Rattle.line_bytes.specs.LineBytes.{index_of}
use Rattle.line_forms.specs.declared.Line.TheVariants.{Refusal}
use Rattle.line_forms.specs.declared.refusal.Refusal.TheVariants.{LongLine}
use Rattle.line_forms.specs.Readings.{line_of, header_of}
use Rattle.line_forms.proofs.HeaderLaws.{header_reading, refused-header}
use Rattle.line_forms.proofs.LineLaws.{line_reading, refused-line}
use Rattle.line_forms.proofs.Refusals.{refusal_numbers}
use Rattle.line_bytes.specs.LineBytes.{newline, unbroken, with_tail}
use Rattle.line_bytes.proofs.FirstNewline.{index-unbroken, index_at}
use Rattle.line_bytes.proofs.Held.{tail-tail, tail_none}
use Rattle.driver.specs.Reading.{Stage, Reading, with_line, with_byte, with_bytes}

-- Of a line over 240 bytes the first 241 read the same.

pub long-line : (s : List ℕ) → 240 < length s → line_of s ≡ Refusal LongLine
long-line s h =
    let (q, e, n) = refused-line (line_of s) 1 ((line_reading s).refused1.1 h) (λ z. omega (arith, z)) in
    e ∙ ap Refusal (refusal_numbers.same q LongLine n)

pub long-header : (s : List ℕ) → 240 < length s → header_of s ≡ Err LongLine
long-header s h =
    let (q, e, n) = refused-header (header_of s) 1 ((header_reading s).refused1.1 h) (λ z. omega (arith, z)) in
    e ∙ (λ i. Err (refusal_numbers.same q LongLine n i))

pub long_same : (p : Stage) (s t : List ℕ) → 240 < length s → 240 < length t → with_line p s ≡ with_line p t
unfolding with_line
long_same p s t h k = rw (long-line s h, long-line t k, long-header s h, long-header t k) refl

pub cut-same : (p : Stage) (s : List ℕ) → with_line p (take 241 s) ≡ with_line p s
cut-same p s = go (ltb 240 (length s)) refl
  where
    go : (t : Bool) → ltb 240 (length s) ≡ t → with_line p (take 241 s) ≡ with_line p s
    go true e = let n : 240 < length s = omega (arith, ltb-true 240 (length s) e) in long_same p (take 241 s) s
        (rw (length-take-le 241 s (omega arith)) (omega arith)) n
    go false e = rw (take_all 241 s (omega (arith, ltb-false 240 (length s) e))) refl

-- reading a and then b is reading both at once
pub bytes-append : (s : Reading) (a b : List ℕ) → with_bytes s (a ++ b) ≡ with_bytes (with_bytes s a) b
unfolding with_bytes
bytes-append s [] b = refl
bytes-append s (x ∷ a) b = bytes-append (with_byte s x) a b

bytes_next : (s : Reading) (input : List ℕ) (i : ℕ) → i < length input →
    with_bytes s (take (i + 1) input) ≡ with_byte (with_bytes s (take i input)) (get_or input i 0)
unfolding with_bytes
bytes_next s input i h = rw (add-one i, take-suc input i 0 h) (bytes-append s (take i input) (get_or input i 0 ∷ []))

byte-ends : (p : Stage) (t : List ℕ) (byte : ℕ) → byte ≡ newline → with_byte (record { stage = p; tail = t }) byte ≡ record { stage = with_line p t; tail = [] }
unfolding with_byte
byte-ends p t byte e = rw (eq-eqb byte newline e) refl

byte-tail : (p : Stage) (t : List ℕ) (byte : ℕ) → eqb byte newline ≡ false →
    with_byte (record { stage = p; tail = t }) byte ≡ record { stage = p; tail = with_tail t (byte ∷ []) }
unfolding with_byte
byte-tail p t byte e = rw e refl

-- bytes of which none ends a line
pub bytes-tail : (w : List ℕ) (p : Stage) (t : List ℕ) → length t ≤ 241 → unbroken w ≡ true →
    with_bytes (record { stage = p; tail = t }) w ≡ record { stage = p; tail = with_tail t w }
unfolding with_bytes unbroken
bytes-tail [] p t h e = λ i. record { stage = p; tail = tail_none t h i }
bytes-tail (byte ∷ w) p t h e = go (eqb byte newline) refl e (bytes-tail w p (with_tail t (byte ∷ [])) (rw (length-take 241 (t ++ (byte ∷ []))) (omega arith)))
  where
    go : (b : Bool) → eqb byte newline ≡ b → (not b && unbroken w) ≡ true →
        (unbroken w ≡ true → with_bytes (record { stage = p; tail = with_tail t (byte ∷ []) }) w ≡ record {
          stage = p;
          tail =
              with_tail (with_tail t (byte ∷ [])) w;
        }) → with_bytes (with_byte (record { stage = p; tail = t }) byte) w ≡ record {
          stage = p;
          tail =
              with_tail t (byte ∷ w);
        }
    go true f k ih = absurd (false≢true k)
    go false f k ih =
        ap (λ (s : Reading). with_bytes s w) (byte-tail p t byte f) ∙ ih k ∙ (λ i. record { stage = p; tail = tail-tail t (byte ∷ []) w i })

-- bytes of which the last alone ends a line
pub line-ended : (p : Stage) (line : List ℕ) → unbroken line ≡ true →
    with_bytes (record { stage = p; tail = [] }) (line ++ (newline ∷ [])) ≡ record { stage = with_line p line; tail = [] }
unfolding with_bytes
line-ended p line e =
    bytes-append (record { stage = p; tail = [] }) line (newline ∷ [])
    ∙ ap (λ (x : Reading). with_byte x newline) (bytes-tail line p [] (omega arith) e)
    ∙ byte-ends p (with_tail [] line) newline refl
    ∙ (λ i. record { stage = cut-same p line i; tail = [] })

-- The first line of bytes, and the bytes after it: t was held before.
module _ (p : Stage) (t bytes : List ℕ) (few : length t ≤ 241) (end : ℕ) (found : end ≡ index_of newline bytes) where
  first_part : with_bytes (record { stage = p; tail = t }) (take end bytes) ≡ record { stage = p; tail = with_tail t (take end bytes) }
  first_part = bytes-tail (take end bytes) p t few (rw found (index-unbroken bytes))

  pub first-line : end < length bytes → with_bytes (record { stage = p; tail = t }) (take (end + 1) bytes) ≡ record {
    stage =
        with_line p (with_tail t (take end bytes));
    tail = [];
  }
  first-line h =
      let at : get_or bytes end 0 ≡ newline = rw found (index_at bytes (omega arith)) in
      bytes_next (record { stage = p; tail = t }) bytes end h ∙ ap (λ (x : Reading). with_byte x (get_or bytes end 0)) first_part
      ∙ byte-ends p (with_tail t (take end bytes)) (get_or bytes end 0) at

  pub no_line : end ≡ length bytes → with_bytes (record { stage = p; tail = t }) bytes ≡ record { stage = p; tail = with_tail t (take end bytes) }
  no_line e = ap (with_bytes (record { stage = p; tail = t })) (sym (take_all end bytes (omega arith))) ∙ first_part

-- A line that begins at i, after all that stands before it.
pub line_read : (s : Reading) (bytes : List ℕ) (p : Stage) (i end : ℕ) → record { stage = p; tail = [] } ≡ with_bytes s (take i bytes) → i ≤ end →
    end ≡ i + index_of newline (drop i bytes) → end < length bytes →
    with_bytes s (take (end + 1) bytes) ≡ record { stage = with_line p (take (end - i) (drop i bytes)); tail = [] }
line_read s bytes p i end so_far inside found h =
    let n : length (drop i bytes) ≡ length bytes - i = length-drop i bytes in
    let e : i + (end - i + 1) ≡ end + 1 = omega arith in
    let k : end - i ≡ index_of newline (drop i bytes) = omega arith in
    ap (λ (m : ℕ). with_bytes s (take m bytes)) (sym e) ∙ ap (with_bytes s) (take-add i (end - i + 1) bytes)
    ∙ bytes-append s (take i bytes) (take (end - i + 1) (drop i bytes))
    ∙ ap (λ (x : Reading). with_bytes x (take (end - i + 1) (drop i bytes))) (sym so_far)
    ∙ first-line p [] (drop i bytes) (omega arith) (end - i) k (omega arith)
    ∙ (λ j. record { stage = cut-same p (take (end - i) (drop i bytes)) j; tail = [] })
