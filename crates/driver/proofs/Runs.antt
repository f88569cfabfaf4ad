-- What a run stands for after each of its steps: one lemma for each way that the proofs go. Assumes nothing.
use mathlib.Core.Path.{◌≡◌, refl, sym, ◌∙◌, ap, subst}
use mathlib.Core.Bool.{Bool, true}
use mathlib.Core.List.{List, [], ◌∷◌, ◌++◌}
use Prim.Native.Nat.{ℕ, ◌+◌, ◌≤◌, ◌<◌}
use native.Mathlib.Omega.{arith}
use native.Mathlib.Decide.{dec_lt}
use lib.ListN.{length, take, drop, length-append, take-append-drop}
use lib.Seq.{take_all}
use Rattle.line_bytes.specs.LineBytes.{index_of}
use Rattle.report.specs.Line.{onto, Written}
use Rattle.book_model.specs.Calls.{State, Sound}
use Rattle.line_bytes.specs.LineBytes.{newline, unbroken, with_tail}
use Rattle.line_bytes.proofs.FirstNewline.{newline-last, index-unbroken}
use Rattle.line_bytes.proofs.Held.{unbroken-tail}
use Rattle.driver.specs.declared.Progress.{Progress}
use Rattle.driver.specs.declared.Run.{Run}
use Rattle.driver.specs.Printed.{printed_for, ended_with, ended, PrintsWhole}
use Rattle.driver.specs.Reading.{Stage, Reading, with_line, with_bytes, stage_at, reading_of, Running}
use Rattle.driver.proofs.Bytes.{bytes-append, bytes-tail, first-line, no_line, line-ended}
use Rattle.driver.proofs.Law.{whole}
use Rattle.driver.proofs.LineLaws.{Ended, ended_by}

-- A held line is ended by a newline after it: q is the stage after the lines of the first of these bytes.
pub held-ended : (p : Stage) (line bytes : List ℕ) (rest : ℕ) (q : Stage) → bytes ≡ line ++ (newline ∷ []) → unbroken line ≡ true → Sound p.state →
    record { stage = q; tail = [] } ≡ with_bytes (record { stage = p; tail = [] }) (take rest bytes) → rest ≤ length bytes →
    unbroken (drop rest bytes) ≡ true → Ended p line q
held-ended p line bytes rest q w u s e r n =
    let k : length bytes ≡ length line + 1 = ap length w ∙ length-append line (newline ∷ []) in
    let all : length line + 1 ≤ rest =
    elim (dec_lt (length line) rest) [
      | yes y ↦ omega arith
      | no y ↦ absurd (newline-last line rest (omega arith) (ap (λ (b : List ℕ). unbroken (drop rest b)) (sym w) ∙ n))
    ] in
    ended_by p line q s
    (ap (λ (x : Reading). x.stage)
    (e ∙ ap (with_bytes (record { stage = p; tail = [] })) (take_all rest bytes (omega arith) ∙ w) ∙ line-ended p line u))

-- What read_lines, step and start ensure of a run.
abbrev pub Reads : Run → (sheet : List ℕ) → State → Reading → ℕ → Type 0
Reads r sheet s reading n = (reading_of r sheet s ≡ reading) × (Running r s × (r.read ≡ n))

-- Lines from a place where one begins: what is left over is held.
pub lines-read : (p : Stage) (q : Progress) (sheet : List ℕ) (s : State) (bytes tail : List ℕ) (rest read : ℕ) →
    record { stage = stage_at q sheet s; tail = [] } ≡ with_bytes (record { stage = p; tail = [] }) (take rest bytes) →
    unbroken (drop rest bytes) ≡ true → Sound s → q.number ≤ 1 + read → tail ≡ with_tail [] (drop rest bytes) →
    Reads (record { progress = q; tail = tail; read = read }) sheet s (with_bytes (record { stage = p; tail = [] }) bytes) read
unfolding unbroken
lines-read p q sheet s bytes tail rest read e u sound n left = (
  (λ i. record { stage = stage_at q sheet s; tail = left i }) ∙ sym (bytes-tail (drop rest bytes) (stage_at q sheet s) [] (omega arith) u)
      ∙ ap (λ (x : Reading). with_bytes x (drop rest bytes)) e
      ∙ sym (bytes-append (record { stage = p; tail = [] }) (take rest bytes) (drop rest bytes))
      ∙ ap (with_bytes (record { stage = p; tail = [] })) (take-append-drop rest bytes),
  (record { sound = sound; number = n; unended = ap unbroken left ∙ unbroken-tail [] (drop rest bytes) refl u }, refl),
)

module _ (run : Run) (sheet : List ℕ) (s : State) (chunk : List ℕ) (running : Running run s) (few : length run.tail ≤ 241) (end : ℕ)
    (found : end ≡ 0 + index_of newline (drop 0 chunk)) where
  first : end ≡ index_of newline chunk
  first = omega (arith, found)

  -- what is held after the chunk's first part
  pub held_more : (tail : List ℕ) → tail ≡ with_tail run.tail (take end chunk) → unbroken tail ≡ true
  held_more tail e = ap unbroken e ∙ unbroken-tail run.tail (take end chunk) running.unended (rw first (index-unbroken chunk))

  -- no line ends in the chunk
  pub all_held : (tail : List ℕ) → tail ≡ with_tail run.tail (take end chunk) → length chunk ≤ end → end ≤ length chunk →
      Reads (record { progress = run.progress; tail = tail; read = run.read + length chunk }) sheet s (with_bytes (reading_of run sheet s) chunk)
      (run.read + length chunk)
  all_held tail t k m = (
    (λ i. record { stage = stage_at run.progress sheet s; tail = t i })
        ∙ sym (no_line (stage_at run.progress sheet s) run.tail chunk few end first (omega arith)),
    (record { sound = running.sound; number = omega (arith, running.number); unended = held_more tail t }, refl),
  )

  -- the held line ends in the chunk, and lines follow
  pub line-and-more : {reading : Reading} (next : Stage) (tail : List ℕ) → tail ≡ with_tail run.tail (take end chunk) → end < length chunk →
      next ≡ with_line (stage_at run.progress sheet s) tail → reading ≡ with_bytes (record { stage = next; tail = [] }) (drop (end + 1) chunk) →
      reading ≡ with_bytes (reading_of run sheet s) chunk
  line-and-more next tail t h e r =
      r ∙ ap (λ (x : Stage). with_bytes (record { stage = x; tail = [] }) (drop (end + 1) chunk)) (e ∙ ap (with_line (stage_at run.progress sheet s)) t)
      ∙ ap (λ (x : Reading). with_bytes x (drop (end + 1) chunk)) (sym (first-line (stage_at run.progress sheet s) run.tail chunk few end first h))
      ∙ sym (bytes-append (reading_of run sheet s) (take (end + 1) chunk) (drop (end + 1) chunk))
      ∙ ap (with_bytes (reading_of run sheet s)) (take-append-drop (end + 1) chunk)

-- the end of the input ends a line that has bytes, and only such a line
pub ended-none : (p : Stage) (line : List ℕ) → length line ≡ 0 → p ≡ ended_with p line
unfolding ended_with
ended-none p [] h = refl
ended-none p (byte ∷ line) h = absurd (omega (arith, h))

pub ended-line : (p : Stage) (line : List ℕ) → 1 ≤ length line → ended_with p line ≡ with_line p line
unfolding ended_with
ended-line p [] h = absurd (omega arith)
ended-line p (byte ∷ line) h = refl

-- what is written at the end is what is printed of the whole input
pub prints : (asked : Bool) (s : Reading) {old new : List ℕ} {n : ℕ} → Written old (printed_for asked (ended s)) n new →
    Written old (printed_for asked (ended s)) n new × PrintsWhole asked s old n new
prints asked s {old} {new} {n} w =
    (w, λ sheet input e. subst (λ (t : List ℕ). Written old t n new) (ap (λ (x : Reading). printed_for asked (ended x)) e ∙ whole asked sheet input) w)

-- what is written lies within the buffer
pub written-within : {old t new : List ℕ} {r : ℕ} → Written old t r new → r ≤ length new
unfolding onto
written-within {old} {t} {new} w =
    omega (arith, w.count, ap length w.bytes ∙ length-append t (drop (length t) old))
