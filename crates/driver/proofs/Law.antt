-- What the program prints, however its reads cut the input, is `printed` of the whole input. Assumes nothing.
use mathlib.Core.Path.{◌≡◌, refl, sym, ◌∙◌, ap}
use mathlib.Core.Bool.{Bool, true, false}
use mathlib.Core.List.{List, [], ◌∷◌, ◌++◌}
use mathlib.Core.Logic.{⊎_elim}
use Prim.Native.Nat.{ℕ, ◌+◌, ◌≤◌, ◌<◌}
use native.Mathlib.Omega.{arith}
use lib.Dec.{eqb}
use lib.ListN.{length, take, length-take}
use lib.Seq.{take-append-le, take_all}
use borrow.Author.Tests.{eqb-true, eqb-false}
use Rattle.exact.specs.Choice.{pick}
use Rattle.report.specs.Line.{refusal_line}
use Rattle.line_forms.specs.declared.Line.TheVariants.{Refusal}
use Rattle.line_forms.specs.declared.refusal.Refusal.TheVariants.{LongLine}
use Rattle.book_model.specs.Accepted.{refusal_for}
use Rattle.book_model.specs.Calls.{State, Answer, opening_for, opening, feeding_line, feeding}
use Rattle.book_model.specs.LineKinds.{content_kind}
use Rattle.book_model.proofs.Openings.{number, header-fails}
use Rattle.line_bytes.specs.LineBytes.{newline, with_tail}
use Rattle.line_bytes.proofs.Held.{take-front}
use Rattle.printing.proofs.Answers.{printed-refused, printed-empty, printed-end}
use Rattle.driver.specs.Program.{Settled}
use Rattle.driver.specs.Reading.{Stage, Reading, at_start, from_start, after, with_line, with_byte, with_bytes}
use Rattle.driver.proofs.LineLaws.{line_refused, line-opens, line-fed}
use Rattle.driver.proofs.Bytes.{long-line, long-header, cut-same, bytes-append}
use Rattle.driver.specs.Printed.{last_of, lines_from, lines_of, printed_feeding, printed_lines, printed, printed_for, ended_with, ended}

-- the reading after a byte, with the whole line in place of its first bytes
byte-newline : (p : Stage) (line : List ℕ) (byte : ℕ) → eqb byte newline ≡ true →
    with_byte (record { stage = p; tail = take 241 line }) byte ≡ record { stage = with_line p line; tail = take 241 [] }
unfolding with_byte
byte-newline p line byte e = rw e (λ i. record { stage = cut-same p line i; tail = [] })

byte-other : (p : Stage) (line : List ℕ) (byte : ℕ) → eqb byte newline ≡ false →
    with_byte (record { stage = p; tail = take 241 line }) byte ≡ record { stage = p; tail = take 241 (line ++ (byte ∷ [])) }
unfolding with_byte
byte-other p line byte e = rw e (λ i. record { stage = p; tail = take-front 241 line (byte ∷ []) i })

ended_by : {s t : Reading} (input : List ℕ) → s ≡ t → ended (with_bytes s input) ≡ ended (with_bytes t input)
ended_by input e = ap (λ (x : Reading). ended (with_bytes x input)) e

refused-ended : (p : Stage) (line : List ℕ) → (p.refusal ≡ 0 → ⊥) → ended_with p line ≡ p
unfolding ended_with
refused-ended p [] h = refl
refused-ended p (byte ∷ line) h = sym (line_refused p (byte ∷ line) h)

refused-byte : (s : Reading) (byte : ℕ) → (s.stage.refusal ≡ 0 → ⊥) → (with_byte s byte).stage ≡ s.stage
unfolding with_byte
refused-byte s byte h = go (eqb byte newline)
  where
    go : (t : Bool) → (pick {A = Reading} t (record { stage = with_line s.stage s.tail; tail = [] })
        (record { stage = s.stage; tail = with_tail s.tail (byte ∷ []) })).stage ≡ s.stage
    go true = sym (line_refused s.stage s.tail h)
    go false = refl

-- Bytes in turn are lines in turn.

unfoldable pub with_lines : Stage → List (List ℕ) → Stage
with_lines p [] = p
with_lines p (line ∷ lines) = with_lines (with_line p line) lines

last_line : (p : Stage) (line : List ℕ) → ended_with p (take 241 line) ≡ with_lines p (last_of line)
unfolding with_lines last_of ended_with
last_line p [] = refl
last_line p (byte ∷ line) = cut-same p (byte ∷ line)

pub bytes-lines : (input : List ℕ) (p : Stage) (line : List ℕ) →
    ended (with_bytes (record { stage = p; tail = take 241 line }) input) ≡ with_lines p (lines_from line input)
unfolding with_bytes lines_from with_lines
bytes-lines [] p line = last_line p line
bytes-lines (byte ∷ bytes) p line =
    go (eqb byte newline) refl (bytes-lines bytes (with_line p line) []) (bytes-lines bytes p (line ++ (byte ∷ [])))
  where
    go : (t : Bool) → eqb byte newline ≡ t → ended (with_bytes (record { stage = with_line p line; tail = take 241 [] }) bytes) ≡ with_lines (with_line p line)
        (lines_from [] bytes) → ended (with_bytes (record { stage = p; tail = take 241 (line ++ (byte ∷ [])) }) bytes) ≡ with_lines p
        (lines_from (line ++ (byte ∷ [])) bytes) → ended (with_bytes (with_byte (record { stage = p; tail = take 241 line }) byte) bytes) ≡ with_lines p
        (pick t (line ∷ lines_from [] bytes) (lines_from (line ++ (byte ∷ [])) bytes))
    go true e x y = ended_by bytes (byte-newline p line byte e) ∙ x
    go false e x y = ended_by bytes (byte-other p line byte e) ∙ y

-- A refusal stays.

refused-lines : (p : Stage) (lines : List (List ℕ)) → (p.refusal ≡ 0 → ⊥) → with_lines p lines ≡ p
unfolding with_lines
refused-lines p [] h = refl
refused-lines p (line ∷ lines) h = ap (λ (q : Stage). with_lines q lines) (sym (line_refused p line h)) ∙ refused-lines p lines h

-- after a line of this number that got this answer
answered-lines : (asked : Bool) (a : Answer) (number : ℕ) (sheet : List ℕ) (lines : List (List ℕ)) →
    printed_for asked (with_lines (after a number sheet) lines) ≡ pick (eqb a.refusal 0)
    (printed_for asked (with_lines (record { refusal = 0; number = number + 1; sheet = sheet; state = a.state }) lines)) (refusal_line a.refusal number)
answered-lines asked a number sheet lines = go (eqb a.refusal 0) refl
  where
    go : (t : Bool) → eqb a.refusal 0 ≡ t →
        printed_for asked (with_lines (record { refusal = a.refusal; number = pick t (number + 1) number; sheet = sheet; state = a.state }) lines)
        ≡ pick t (printed_for asked (with_lines (record { refusal = 0; number = number + 1; sheet = sheet; state = a.state }) lines))
        (refusal_line a.refusal number)
    go true e =
        ap (λ (r : ℕ). printed_for asked (with_lines (record { refusal = r; number = number + 1; sheet = sheet; state = a.state }) lines))
        (eqb-true a.refusal 0 e)
    go false e =
        ap (printed_for asked)
        (refused-lines (record { refusal = a.refusal; number = number; sheet = sheet; state = a.state }) lines (eqb-false a.refusal 0 e))
        ∙ printed-refused asked a.refusal number a.state.book a.state.cells (eqb-false a.refusal 0 e)

feeding-lines : (asked : Bool) (sheet : List ℕ) (lines : List (List ℕ)) (s : State) (number : ℕ) → 2 ≤ number →
    printed_for asked (with_lines (record { refusal = 0; number = number; sheet = sheet; state = s }) lines) ≡ printed_feeding asked s number lines
unfolding with_lines printed_feeding
feeding-lines asked sheet [] s number h = printed-end asked 0 number s.book s.cells refl (λ e. omega arith)
feeding-lines asked sheet (line ∷ lines) s number h =
    ap (λ (q : Stage). printed_for asked (with_lines q lines))
    (sym (line-fed (record { refusal = 0; number = number; sheet = sheet; state = s }) line refl (λ e. omega arith)))
    ∙ answered-lines asked (feeding s line) number sheet lines
    ∙ ap (λ (x : List ℕ). pick (eqb (feeding s line).refusal 0) x (refusal_line (feeding s line).refusal number))
    (feeding-lines asked sheet lines (feeding s line).state (number + 1) (omega arith))

start-lines : (asked : Bool) (sheet : List ℕ) (lines : List (List ℕ)) → printed_for asked (with_lines (at_start sheet) lines) ≡ printed_lines asked sheet lines
unfolding with_lines printed_lines
start-lines asked sheet [] = printed-empty asked 0 1 (at_start sheet).state.book (at_start sheet).state.cells refl refl
start-lines asked sheet (line ∷ lines) =
    ap (λ (q : Stage). printed_for asked (with_lines q lines)) (sym (line-opens (at_start sheet) line refl refl))
    ∙ answered-lines asked (opening sheet line) 1 sheet lines
    ∙ ap (λ (x : List ℕ). pick (eqb (opening sheet line).refusal 0) x (refusal_line (opening sheet line).refusal 1))
    (feeding-lines asked sheet lines (opening sheet line).state 2 (omega arith))

-- What is printed is a function of the sheet and the whole input.
pub whole : (asked : Bool) (sheet input : List ℕ) → printed_for asked (ended (with_bytes (from_start sheet) input)) ≡ printed asked sheet input
whole asked sheet input = ap (printed_for asked) (bytes-lines input (at_start sheet) []) ∙ start-lines asked sheet (lines_of input)

-- After a refusal the rest of the input changes nothing.
refused-stays : (asked : Bool) (input : List ℕ) (s : Reading) → (s.stage.refusal ≡ 0 → ⊥) →
    printed_for asked (ended (with_bytes s input)) ≡ printed_for asked s.stage
unfolding with_bytes
refused-stays asked [] s h = ap (printed_for asked) (refused-ended s.stage s.tail h)
refused-stays asked (byte ∷ bytes) s h =
    let e : (with_byte s byte).stage ≡ s.stage = refused-byte s byte h in
    refused-stays asked bytes (with_byte s byte) (λ z. h (ap (λ (p : Stage). p.refusal) (sym e) ∙ z)) ∙ ap (printed_for asked) e

-- A line over 240 bytes is refused whatever follows, or a line before it was.
long-refused : (p : Stage) (line : List ℕ) → 240 < length line → (with_line p line).refusal ≡ 0 → ⊥
unfolding with_line feeding_line refusal_for content_kind
long-refused p line h = go (eqb p.refusal 0) refl (eqb p.number 1)
  where
    go : (a : Bool) → eqb p.refusal 0 ≡ a → (b : Bool) →
        (pick {A = Stage} a (after (pick b (opening p.sheet line) (feeding p.state line)) p.number p.sheet) p).refusal ≡ 0 → ⊥
    go true f true e = omega (arith, sym (number (ap (opening_for p.sheet) (long-header line h) ∙ header-fails p.sheet LongLine)) ∙ e)
    go true f false e = let k : (feeding_line p.state (Refusal LongLine)).refusal ≡ 0 = rw (long-line line h) at e in omega (arith, k)
    go false f b e = eqb-false p.refusal 0 f e

ended-long : (p : Stage) (line : List ℕ) → 240 < length line → ended_with p line ≡ with_line p line
unfolding ended_with
ended-long p [] h = absurd (omega arith)
ended-long p (byte ∷ line) h = refl

long-stays : (asked : Bool) (input : List ℕ) (p : Stage) (line : List ℕ) → 240 < length line → length line ≤ 241 →
    printed_for asked (ended (with_bytes (record { stage = p; tail = line }) input)) ≡ printed_for asked (with_line p line)
unfolding with_bytes with_byte
long-stays asked [] p line h k = ap (printed_for asked) (ended-long p line h)
long-stays asked (byte ∷ bytes) p line h k = go (eqb byte newline) (long-stays asked bytes p line h k)
  where
    -- the line stays as it is, of which 241 bytes are held
    same : with_tail line (byte ∷ []) ≡ line
    same = take-append-le 241 line (byte ∷ []) (omega arith) ∙ take_all 241 line k

    go : (t : Bool) → printed_for asked (ended (with_bytes (record { stage = p; tail = line }) bytes)) ≡ printed_for asked (with_line p line) →
        printed_for asked (ended (with_bytes (pick {A = Reading} t (record { stage = with_line p line; tail = [] })
        (record { stage = p; tail = with_tail line (byte ∷ []) })) bytes)) ≡ printed_for asked (with_line p line)
    go true ih = refused-stays asked bytes (record { stage = with_line p line; tail = [] }) (long-refused p line h)
    go false ih = ap (λ (l : List ℕ). printed_for asked (ended (with_bytes (record { stage = p; tail = l }) bytes))) same ∙ ih

-- no more than 241 bytes are held
held-few : (input : List ℕ) (s : Reading) → length s.tail ≤ 241 → length (with_bytes s input).tail ≤ 241
unfolding with_bytes with_byte
held-few [] s h = h
held-few (byte ∷ bytes) s h = held-few bytes (with_byte s byte) (go (eqb byte newline))
  where
    go : (t : Bool) → length (pick {A = Reading} t (record { stage = with_line s.stage s.tail; tail = [] })
        (record { stage = s.stage; tail = with_tail s.tail (byte ∷ []) })).tail ≤ 241
    go true = omega arith
    go false = rw (length-take 241 (s.tail ++ (byte ∷ []))) (omega arith)

pub settled : (asked : Bool) (s : Reading) → length s.tail ≤ 241 → Settled s → (more : List ℕ) →
    printed_for asked (ended (with_bytes s more)) ≡ printed_for asked (ended s)
settled asked s k h more = ⊎_elim (λ r. refused-stays asked more s r ∙ sym (ap (printed_for asked) (refused-ended s.stage s.tail r)))
    (λ l. long-stays asked more s.stage s.tail l k ∙ sym (ap (printed_for asked) (ended-long s.stage s.tail l))) h

pub stops : (asked : Bool) (sheet input more : List ℕ) → Settled (with_bytes (from_start sheet) input) →
    printed asked sheet (input ++ more) ≡ printed asked sheet input
stops asked sheet input more h =
    sym (whole asked sheet (input ++ more)) ∙ ap (λ (x : Reading). printed_for asked (ended x)) (bytes-append (from_start sheet) input more)
    ∙ settled asked (with_bytes (from_start sheet) input) (held-few input (from_start sheet) (omega arith)) h more ∙ whole asked sheet input
