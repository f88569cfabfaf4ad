-- What is held of a line not yet ended. Assumes nothing.
use mathlib.Core.Path.{◌≡◌, refl, sym, ◌∙◌, ap}
use mathlib.Core.Bool.{Bool, true, false, ◌&&◌}
use mathlib.Core.List.{List, [], ◌∷◌, ◌++◌, append_assoc, append-nil}
use Prim.Native.Nat.{ℕ, suc, ◌+◌, ◌-◌, ◌≤◌, min}
use borrow.Rule.Slice.PartMut.{put_mid}
use Rattle.std.proofs.lemmas.Slice.{take-put_mid}
use Rattle.std.proofs.Math.Seq.{take-append-add}
use native.Mathlib.Omega.{arith}
use lib.Dec.{ltb}
use lib.ListN.{length, take, drop, replicate, take-append-drop}
use lib.Seq.{take_all, take-append-le, length-take-le, take-take}
use borrow.Author.Tests.{ltb-true, ltb-false}
use Rattle.std.proofs.lemmas.List.{length-drop, length-replicate, drop-drop, drop-replicate}
use Rattle.line_bytes.specs.LineBytes.{newline, unbroken, with_tail}
use Rattle.line_bytes.proofs.FirstNewline.{unbroken-append}

-- The first bytes of a line, of which the first were taken before.
pub take-front : (n : ℕ) (a b : List ℕ) → take n (take n a ++ b) ≡ take n (a ++ b)
take-front n a b = go (ltb (length a) n) refl
  where
    go : (t : Bool) → ltb (length a) n ≡ t → take n (take n a ++ b) ≡ take n (a ++ b)
    go true e = rw (take_all n a (omega (arith, ltb-true (length a) n e))) refl
    go false e =
        let h : n ≤ length a = ltb-false (length a) n e in
        let m : length (take n a) ≡ n = length-take-le n a h in
        rw (take-append-le n a b h, take-append-le n (take n a) b (omega arith)) (take-take n n a (omega arith))

pub tail-tail : (line more bytes : List ℕ) → with_tail (with_tail line more) bytes ≡ with_tail line (more ++ bytes)
tail-tail line more bytes = take-front 241 (line ++ more) bytes ∙ ap (λ (l : List ℕ). take 241 l) (append_assoc line more bytes)

pub tail_none : (line : List ℕ) → length line ≤ 241 → line ≡ with_tail line []
tail_none line h = sym (ap (λ (l : List ℕ). take 241 l) (append-nil line) ∙ take_all 241 line h)

-- as many bytes as there is room for
held-more : (bytes : List ℕ) (room n : ℕ) → n ≡ min (length bytes) room → take room bytes ≡ take n bytes
held-more bytes room n m = go (ltb room (length bytes)) refl
  where
    go : (t : Bool) → ltb room (length bytes) ≡ t → take room bytes ≡ take n bytes
    go true e =
        let h = ltb-true room (length bytes) e in
        let k : room ≡ n = omega (arith, m) in
        ap (λ (i : ℕ). take i bytes) k
    go false e =
        let h = ltb-false room (length bytes) e in
        take_all room bytes h ∙ sym (take_all n bytes (omega (arith, m)))

-- they are put after those that are held
pub tail-put : (tail bytes : List ℕ) (held n : ℕ) → held ≤ 241 → length tail ≡ 242 → n ≡ min (length bytes) (241 - held) →
    take (held + n) (put_mid held n tail (take n bytes)) ≡ with_tail (take held tail) bytes
tail-put tail bytes held n h e m =
    let a = take held tail in
    let size : length a ≡ held = length-take-le held tail (omega arith) in
    let more : length (take n bytes) ≡ n = length-take-le n bytes (omega (arith, m)) in
    let whole : 241 ≡ length a + (241 - held) = omega arith in
    take-put_mid held n tail (take n bytes) (held + n) (omega arith) (omega arith) ∙ ap (λ (l : List ℕ). a ++ l) (sym (held-more bytes (241 - held) n m))
    ∙ sym (ap (λ (i : ℕ). take i (a ++ bytes)) whole ∙ take-append-add a bytes (241 - held))

-- what is held of an unbroken line and unbroken bytes is unbroken
unbroken-front : (n : ℕ) (s : List ℕ) → unbroken s ≡ true → unbroken (take n s) ≡ true
unbroken-front n s e = go (unbroken (take n s)) (sym (unbroken-append (take n s) (drop n s)) ∙ ap unbroken (take-append-drop n s) ∙ e)
  where
    go : (a : Bool) → (a && unbroken (drop n s)) ≡ true → a ≡ true
    go true k = refl
    go false k = k

pub unbroken-tail : (a b : List ℕ) → unbroken a ≡ true → unbroken b ≡ true → unbroken (with_tail a b) ≡ true
unbroken-tail a b e f = unbroken-front 241 (a ++ b) (unbroken-append a b ∙ rw (e, f) refl)

-- A buffer of which newlines fill the rest has room for all,
rest-room : (tail : List ℕ) (held : ℕ) → held ≤ 241 → drop held tail ≡ replicate (242 - held) newline → length tail ≡ 242
rest-room tail held h e =
    let rest : length tail - held ≡ 242 - held = sym (length-drop held tail) ∙ ap length e ∙ length-replicate (242 - held) newline in
    omega (arith, rest)

-- and has a newline after it.
pub ended-by-rest : (tail : List ℕ) (held : ℕ) → held ≤ 241 → drop held tail ≡ replicate (242 - held) newline →
    take (held + 1) tail ≡ take held tail ++ newline ∷ []
ended-by-rest tail held h e =
    let size : length (take held tail) ≡ held = length-take-le held tail (omega (arith, rest-room tail held h e)) in
    let rest : 242 - held ≡ suc (241 - held) = omega arith in
    ap (take (held + 1)) (sym (take-append-drop held tail))
    ∙ rw (e, rest) (ap (λ (n : ℕ). take (n + 1) (take held tail ++ replicate (suc (241 - held)) newline)) (sym size)
    ∙ take-append-add (take held tail) (replicate (suc (241 - held)) newline) 1)

-- More bytes are put before that rest.
pub rest-later : (old new : List ℕ) (held later : ℕ) → held ≤ later → drop held old ≡ replicate (242 - held) newline → drop later new ≡ drop later old →
    drop later new ≡ replicate (242 - later) newline
rest-later old new held later h e same =
    let more : held + (later - held) ≡ later = omega arith in
    let left : 242 - held - (later - held) ≡ 242 - later = omega arith in
    same ∙ ap (λ (n : ℕ). drop n old) (sym more) ∙ sym (drop-drop (later - held) held old) ∙ ap (drop (later - held)) e
    ∙ drop-replicate (later - held) (242 - held) newline ∙ ap (λ (n : ℕ). replicate n newline) left
