-- Laws of text written into a buffer.
-- Assumes nothing.
use mathlib.Core.Path.{◌≡◌, refl, sym, ap, ap₂, ◌∙◌}
use mathlib.Core.List.{List, [], ◌++◌, append_assoc, append-nil}
use Prim.Native.Nat.{ℕ, ◌+◌, ◌-◌}
use lib.ListN.{length, take, drop, length-append, length-drop}
use lib.Seq.{drop-drop, take_at, drop_at, take-length, drop-length}
use Rattle.report.specs.Line.{onto, Written, Added}

-- The law that chains writers. What a caller holds after `f(&mut out[a..])`, where it had written t and `f` wrote u: `xs` is the buffer
-- before the call, `ys` the part that `f` was lent as `f` left it.
pub written-more :
    {old t u xs ys : List ℕ} {a r : ℕ} →
    Written old t a xs →
    Written (take (length xs - a) (drop a xs)) u r ys →
    Written old (t ++ u) (a + r) (take a xs ++ (ys ++ drop (length xs - a) (drop a xs)))
unfolding onto
written-more {old} {t} {u} {xs} {ys} {a} {r} w v =
    let rest : List ℕ = drop (length t) old in
    let d : drop a xs ≡ rest = rw (w.bytes, w.count) (drop_at t rest (length t) refl) in
    let n : length xs - a ≡ length rest = sym (length-drop a xs) ∙ ap length d in
    let e : ys ≡ onto rest u = v.bytes ∙ ap (λ (l : List ℕ). onto l u) (ap₂ take n d ∙ take-length rest) in
    let f : drop (length xs - a) (drop a xs) ≡ [] = ap₂ drop n d ∙ drop-length rest in
    let h : take a xs ≡ t = rw (w.bytes, w.count) (take_at t rest (length t) refl) in
    record {
      count = ap₂ ◌+◌ w.count v.count ∙ sym (length-append t u);
      bytes = rw (h, e, f) (rw (append-nil, length-append t u, drop-drop (length u) (length t) old, append_assoc) refl);
    }

-- What a caller holds after `f(&mut out[a..])`, whatever stands before: `xs` is the buffer before the call, `ys` the part that `f` was lent as it left it.
pub added :
    {u xs ys : List ℕ} {a r : ℕ} →
    Written (take (length xs - a) (drop a xs)) u r ys →
    Added xs a u (a + r) (take a xs ++ (ys ++ drop (length xs - a) (drop a xs)))
added {u} {xs} {ys} {a} {r} v =
    let n : length xs - a ≡ length (drop a xs) = sym (length-drop a xs) in
    let e : ys ≡ onto (drop a xs) u = v.bytes ∙ ap (λ (l : List ℕ). onto l u) (ap (λ (k : ℕ). take k (drop a xs)) n ∙ take-length (drop a xs)) in
    let f : drop (length xs - a) (drop a xs) ≡ [] = ap (λ (k : ℕ). drop k (drop a xs)) n ∙ drop-length (drop a xs) in
    record {
      count = ap (λ (k : ℕ). a + k) v.count;
      bytes = ap (λ (l : List ℕ). take a xs ++ l) (ap₂ ◌++◌ e f ∙ append-nil (onto (drop a xs) u));
    }

-- nothing is written yet
pub nothing_written : (old : List ℕ) → Written old [] 0 old
unfolding onto
nothing_written old = record { count = refl; bytes = refl }
