-- Laws of lists of numbers: a text is read number by number, and writes one list. Assumes nothing.
use Prim.Native.Nat.{ℕ, zero, suc, ◌+◌, ◌≤◌, ◌<◌}
use native.Mathlib.Omega.{arith}
use native.Mathlib.Decide.{dec_lt}
use mathlib.Core.Bool.{Bool, true, false, ◌||◌}
use mathlib.Core.List.{List, [], ◌∷◌, ◌++◌, append-nil}
use mathlib.Core.Logic.{inl, inr, ⊎_elim}
use mathlib.Core.Path.{◌≡◌, refl, sym, ◌∙◌, ap}
use borrow.Author.Tests.{eqb-true, lt-ltb, le-ltb}
use lib.Dec.{eqb}
use lib.ListN.{length, drop, get_or, drop_of_length-le, length-append, length-drop}
use lib.Seq.{drop-cons}
use native.Mathlib.Numerals.{add-one}
use Rattle.exact.proofs.Decimal.{digits-some}
use Rattle.line_forms.specs.Bytes.{past, run_of}
use Rattle.line_forms.specs.Numerals.{decimal}
use Rattle.line_forms.specs.Parsing.{number_at, after_number}
use Rattle.line_forms.proofs.Bytes.{rest-after}
use Rattle.line_forms.proofs.NumberLaws.{Ends, NumberRead, number-written, number_read}
use Rattle.sheet_file.specs.NumberList.{Separator, NumberText, none, last, more, OneList}
use Rattle.sheet_file.specs.Reading.{separates, after_separator_lem}

-- the position after a number and its separator
abbrev pub next_at : List ℕ → ℕ → ℕ
next_at s at = after_separator_lem s (after_number s at)

-- what the test of a byte says
separates-either : (b : ℕ) → separates b ≡ true → Separator b
separates-either b h = go (eqb b 32) refl h
  where
    go : (q : Bool) → eqb b 32 ≡ q → (q || eqb b 10) ≡ true → Separator b
    go true e k = inl (eqb-true b 32 e)
    go false e k = inr (eqb-true b 10 k)

-- the position after a separator, and where the bytes have ended
next-end : (s : List ℕ) (at : ℕ) → length s ≤ at → after_separator_lem s at ≡ at
unfolding after_separator_lem
next-end s at h = rw (le-ltb at (length s) h)

next-separator : (s : List ℕ) (at : ℕ) → at < length s → separates (get_or s at 0) ≡ true → after_separator_lem s at ≡ at + 1
unfolding after_separator_lem
next-separator s at h e = rw (lt-ltb at (length s) h, e)

-- what stands at a position after a number
data After (s : List ℕ) (at : ℕ) : Type 0 where
  separator : at < length s → Separator (get_or s at 0) → after_separator_lem s at ≡ at + 1 → After s at
  other : at < length s → after_separator_lem s at ≡ past s → After s at
  end : length s ≤ at → after_separator_lem s at ≡ at → After s at

-- one of these stands there
after-cases : (s : List ℕ) (at : ℕ) → After s at
unfolding after_separator_lem
after-cases s at = elim (dec_lt at (length s)) [ yes l ↦ go l (separates (get_or s at 0)) refl | no l ↦ end (omega arith) (next-end s at (omega arith)) ]
  where
    go : at < length s → (q : Bool) → separates (get_or s at 0) ≡ q → After s at
    go l true e = separator l (separates-either (get_or s at 0) e) (next-separator s at l e)
    go l false e = other l (rw (lt-ltb at (length s) l, e))

-- no bytes write no number
pub empty-text : {bytes numbers : List ℕ} → NumberText bytes numbers → length bytes ≡ 0 → numbers ≡ []
empty-text none h = refl
empty-text (last n l) h = absurd (omega (arith, digits-some n))
empty-text (more n b {bytes} l w t) h = absurd (omega (arith, length-append (decimal n) (b ∷ bytes)))

-- a list begins with these numbers, and the bytes from a position on write the rest of it
pub record Left (s : List ℕ) (at : ℕ) (done numbers : List ℕ) : Type 0 where
  pub inside : at ≤ length s
  pub rest : List ℕ
  pub split : numbers ≡ done ++ rest
  pub text : NumberText (drop at s) rest

-- neither a digit nor a letter comes after a number
no_digit : {r : List ℕ} → run_of 48 57 r ≡ [] → run_of 97 122 r ≡ [] → Ends r
no_digit d l = record { digits = d; letters = l }

-- so with each separator, which passes the test
separator-ends : (b : ℕ) (r : List ℕ) → Separator b → (separates b ≡ true) × Ends (b ∷ r)
unfolding run_of
separator-ends b r w = ⊎_elim (λ e. rw e (refl, no_digit refl refl)) (λ e. rw e (refl, no_digit refl refl)) w

-- what stands at a position, and what after it
split-first : (s : List ℕ) (at : ℕ) {b : ℕ} {r : List ℕ} → drop at s ≡ b ∷ r → (at < length s) × (get_or s at 0 ≡ b) × (drop (at + 1) s ≡ r)
split-first s at {b} {r} e =
    let h : at < length s = omega (arith, length-drop at s, ap length e) in
    let k : get_or s at 0 ∷ drop (suc at) s ≡ b ∷ r = sym (drop-cons s at 0 h) ∙ e in
    (h, cc, rw add-one (cc))

module _ (s : List ℕ) (at : ℕ) where
  -- the first number of a text, and what is left after it
  pub taken : {bytes numbers : List ℕ} → NumberText bytes numbers → drop at s ≡ bytes → at < length s →
      Left s (next_at s at) (number_at s at ∷ []) numbers
  unfolding run_of
  taken none e h = absurd (omega (arith, length-drop at s, ap length e))
  taken (last n l) e h =
      let f : drop at s ≡ decimal n ++ [] = e ∙ sym (append-nil (decimal n)) in
      let k = number-written s at n [] f l (no_digit refl refl) in
      let a = rest-after s at (decimal n) [] (omega arith) f in
      let z : length s ≤ at + length (decimal n) = omega (arith, length-drop (at + length (decimal n)) s, ap length a.1) in
      let q : next_at s at ≡ at + length (decimal n) = rw k.1 (next-end s (at + length (decimal n)) z) in
      record { inside = rw q a.0; rest = []; split = rw k.0; text = rw (q, a.1) none }
  taken (more n b {bytes} {numbers} l w t) e h =
      let v = separator-ends b bytes w in
      let k = number-written s at n (b ∷ bytes) e l v.1 in
      let a = rest-after s at (decimal n) (b ∷ bytes) (omega arith) e in
      let f = split-first s (at + length (decimal n)) a.1 in
      let q : next_at s at ≡ at + length (decimal n) + 1 = rw k.1 (next-separator s (at + length (decimal n)) f.0 (rw f.1 v.0)) in
      record { inside = rw q (omega (arith, f.0)); rest = numbers; split = rw k.0; text = rw (q, f.2) t }

  -- and back: a number, what may follow it, and a text
  pub put_first : {rest : List ℕ} → at ≤ length s → next_at s at ≤ length s → NumberText (drop (next_at s at) s) rest →
      NumberText (drop at s) (number_at s at ∷ rest)
  put_first {rest} h k t = ⊎_elim found missing (number_read s at h)
    where
      missing : (after_number s at ≡ past s) × (number_at s at ≡ 0) → NumberText (drop at s) (number_at s at ∷ rest)
      missing p = absurd (omega (arith, p.0, next-end s (after_number s at) (omega (arith, p.0))))

      found : NumberRead s at → NumberText (drop at s) (number_at s at ∷ rest)
      found r = go (after-cases s (after_number s at))
        where
          go : After s (after_number s at) → NumberText (drop at s) (number_at s at ∷ rest)
          go (separator l w e) =
              let u : NumberText (drop (suc (after_number s at)) s) rest = rw (e, add-one) at t in
              rw (r.text, drop-cons s (after_number s at) 0 l) (more (number_at s at) (get_or s (after_number s at) 0) r.small w u)
          go (other l e) = absurd (omega arith)
          go (end l e) =
              let z : drop (after_number s at) s ≡ [] = drop_of_length-le s l in
              let u : rest ≡ [] = empty-text (rw e at t) (ap length z) in
              rw (r.text, z, append-nil, u) (last (number_at s at) r.small)

  -- each number leads on
  pub leads-on : at < length s → at < next_at s at
  leads-on h = ⊎_elim found (λ p. omega (arith, p.0, next-end s (after_number s at) (omega (arith, p.0)))) (number_read s at (omega arith))
    where
      found : NumberRead s at → at < next_at s at
      found r = go (after-cases s (after_number s at))
        where
          on : at < after_number s at
          on =
              omega (
                arith,
                r.fits,
                digits-some (number_at s at),
                ap length r.text,
                length-drop at s,
                length-drop (after_number s at) s,
                length-append (decimal (number_at s at)) (drop (after_number s at) s),
              )

          go : After s (after_number s at) → at < next_at s at
          go (separator l w e) = omega (arith, on)
          go (other l e) = omega (arith, on)
          go (end l e) = omega (arith, on)

-- the bytes from a position on write at most one list
abbrev OneFrom : List ℕ → ℕ → Type 0
OneFrom s at = (m n : List ℕ) → NumberText (drop at s) m → NumberText (drop at s) n → m ≡ n

-- none is left
one_end : (s : List ℕ) (at : ℕ) → length s ≤ at → OneFrom s at
one_end s at h m n t u =
    let z : length (drop at s) ≡ 0 = omega (arith, length-drop at s) in
    empty-text t z ∙ sym (empty-text u z)

-- one number, and then the rest
one_more : (s : List ℕ) (at : ℕ) → at < length s → OneFrom s (next_at s at) → OneFrom s at
one_more s at h f m n t u =
    let x = taken s at t refl h in
    let y = taken s at u refl h in
    x.split ∙ rw (f x.rest y.rest x.text y.text) (sym y.split)

-- k bounds how many bytes are left
one_from : (k : ℕ) (s : List ℕ) (at : ℕ) → length s ≤ at + k → OneFrom s at
one_from zero s at b = one_end s at (omega arith)
one_from (suc k) s at b =
    elim (dec_lt at (length s)) [
      | yes h ↦ one_more s at h (one_from k s (next_at s at) (omega (arith, leads-on s at h)))
      | no h ↦ one_end s at (omega arith)
    ]

pub one_list : OneList
one_list = record { same = λ {bytes} {m} {n} t u. one_from (length bytes) bytes 0 (omega arith) m n t u }
