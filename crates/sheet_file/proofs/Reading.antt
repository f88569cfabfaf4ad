-- Laws of the reader's loop: what it has read and stored at a position. Assumes nothing.
use Prim.Native.Nat.{ℕ, zero, suc, ◌+◌, ◌≤◌, ◌<◌, min}
use mathlib.Core.Bool.{true, false, true≢false}
use native.Mathlib.Decide.{dec_lt}
use native.Mathlib.Numerals.{add-one}
use native.Mathlib.Omega.{arith}
use mathlib.Core.List.{List, [], ◌∷◌, ◌++◌, append-nil, append_assoc}
use mathlib.Core.Path.{◌≡◌, refl, sym, ◌∙◌, ap}
use borrow.Author.Tests.{lt-ltb, le-ltb}
use lib.ListN.{length, get_or, replicate, take, drop, set, length-append, length-set, length-drop, drop_of_length-le}
use lib.Seq.{take_all, take-suc-set, take-append-le, get_or-set_other}
use Rattle.line_forms.specs.Parsing.{number_at}
use Rattle.sheet_file.specs.NumberList.{Numbers, NumberText, none, most, ZeroFrom, ReadsNumbers}
use Rattle.sheet_file.specs.Reading.{put_after, count_after}
use Rattle.sheet_file.proofs.NumberTexts.{next_at, Left, empty-text, taken, put_first}

-- `count` of `out` are the numbers read, the first 67 of them where they are more, and the rest is 0
pub record Stored (out : List ℕ) (count : ℕ) (numbers : List ℕ) : Type 0 where
  pub rest : ZeroFrom count out
  pub many : count ≡ min most (length numbers)
  pub same : take count out ≡ take most numbers

-- one number more
stored_next : {out : List ℕ} {count : ℕ} {numbers : List ℕ} (n : ℕ) → Stored out count numbers →
    Stored (put_after out count n) (count_after count) (numbers ++ (n ∷ []))
stored_next {out} {count} {numbers} n s = elim (dec_lt count most) [ yes l ↦ more l | no l ↦ full l ]
  where
    more : count < most → Stored (put_after out count n) (count_after count) (numbers ++ (n ∷ []))
    more l =
        let k : length numbers ≡ count = omega (arith, s.many) in
        let a : length (numbers ++ (n ∷ [])) ≡ count + 1 = length-append numbers (n ∷ []) ∙ omega arith in
        let e : take (count + 1) (set out count n) ≡ take count out ++ (n ∷ []) =
        rw (add-one count) (take-suc-set out count n (omega (arith, s.rest.room))) in
        let f : take count out ≡ numbers = s.same ∙ take_all most numbers (omega arith) in
        rw (lt-ltb count most l)
        (record {
          rest = record {
            room = length-set out count n ∙ s.rest.room;
            zero = λ i h. get_or-set_other out count i n 0 (λ e. omega (arith, e, h)) ∙ s.rest.zero i (omega arith);
          };
          many = omega arith;
          same = e ∙ rw f (sym (take_all most (numbers ++ (n ∷ [])) (omega arith)));
        })

    full : (count < most → ⊥) → Stored (put_after out count n) (count_after count) (numbers ++ (n ∷ []))
    full l =
        rw (le-ltb count most (omega arith))
        (record {
          rest = s.rest;
          many = omega (arith, s.many, length-append numbers (n ∷ []));
          same = s.same ∙ sym (take-append-le most numbers (n ∷ []) (omega (arith, s.many)));
        })

-- The bytes are a list of numbers where those from `at` on are, and only there: then it begins with the numbers read.
pub record Reading (bytes out : List ℕ) (at count : ℕ) : Type 0 where
  pub done : List ℕ
  pub onward : (rest : List ℕ) → at ≤ length bytes → NumberText (drop at bytes) rest → NumberText bytes (done ++ rest)
  pub back : (numbers : List ℕ) → NumberText bytes numbers → Left bytes at done numbers
  pub stored : Stored out count done

-- before the first number
pub reading-start : (bytes : List ℕ) {out : List ℕ} → ZeroFrom 0 out → Reading bytes out 0 0
reading-start bytes e = record {
  done = [];
  onward = λ rest h t. t;
  back = λ numbers t. record { inside = omega arith; rest = numbers; split = refl; text = t };
  stored = record { rest = e; many = refl; same = refl };
}

-- one number more, with what follows it
next_of : {bytes out : List ℕ} {at count : ℕ} → Reading bytes out at count → at < length bytes →
    Reading bytes (put_after out count (number_at bytes at)) (next_at bytes at) (count_after count)
next_of {bytes} {out} {at} {count} r h = record {
  done = r.done ++ (number_at bytes at ∷ []);
  onward = λ rest l t. rw append_assoc (r.onward (number_at bytes at ∷ rest) (omega arith) (put_first bytes at (omega arith) l t));
  back = λ numbers t.
      let b = r.back numbers t in
      let x = taken bytes at b.text refl h in
      let e = ap (λ (l : List ℕ). r.done ++ l) x.split ∙ sym (append_assoc r.done (number_at bytes at ∷ []) x.rest) in
      record { inside = x.inside; rest = x.rest; split = b.split ∙ e; text = x.text };
  stored = stored_next (number_at bytes at) r.stored;
}

-- the same of what a turn of the loop leaves
pub reading-next : {bytes out store : List ℕ} {at count n next many : ℕ} → Reading bytes out at count → at < length bytes →
    n ≡ number_at bytes at → next ≡ next_at bytes at → many ≡ count_after count → store ≡ put_after out count n → Reading bytes store next many
reading-next r h n e k p = rw (p, k, e, n) (next_of r h)

-- at the end of the bytes nothing is left to read
pub reading-end : {bytes out : List ℕ} {at count : ℕ} → Reading bytes out at count → at ≡ length bytes →
    ReadsNumbers bytes (record { count = count; good = true }) out
reading-end {bytes} {out} {at} {count} r h = record {
  good = (λ e. (r.done ++ [], r.onward [] (omega arith) (rw (drop_of_length-le bytes {i = at} (omega arith)) none)), λ x. refl);
  count = λ numbers t. rw (all numbers t) r.stored.many;
  stored = λ numbers t. rw (all numbers t) r.stored.same;
  none = λ e. absurd (true≢false e);
  rest = r.stored.rest;
  few = omega (arith, r.stored.many, r.stored.rest.room);
}
  where
    all : (numbers : List ℕ) → NumberText bytes numbers → numbers ≡ r.done
    all numbers t =
        let b = r.back numbers t in
        b.split ∙ rw (empty-text b.text (omega (arith, length-drop at bytes)), append-nil)

-- past it the bytes are no list
pub reading-past : {bytes out cleared : List ℕ} {at count : ℕ} → Reading bytes out at count → length bytes < at → ZeroFrom 0 cleared →
    ReadsNumbers bytes (record { count = 0; good = false }) cleared
reading-past {bytes} {out} {cleared} {at} r h z = record {
  good = (λ e. absurd (true≢false (sym e)), λ x. absurd (no-list x.0 x.1));
  count = λ numbers t. absurd (no-list numbers t);
  stored = λ numbers t. absurd (no-list numbers t);
  none = λ e. refl;
  rest = z;
  few = omega arith;
}
  where
    no-list : (numbers : List ℕ) → NumberText bytes numbers → ⊥
    no-list numbers t = omega (arith, (r.back numbers t).inside)

-- room that is cleared
zeros : (n i : ℕ) → get_or {A = ℕ} (replicate n 0) i 0 ≡ 0
zeros zero i = refl
zeros (suc n) zero = refl
zeros (suc n) (suc i) = zeros n i

pub cleared : ZeroFrom 0 (replicate most 0)
cleared = record { room = refl; zero = λ i h. zeros most i }

-- Where fewer than 67 are handed out they are all.
pub all-stored : {bytes out numbers : List ℕ} {r : Numbers} → ReadsNumbers bytes r out → NumberText bytes numbers → r.count < most →
    (r.count ≡ length numbers) × (take r.count out ≡ numbers)
all-stored {bytes} {out} {numbers} {r} s t l =
    let e : r.count ≡ length numbers = omega (arith, s.count numbers t) in
    (e, s.stored numbers t ∙ take_all most numbers (omega arith))
