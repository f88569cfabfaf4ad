-- Books that can be joined in some way can be joined one after another, those whose headers count unscored loans first. Assumes nothing.
use mathlib.Core.Path.{◌≡◌, refl, sym, ◌∙◌, ap}
use mathlib.Core.List.Memᴰ
use mathlib.Core.List.Permᴰ
use mathlib.Core.List.{List, [], ◌∷◌, ◌++◌, Memᴰ, Permᴰ}
use mathlib.Core.Logic.Iff
use mathlib.Core.Logic.{◌↔◌, ◌⊎◌, inl, inr, ⊎_elim}
use Prim.Native.Nat.{ℕ, ◌+◌, ◌*◌, ◌≤◌, ◌<◌}
use native.Mathlib.Omega.{arith}
use native.Mathlib.Decide.{dec_le}
use Rattle.line_forms.specs.declared.Header.{Header}
use Rattle.book_model.specs.Calls.{State, Sound}
use Rattle.book_model.specs.Joining.{joined_header, KeepsChoices, MayJoin, joined_state, joining}
use Rattle.book_model.specs.JoiningLaws.{Grouping, alone, together, AllSound, UnscoredFirst}
use Rattle.book_model.proofs.AsOneBook.{permuted-member}
use Rattle.book_model.proofs.Groupings.{books_sum, sum_both, sum-permuted, group-sound, group-agrees, part-agrees}
use Rattle.book_model.proofs.JoinedParts.{keeps-own, joined-state}
use Rattle.book_model.proofs.Joining.{number, may-forth, may-back, test_zero, joined-when}

-- Numbers that joining adds

abbrev loans_of : State → ℕ
loans_of s = s.book.header.loans

abbrev unscored_of : State → ℕ
unscored_of s = s.book.header.unscored

abbrev fresh_of : State → ℕ
fresh_of s = s.book.header.fresh

abbrev held_of : State → ℕ
held_of s = s.book.header.held

abbrev other_of : State → ℕ
other_of s = s.book.sums.counts.other

group-sum : (f : State → ℕ) → ((a b : State) → f (joined_state a b) ≡ f a + f b) → {xs : List State} {a : State} → Grouping xs a → f a ≡ books_sum f xs
unfolding books_sum
group-sum f e (alone s) = omega arith
group-sum f e (together {xs} {ys} {a} {b} g k z) =
    omega (arith, ap f (joined-state a b z), e a b, group-sum f e g, group-sum f e k, sum_both f xs ys)

-- what holds of each book holds of the sums
sum-linear : (p q r : ℕ) (f g h : State → ℕ) (xs : List State) → ((s : State) → Memᴰ s xs → p * f s + q * g s ≤ r * h s) →
    p * books_sum f xs + q * books_sum g xs ≤ r * books_sum h xs
unfolding books_sum
sum-linear p q r f g h [] e = omega arith
sum-linear p q r f g h (s ∷ xs) e = omega (arith, e s (Memᴰ.head refl), sum-linear p q r f g h xs (λ u m. e u (Memᴰ.tail m)))

-- Each book keeps its choices in the book of all

record Member (a s : State) : Type 0 where
  sound : Sound s
  loans : loans_of s ≤ loans_of a
  unscored : unscored_of s ≤ unscored_of a
  choices : KeepsChoices s.book.header a.book.header

keeps-chain : {g h j : Header} → g.loans ≤ h.loans → g.unscored ≤ h.unscored → KeepsChoices g h → KeepsChoices h j → KeepsChoices g j
keeps-chain l u a b = record {
  column = λ x. Iff.trans (a.column x) (b.column (omega (arith, x, l)));
  factor = λ x y. Iff.trans (a.factor x y) (b.factor (omega (arith, x, l)) (omega (arith, y, u)));
}

member : {xs : List State} {a : State} → AllSound xs → Grouping xs a → (s : State) → Memᴰ s xs → Member a s
member h (alone u) s m =
    rw (Memᴰ.eq_of_singleton m)
    (record { sound = h u (Memᴰ.head refl); loans = omega arith; unscored = omega arith; choices = keeps-own u.book.header })
member h (together {xs} {ys} {a} {b} g k z) s m =
    let left : AllSound xs = λ s m. h s (Memᴰ.append_left ys m) in
    let right : AllSound ys = λ s m. h s (Memᴰ.append_right xs m) in
    let c : MayJoin a b = may-forth a b (group-sound left g) (group-sound right k) (test_zero a b z) in
    rw (joined-state a b z) (⊎_elim
    (λ i. let r = member left g s i in record {
      sound = r.sound;
      loans = omega (arith, r.loans);
      unscored = omega (arith, r.unscored);
      choices = keeps-chain r.loans r.unscored r.choices c.first;
    })
    (λ i. let r = member right k s i in record {
      sound = r.sound;
      loans = omega (arith, r.loans);
      unscored = omega (arith, r.unscored);
      choices = keeps-chain r.loans r.unscored r.choices c.second;
    })
    (Memᴰ.append_cases xs m))

-- Some of the books, and a header that counts what theirs do. Where the book of all charges its unscored loans 3.0, a group of them does so too if each
-- of them counts some, or if it has all that there are.
record Part (a : State) (xs : List State) (h : Header) : Type 0 where
  members : (s : State) → Memᴰ s xs → Member a s
  loans : h.loans ≡ books_sum loans_of xs
  unscored : h.unscored ≡ books_sum unscored_of xs
  fresh : h.fresh ≡ books_sum fresh_of xs
  place : 1 ≤ h.unscored → ((s : State) → Memᴰ s xs → 1 ≤ unscored_of s) ⊎ ((h.unscored ≡ unscored_of a) × (h.loans ≤ loans_of a))

module _ {a : State} {xs : List State} {h : Header} (p : Part a xs h) where
  all-fresh : 9 * loans_of a ≤ 10 * fresh_of a → 9 * h.loans ≤ 10 * h.fresh
  all-fresh e =
      let each : (s : State) → Memᴰ s xs → 9 * loans_of s + 0 * loans_of s ≤ 10 * fresh_of s = λ s m. elim (dec_le 1 (loans_of s)) [
        | yes k ↦ omega (arith, ((p.members s m).choices.column k).1 e)
        | no k ↦ omega arith
      ] in
      omega (arith, sum-linear 9 0 10 loans_of loans_of fresh_of xs each, p.loans, p.fresh)

  -- a header counts at most a million loans, so that less is less by a millionth of them
  all-aged : 10 * fresh_of a < 9 * loans_of a → 1 ≤ h.loans → 10 * h.fresh < 9 * h.loans
  all-aged e l =
      let each : (s : State) → Memᴰ s xs → 1 * loans_of s + 10000000 * fresh_of s ≤ 9000000 * loans_of s = λ s m.
      let b = (p.members s m).sound.book in
      elim (dec_le 1 (loans_of s)) [
        | yes k ↦ elim (dec_le (9 * loans_of s) (10 * fresh_of s)) [
          | yes i ↦ absurd (omega (arith, ((p.members s m).choices.column k).0 i))
          | no i ↦ omega (arith, b.header_loans)
        ]
        | no k ↦ omega (arith, b.header_scores)
      ] in
      omega (arith, sum-linear 1 10000000 9000000 loans_of fresh_of loans_of xs each, p.loans, p.fresh)

  column-kept : 1 ≤ h.loans → (9 * h.loans ≤ 10 * h.fresh) ↔ (9 * loans_of a ≤ 10 * fresh_of a)
  column-kept l = (
    λ e. elim (dec_le (9 * loans_of a) (10 * fresh_of a)) [ yes k ↦ k | no k ↦ absurd (omega (arith, all-aged (omega arith) l)) ],
    all-fresh,
  )

  all-few : 20 * unscored_of a ≤ loans_of a → 20 * h.unscored ≤ h.loans
  all-few e =
      let each : (s : State) → Memᴰ s xs → 20 * unscored_of s + 0 * loans_of s ≤ 1 * loans_of s = λ s m.
      let b = (p.members s m).sound.book in
      elim (dec_le 1 (unscored_of s)) [
        | yes k ↦ elim (dec_le (20 * unscored_of s) (loans_of s)) [
          | yes i ↦ omega arith
          | no i ↦ absurd (omega (arith, ((p.members s m).choices.factor (omega (arith, b.header_scores)) k).0 (omega arith)))
        ]
        | no k ↦ omega arith
      ] in
      omega (arith, sum-linear 20 0 1 unscored_of loans_of loans_of xs each, p.loans, p.unscored)

  all-many : loans_of a < 20 * unscored_of a → 1 ≤ h.unscored → h.loans < 20 * h.unscored
  all-many e u = ⊎_elim
      (λ some.
      let each : (s : State) → Memᴰ s xs → 1000000 * loans_of s + 1 * unscored_of s ≤ 20000000 * unscored_of s = λ s m.
      let b = (p.members s m).sound.book in
      omega (
        arith,
        some s m,
        b.header_loans,
        b.header_scores,
        ((p.members s m).choices.factor (omega (arith, b.header_scores, some s m)) (some s m)).1 e,
      ) in
      omega (arith, sum-linear 1000000 1 20000000 loans_of unscored_of unscored_of xs each, p.loans, p.unscored))
      (λ (v, l). omega (arith, v, l))
      (p.place u)

  factor-kept : 1 ≤ h.unscored → (h.loans < 20 * h.unscored) ↔ (loans_of a < 20 * unscored_of a)
  factor-kept u = (
    λ e. elim (dec_le (20 * unscored_of a) (loans_of a)) [ yes k ↦ absurd (omega (arith, all-few k)) | no k ↦ omega arith ],
    λ e. all-many e u,
  )

-- so a part of a part keeps its choices
part-keeps : {a : State} {xs ys : List State} {g h : Header} → Part a xs g → Part a ys h → g.loans ≤ h.loans → g.unscored ≤ h.unscored → KeepsChoices g h
part-keeps p q l u = record {
  column = λ x. Iff.trans (column-kept p x) (Iff.symm (column-kept q (omega (arith, x, l))));
  factor = λ x y. Iff.trans (factor-kept p y) (Iff.symm (factor-kept q (omega (arith, y, u))));
}

-- The next book

-- Where its header counts unscored loans, so does that of each before it; where it counts none, neither does that of any after it.
record InItsPlace (before : List State) (u : State) (after : List State) : Type 0 where
  earlier : 1 ≤ unscored_of u → (s : State) → Memᴰ s before → 1 ≤ unscored_of s
  later : unscored_of u ≡ 0 → (s : State) → Memᴰ s after → unscored_of s ≡ 0

in-its-place : (before : List State) {u : State} {after : List State} → UnscoredFirst (before ++ (u ∷ after)) → InItsPlace before u after
unfolding UnscoredFirst
in-its-place [] h = record { earlier = λ k s m. absurd (Memᴰ.not-nil m); later = h.0 }
in-its-place (v ∷ before) {u} {after} h =
    let r = in-its-place before {u = u} {after = after} h.1 in
    let own : 1 ≤ unscored_of u → 1 ≤ unscored_of v = λ k. elim (dec_le 1 (unscored_of v)) [
      | yes l ↦ l
      | no l ↦ absurd (omega (arith, h.0 (omega arith) u (Memᴰ.append_right before (Memᴰ.head refl))))
    ] in
    record {
      earlier = λ k s m. ⊎_elim (λ e. rw e (own k)) (λ n. r.earlier k s n) (Memᴰ.cases_cons m);
      later = r.later;
    }

module _ (before : List State) (u : State) (after : List State) {xs : List State} {a s : State} (h : AllSound xs) (g : Grouping xs a)
    (p : Permᴰ xs (before ++ (u ∷ after))) (o : UnscoredFirst (before ++ (u ∷ after))) (f : Grouping before s) where
  placed : InItsPlace before u after
  placed = in-its-place before o

  earlier : (v : State) → Memᴰ v before → Memᴰ v xs
  earlier v m = permuted-member (Permᴰ.symm p) v (Memᴰ.append_left (u ∷ after) m)

  own : Memᴰ u xs
  own = permuted-member (Permᴰ.symm p) u (Memᴰ.append_right before (Memᴰ.head refl))

  -- the book of all has what the three parts have
  whole : (n : State → ℕ) → ((a b : State) → n (joined_state a b) ≡ n a + n b) → n a ≡ n s + n u + books_sum n after
  unfolding books_sum
  whole n e = omega (arith, group-sum n e g, sum-permuted n p, sum_both n before (u ∷ after), group-sum n e f)

  none-later : unscored_of u ≡ 0 → unscored_of s ≡ unscored_of a
  none-later e =
      let none : 1 * books_sum unscored_of after + 0 * books_sum unscored_of after ≤ 0 * books_sum unscored_of after =
      sum-linear 1 0 0 unscored_of unscored_of unscored_of after (λ v m. omega (arith, placed.later e v m)) in
      omega (arith, whole unscored_of (λ a b. refl), none, e)

  before-part : Part a before s.book.header
  before-part = record {
    members = λ v m. member h g v (earlier v m);
    loans = group-sum loans_of (λ a b. refl) f;
    unscored = group-sum unscored_of (λ a b. refl) f;
    fresh = group-sum fresh_of (λ a b. refl) f;
    place = λ y. elim (dec_le 1 (unscored_of u)) [
      | yes k ↦ inl (placed.earlier k)
      | no k ↦ inr (none-later (omega arith), omega (arith, whole loans_of (λ a b. refl)))
    ];
  }

  own-part : Part a (u ∷ []) u.book.header
  unfolding books_sum
  own-part = record {
    members = λ v m. rw (Memᴰ.eq_of_singleton m) (member h g u own);
    loans = omega arith;
    unscored = omega arith;
    fresh = omega arith;
    place = λ y. inl (λ v m. rw (Memᴰ.eq_of_singleton m) y);
  }

  both-part : Part a (u ∷ before) (joined_header s u)
  unfolding books_sum
  both-part = record {
    members = λ v m. ⊎_elim (λ e. rw e (member h g u own)) (λ k. member h g v (earlier v k)) (Memᴰ.cases_cons m);
    loans = omega (arith, before-part.loans);
    unscored = omega (arith, before-part.unscored);
    fresh = omega (arith, before-part.fresh);
    place = λ y. elim (dec_le 1 (unscored_of u)) [
      | yes k ↦ inl (λ v m. ⊎_elim (λ e. rw e k) (λ j. placed.earlier k v j) (Memᴰ.cases_cons m))
      | no k ↦ inr (omega (arith, none-later (omega arith)), omega (arith, whole loans_of (λ a b. refl)))
    ];
  }

  may-next : MayJoin s u
  may-next =
      let w = (group-sound h g).book in
      let x = part-agrees h g earlier f in
      let y = group-agrees h g u own in
      record {
        factors = x.factors ∙ sym y.factors;
        index = x.index ∙ sym y.index;
        loans = omega (arith, whole loans_of (λ a b. refl), w.header_loans);
        held = omega (arith, whole held_of (λ a b. refl), w.held);
        lines = omega (arith, whole other_of (λ a b. refl), x.indexed, w.other);
        first = part-keeps before-part both-part (omega arith) (omega arith);
        second = part-keeps own-part both-part (omega arith) (omega arith);
      }

  pub unscored_first : (joining s u).refusal ≡ 0
  unscored_first =
      let sound-s = group-sound (λ v m. h v (earlier v m)) f in
      number (joined-when s u (may-back s u sound-s (h u own) may-next))
