-- Ways to join a list of books. Assumes nothing.
use mathlib.Core.Path.{◌≡◌, refl, sym, ◌∙◌, ap, ap₂}
use mathlib.Core.List.Memᴰ
use mathlib.Core.List.Permᴰ
use mathlib.Core.List.{List, [], ◌∷◌, ◌++◌, Memᴰ, Permᴰ}
use mathlib.Core.Logic.{◌⊎◌, inl, inr, ⊎_elim}
use Prim.Native.Nat.{ℕ, ◌+◌, ◌≤◌}
use native.Mathlib.Omega.{arith}
use Rattle.figures.specs.Sums.{no_sums}
use Rattle.book_model.specs.Calls.{State, state_at, Sound}
use Rattle.book_model.specs.Cells.{empty_cells}
use Rattle.book_model.specs.Joining.{MayJoin, joined_state}
use Rattle.book_model.specs.JoiningLaws.{without_marks, Grouping, alone, together, AllSound}
use Rattle.book_model.specs.Marks.{no_marks}
use Rattle.book_model.specs.Terms.{zero_header}
use Rattle.book_model.proofs.AsOneBook.{permuted-member}
use Rattle.book_model.proofs.JoinedParts.{Agrees, same_count, state-comm, state-assoc, state-none, no-marks, joined-state}
use Rattle.book_model.proofs.Joining.{may-forth, test_zero, joining-sound}

-- A number of each book, added up

unfoldable pub books_sum : (State → ℕ) → List State → ℕ
books_sum f [] = 0
books_sum f (s ∷ books) = f s + books_sum f books

pub sum_both : (f : State → ℕ) (xs ys : List State) → books_sum f (xs ++ ys) ≡ books_sum f xs + books_sum f ys
unfolding books_sum
sum_both f [] ys = omega arith
sum_both f (s ∷ xs) ys = omega (arith, sum_both f xs ys)

pub sum-permuted : (f : State → ℕ) {xs ys : List State} → Permᴰ xs ys → books_sum f xs ≡ books_sum f ys
unfolding books_sum
sum-permuted f Permᴰ.nil = refl
sum-permuted f (Permᴰ.cons e p) = omega (arith, ap f e, sum-permuted f p)
sum-permuted f (Permᴰ.swap e g) = omega (arith, ap f e, ap f g)
sum-permuted f (Permᴰ.trans p q) = sum-permuted f p ∙ sum-permuted f q

-- The books of a list joined onto another, the last of them first, whatever conditions are wanting

joined_onto : List State → State → State
joined_onto [] t = t
joined_onto (s ∷ books) t = joined_state s (joined_onto books t)

onto-both : (xs ys : List State) (t : State) → joined_onto xs (joined_onto ys t) ≡ joined_onto (xs ++ ys) t
unfolding joined_onto
onto-both [] ys t = refl
onto-both (s ∷ xs) ys t = ap (joined_state s) (onto-both xs ys t)

-- A group joined onto a book is as its books so joined,
group-onto : {xs : List State} {a : State} → Grouping xs a → (t : State) → joined_state a t ≡ joined_onto xs t
unfolding joined_onto
group-onto (alone s) t = refl
group-onto (together {xs} {ys} {a} {b} g f z) t =
    ap (λ (x : State). joined_state x t) (joined-state a b z) ∙ state-assoc a b t ∙ ap (joined_state a) (group-onto f t)
    ∙ group-onto g (joined_onto ys t) ∙ onto-both xs ys t

-- and these in whatever order, where they agree.
abbrev AllAgree : List State → Type 0
AllAgree books = (s u : State) → Memᴰ s books → Memᴰ u books → Agrees s u

onto-permuted : {xs ys : List State} (t : State) → AllAgree xs → Permᴰ xs ys → joined_onto xs t ≡ joined_onto ys t
unfolding joined_onto
onto-permuted t h Permᴰ.nil = refl
onto-permuted t h (Permᴰ.cons e p) = ap₂ joined_state e (onto-permuted t (λ s u m n. h s u (Memᴰ.tail m) (Memᴰ.tail n)) p)
onto-permuted t h (Permᴰ.swap {a} {b} {a'} {b'} {l} e f) =
    sym (state-assoc a b (joined_onto l t))
    ∙ ap (λ (x : State). joined_state x (joined_onto l t)) (state-comm (h a b (Memᴰ.head refl) (Memᴰ.tail (Memᴰ.head refl))))
    ∙ state-assoc b a (joined_onto l t) ∙ ap₂ (λ (x y : State). joined_state x (joined_state y (joined_onto l t))) f e
onto-permuted t h (Permᴰ.trans p q) =
    onto-permuted t h p ∙ onto-permuted t (λ s u m n. h s u (permuted-member (Permᴰ.symm p) s m) (permuted-member (Permᴰ.symm p) u n)) q

-- What is known of the books of a group

pub group-sound : {xs : List State} {a : State} → AllSound xs → Grouping xs a → Sound a
group-sound h (alone s) = h s (Memᴰ.head refl)
group-sound h (together {xs} {ys} {a} {b} g f z) =
    joining-sound a b (group-sound (λ s m. h s (Memᴰ.append_left ys m)) g) (group-sound (λ s m. h s (Memᴰ.append_right xs m)) f)

a-book : {xs : List State} {a : State} → Grouping xs a → (s : State) × Memᴰ s xs
a-book (alone s) = (s, Memᴰ.head refl)
a-book (together {xs} {ys} g f z) = let (s, m) = a-book g in (s, Memᴰ.append_left ys m)

-- what each has in common with the book of all
pub group-agrees : {xs : List State} {a : State} → AllSound xs → Grouping xs a → (s : State) → Memᴰ s xs → Agrees s a
group-agrees h (alone u) s m = rw (Memᴰ.eq_of_singleton m) (record { factors = refl; index = refl; indexed = refl })
group-agrees h (together {xs} {ys} {a} {b} g f z) s m =
    let left : AllSound xs = λ s m. h s (Memᴰ.append_left ys m) in
    let right : AllSound ys = λ s m. h s (Memᴰ.append_right xs m) in
    let x = group-sound left g in
    let y = group-sound right f in
    let c : MayJoin a b = may-forth a b x y (test_zero a b z) in
    rw (joined-state a b z) (⊎_elim
    (λ k. let r = group-agrees left g s k in record { factors = r.factors; index = r.index; indexed = r.indexed })
    (λ k. let r = group-agrees right f s k in record {
      factors = r.factors ∙ sym c.factors;
      index = r.index ∙ sym c.index;
      indexed = r.indexed ∙ sym (same_count x y c.index);
    })
    (Memᴰ.append_cases xs m))

-- and so the book of some of them
pub part-agrees : {xs ys : List State} {a b : State} → AllSound xs → Grouping xs a → ((s : State) → Memᴰ s ys → Memᴰ s xs) → Grouping ys b → Agrees b a
part-agrees h g i f =
    let (s, m) = a-book f in
    let x = group-agrees h g s (i s m) in
    let y = group-agrees (λ u n. h u (i u n)) f s m in
    record { factors = sym y.factors ∙ x.factors; index = sym y.index ∙ x.index; indexed = sym y.indexed ∙ x.indexed }

all-agree : {xs : List State} {a : State} → AllSound xs → Grouping xs a → AllAgree xs
all-agree h g s u m n =
    let x = group-agrees h g s m in
    let y = group-agrees h g u n in
    record { factors = x.factors ∙ sym y.factors; index = x.index ∙ sym y.index; indexed = x.indexed ∙ sym y.indexed }

-- only a book alone keeps its marks
abbrev many : List State → ℕ
many = books_sum (λ s. 1)

some-books : {xs : List State} {a : State} → Grouping xs a → 1 ≤ many xs
unfolding books_sum
some-books (alone s) = omega arith
some-books (together {xs} {ys} g f z) = omega (arith, some-books g, sum_both (λ s. 1) xs ys)

MarksKept : List State → State → Type 0
MarksKept xs a = (xs ≡ (a ∷ [])) ⊎ ((a.marks ≡ no_marks) × (2 ≤ many xs))

marks-kept : {xs : List State} {a : State} → Grouping xs a → MarksKept xs a
unfolding MarksKept
marks-kept (alone s) = inl refl
marks-kept (together {xs} {ys} {a} {b} g f z) =
    inr (ap (λ (s : State). s.marks) (joined-state a b z), omega (arith, some-books g, some-books f, sum_both (λ s. 1) xs ys))

-- Any two ways

-- a book to join onto that changes nothing
abbrev nothing : State
nothing = state_at (record { header = zero_header; sums = no_sums; indexed = 0 }) [] empty_cells [] no_marks

pub any_grouping : {xs ys : List State} {a b : State} → AllSound xs → Permᴰ xs ys → Grouping xs a → Grouping ys b → a ≡ b
unfolding MarksKept books_sum
any_grouping {xs} {ys} {a} {b} h p g f = go (marks-kept g) (marks-kept f)
  where
    sound-b : Sound b
    sound-b = group-sound (λ s m. h s (permuted-member (Permᴰ.symm p) s m)) f

    same : without_marks a ≡ without_marks b
    same =
        sym (state-none a nothing (group-sound h g).cells_size_law refl refl refl) ∙ group-onto g nothing
        ∙ onto-permuted nothing (all-agree h g) p ∙ sym (group-onto f nothing) ∙ state-none b nothing sound-b.cells_size_law refl refl refl

    go : MarksKept xs a → MarksKept ys b → a ≡ b
    go (inl d) (inl e) = Memᴰ.eq_of_singleton (rw e at (permuted-member p a (rw d (Memᴰ.head refl))))
    go (inl d) (inr (n, l)) = absurd (omega (arith, ap many d, l, sum-permuted (λ s. 1) p))
    go (inr (m, k)) (inl e) = absurd (omega (arith, ap many e, k, sum-permuted (λ s. 1) p))
    go (inr (m, k)) (inr (n, l)) = sym (no-marks a m) ∙ same ∙ no-marks b n
