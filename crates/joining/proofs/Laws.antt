-- Tests and tables as the functions go through them. Assumes nothing.
use mathlib.Core.Path.{◌≡◌, refl, sym, ◌∙◌, ap, subst}
use mathlib.Core.Bool.{Bool, true, false, true≢false, beq}
use mathlib.Core.List.{List, ◌++◌, append-nil}
use Prim.Native.Nat.{ℕ, suc, ◌+◌, ◌-◌, ◌*◌, ◌/◌, ◌^◌, ◌≤◌, ◌<◌}
use native.Mathlib.Omega.{arith}
use native.Mathlib.Numerals.{add-one}
use lib.Dec.{ltb}
use lib.ListN.{length, set, replicate}
use borrow.Author.Tests.{lt-ltb, le-ltb, ltb-true, ltb-false}
use Rattle.std.specs.Prelude.{nat_eq}
use Rattle.std.specs.Cmp.Lexicographic.{pointwise, same_text, other_text}
use Rattle.book_model.specs.declared.Book.{Book}
use Rattle.book_model.specs.Calls.{State, Answer, empty_state, SoundBook, Sound}
use Rattle.book_model.specs.Cells.{CellsBounded}
use Rattle.book_model.specs.Joining.{same_places, alike, may_join_lem, places, joined_state, joining}
use Rattle.book_model.specs.Terms.{refused_terms}
use Rattle.book_model.proofs.Cells.{bounded-wider}
use Rattle.book_model.proofs.Joining.{may-forth, joined-when, refused-when, joining-sound}
use Rattle.book_model.proofs.Places.{places-next, same_tables}

-- whether two tables are equal, place by place
pub places-equal : (n : ℕ) (xs ys : List ℕ) → length xs ≡ n → length ys ≡ n → pointwise nat_eq xs ys ≡ same_places n xs ys
places-equal n xs ys e f = go (pointwise nat_eq xs ys) refl (same_places n xs ys) refl
  where
    go : (p : Bool) → p ≡ pointwise nat_eq xs ys → (q : Bool) → q ≡ same_places n xs ys → p ≡ q
    go true a true b = refl
    go false a false b = refl
    go true a false b = absurd (true≢false (sym ((same_tables n xs ys e f).1 (same_text xs ys a)) ∙ sym b))
    go false a true b = absurd (other_text xs ys a ((same_tables n xs ys e f).0 (sym b)))

-- whether two tests gave the same
pub same-answer : (x y : Bool) → beq x y ≡ alike x y
same-answer true true = refl
same-answer true false = refl
same-answer false true = refl
same-answer false false = refl

-- a twentieth, rounded down, with no product
pub twentieth : (loans unscored : ℕ) → ltb (loans / 20) unscored ≡ ltb loans (20 * unscored)
twentieth loans unscored = go (ltb (loans / 20) unscored) refl
  where
    go : (t : Bool) → ltb (loans / 20) unscored ≡ t → t ≡ ltb loans (20 * unscored)
    go true e = sym (lt-ltb loans (20 * unscored) (omega (arith, ltb-true (loans / 20) unscored e)))
    go false e = sym (le-ltb loans (20 * unscored) (omega (arith, ltb-false (loans / 20) unscored e)))

-- a table of which i places are filled, and one more
abbrev pub filled : ℕ → (ℕ → ℕ) → List ℕ
filled i f = places i f ++ replicate (240 - i) 0

pub filled_next : (t : List ℕ) (f : ℕ → ℕ) (i : ℕ) → i < 240 → t ≡ filled i f → set t i (f i) ≡ filled (i + 1) f
filled_next t f i h e =
    let left : 240 - i ≡ suc (240 - (i + 1)) = omega (arith, h) in
    ap (λ (l : List ℕ). set l i (f i)) (e ∙ ap (λ (m : ℕ). places i f ++ replicate m 0) left) ∙ places-next f i (240 - (i + 1))
    ∙ ap (λ (m : ℕ). places m f ++ replicate (240 - (i + 1)) 0) (sym (add-one i))

pub filled-whole : (t : List ℕ) (f : ℕ → ℕ) (i : ℕ) → i ≡ 240 → t ≡ filled i f → t ≡ places 240 f
filled-whole t f i h e = e ∙ ap (λ (m : ℕ). filled m f) h ∙ append-nil (places 240 f)

-- What `join` asks of its parts

pub cells-small : (s : State) → Sound s → CellsBounded s.cells 4000000
cells-small s h = bounded-wider s.cells (omega (arith, h.book.loans, h.book.header_loans)) h.cells

pub book-asks : (a b : State) → Sound a → Sound b → may_join_lem a b ≡ true →
    SoundBook a.book × SoundBook b.book × (a.book.header.loans + b.book.header.loans ≤ 1000000)
    × (a.book.sums.counts.other + b.book.sums.counts.other ≤ 100000)
book-asks a b x y e =
    let c = may-forth a b x y e in
    (x.book, y.book, c.loans, omega (arith, c.lines))

pub lines_fit : (a b : Book) → SoundBook a → SoundBook b → a.sums.counts.other + b.sums.counts.other + a.indexed < 2 ^ 64
lines_fit a b x y = omega (arith, x.other, y.other)

-- What `join` gives: its answer and the book
module _ (a b : State) (x : Sound a) (y : Sound b) where
  abbrev Gives : ℕ → State → Type 0
  Gives n s = (record { refusal = n; state = s } ≡ joining a b) × Sound s

  gives : {n : ℕ} {s : State} → record { refusal = n; state = s } ≡ joining a b → Gives n s
  gives e = (e, subst (λ (z : Answer). Sound z.state) (sym e) (joining-sound a b x y))

  pub gives-joined : may_join_lem a b ≡ true → {s : State} → s ≡ joined_state a b → Gives 0 s
  gives-joined t f = gives ((λ i. record { refusal = 0; state = f i }) ∙ sym (joined-when a b t))

  pub gives-refused : may_join_lem a b ≡ false → {s : State} → s ≡ empty_state refused_terms → Gives 16 s
  gives-refused t f = gives ((λ i. record { refusal = 16; state = f i }) ∙ sym (refused-when a b t))
