-- What the loops over rows and numbers leave, over lists alone. Assumes nothing.
use mathlib.Core.Path.{◌≡◌, refl, sym, ◌∙◌, ap}
use mathlib.Core.Bool.{Bool, true, false, cond}
use mathlib.Core.List.{List, [], ◌++◌, append_assoc, append-nil}
use Prim.Native.Nat.{ℕ, suc, ◌+◌, ◌≤◌}
use native.Mathlib.Omega.{arith}
use lib.Dec.{ltb}
use lib.ListN.{length, take, drop, length-drop, length-append, length-replicate, drop_of_length-le}
use lib.Seq.{take_at, drop-append-add}
use Rattle.std.specs.Prelude.{◌==◌, Some, None, unwrap_or, position, slice_index}
use Rattle.std.specs.List.{position_or_len}
use Rattle.std.proofs.lemmas.List.Recursion.{is_position_or_len}
use Rattle.std.proofs.lemmas.List.Sums.{prefix_len-le-length}
use Rattle.exact.specs.Choice.{pick}
use Rattle.book_model.specs.Marks.{place_among, names_in, name_in, empty_row}

-- the first row of a name, where there is one
pub place-found : (name : ℕ) (rows : List (List ℕ)) →
    unwrap_or (position (λ (row : List ℕ). slice_index row 0 == name) rows) (length rows) ≡ place_among name (names_in rows)
unfolding place_among names_in name_in
place-found name rows =
    at-most (position_or_len named rows) (length rows) (prefix_len-le-length _ rows)
    ∙ sym (is_position_or_len (λ (x : List (List ℕ)). place_among name (names_in x)) named refl (λ row x. step (named row) (place_among name (names_in x))) rows)
  where
    named : List ℕ → Bool
    named row = slice_index row 0 == name

    at-most : (n m : ℕ) → n ≤ m → unwrap_or (cond (ltb n m) (Some n) None) m ≡ n
    at-most n m h = grind arith

    step : (test : Bool) (n : ℕ) → pick test 0 (suc n) ≡ cond test 0 (1 + n)
    step true n = refl
    step false n = omega arith

pub no-row-length : length empty_row ≡ 1844
unfolding empty_row
no-row-length = length-replicate {A = ℕ} 1844 0

-- the numbers of a part in a row, from a place on
abbrev put : List ℕ → ℕ → List ℕ → List ℕ
put row at part = take at row ++ (part ++ drop (at + length part) row)

put-after : (done rest part : List ℕ) (n : ℕ) → length done ≡ n → put (done ++ rest) n part ≡ done ++ part ++ drop (length part) rest
put-after done rest part n e =
    rw (← e, take_at done rest (length done) refl, drop-append-add done rest (length part)) (sym (append_assoc done part (drop (length part) rest)))

-- three parts, each put after the one before, are the whole row
pub laid : (x y z row one two three : List ℕ) → length x ≡ 20 → length y ≡ 240 → length z ≡ 1584 → length row ≡ 1844 →
    one ≡ put row 0 x → two ≡ put one 20 y → three ≡ put two 260 z → three ≡ x ++ (y ++ z)
laid x y z row one two three ex ey ez er e f g =
    let more = drop (length x) row in
    let rest = drop (length y) more in
    let h : one ≡ x ++ more = e ∙ put-after [] row x 0 refl in
    let i : two ≡ x ++ y ++ rest = f ∙ ap (λ (l : List ℕ). put l 20 y) h ∙ put-after x more y 20 ex in
    let j : three ≡ x ++ y ++ z ++ drop (length z) rest =
    g ∙ ap (λ (l : List ℕ). put l 260 z) i ∙ put-after (x ++ y) rest z 260 (omega (arith, length-append x y)) in
    let d : drop (length z) rest ≡ [] =
    drop_of_length-le rest {i = length z} (omega (arith, length-drop (length y) more, length-drop (length x) row)) in
    j ∙ rw (d, append-nil (x ++ y ++ z)) (append_assoc x y z)
