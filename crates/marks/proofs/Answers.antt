-- What a mark or return answers, by the rows that were found. Assumes nothing.
use mathlib.Core.Path.{◌≡◌, refl}
use mathlib.Core.Bool.{true, false, true≢false, false≢true}
use mathlib.Core.List.{List}
use Prim.Native.Nat.{ℕ, ◌≤◌, ◌<◌}
use native.Mathlib.Omega.{arith}
use lib.ListN.{length}
use borrow.Author.Tests.{lt-ltb, le-ltb, le-leb, lt-leb}
use Rattle.std.specs.Prelude.{Option, Some, None, is_some, unwrap_or, IfSome}
use Rattle.book_model.specs.Marks.{most_marks, place_among, is_among, mark_refusal, names_in, free_row, kept_in}
use Rattle.book_model.proofs.MarkRows.{names-length}

module _ (marks : List (List ℕ)) (name : ℕ) {at : ℕ} (found : at ≡ place_among name (names_in marks)) (rows : length marks ≡ 8) where
  kept : at < 8 → is_among name (names_in marks) ≡ true
  kept h = lt-ltb (place_among name (names_in marks)) (length (names_in marks)) (omega (arith, h, found, rows, names-length marks))

  not-kept : 8 ≤ at → is_among name (names_in marks) ≡ false
  not-kept h = le-ltb (place_among name (names_in marks)) (length (names_in marks)) (omega (arith, h, found, rows, names-length marks))

  pub number_13 : at < 8 → 13 ≡ mark_refusal (kept_in marks) (record { back = false; name = name })
  number_13 h = rw (kept h) refl

  pub number_14 : 8 ≤ at → {free : ℕ} → free ≡ free_row marks → 8 ≤ free → 14 ≡ mark_refusal (kept_in marks) (record { back = false; name = name })
  number_14 h e k = rw (not-kept h, le-leb most_marks (free_row marks) (omega (arith, k, e))) refl

  pub marked : 8 ≤ at → {free : ℕ} → free ≡ free_row marks → free < 8 → 0 ≡ mark_refusal (kept_in marks) (record { back = false; name = name })
  marked h e k = rw (not-kept h, lt-leb most_marks (free_row marks) (omega (arith, k, e))) refl

  pub number_15 : 8 ≤ at → 15 ≡ mark_refusal (kept_in marks) (record { back = true; name = name })
  number_15 h = rw (not-kept h) refl

  pub returned : at < 8 → 0 ≡ mark_refusal (kept_in marks) (record { back = true; name = name })
  returned h = rw (kept h) refl

-- whether a row was found
pub inside : (r : Option ℕ) → is_some r ≡ true → IfSome r (λ (at : ℕ). at < 8) → unwrap_or r 8 < 8
inside (Some at) e h = h
inside None e h = absurd (false≢true e)

pub beyond : (r : Option ℕ) → is_some r ≡ false → unwrap_or r 8 ≡ 8
beyond (Some at) e = absurd (true≢false e)
beyond None e = refl
