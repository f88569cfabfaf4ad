-- The words of a command, case by case. Assumes nothing.
use mathlib.Core.Path.{◌≡◌, refl, sym, ap}
use mathlib.Core.Bool.{Bool, true, false, not, ◌&&◌, true≢false, false≢true}
use mathlib.Core.List.{List}
use Prim.Native.Nat.{ℕ, ◌+◌, ◌≤◌}
use native.Mathlib.Omega.{arith}
use lib.Dec.{ltb}
use borrow.Author.Tests.{ltb-true}
use Rattle.std.specs.Prelude.{Option, Some, None, is_some, is_none}
use Rattle.exact.specs.Choice.{pick}
use Rattle.exact.specs.Text.{text}
use Rattle.line_forms.specs.Bytes.{same}
use Rattle.line_forms.proofs.Bytes.{same-eq}
use Rattle.capital.specs.declared.Words.{Words}
use Rattle.capital.specs.Arguments.{with_cells, with_sheet, with_files, with_word, FilesNamed, CommandWords}

-- what is not none
some-is : (o : Option ℕ) → (o ≡ None → ⊥) → is_none o ≡ false
some-is None n = absurd (n refl)
some-is (Some x) n = refl

-- what a test of an option tells
pub when-some : (o : Option ℕ) → is_some o ≡ true → o ≡ None → ⊥
when-some None e n = false≢true e
when-some (Some x) e n = true≢false (sym (ap is_none n))

pub when-none : (o : Option ℕ) → is_some o ≡ false → o ≡ None
when-none None e = refl
when-none (Some x) e = absurd (true≢false e)

pub none-tested : (o : Option ℕ) {r : Bool} → is_some o ≡ not r → r ≡ is_none o
none-tested o {r = true} e = ap not (sym e)
none-tested o {r = false} e = ap not (sym e)

another : (word wanted : List ℕ) → (word ≡ wanted → ⊥) → same word wanted ≡ false
another word wanted n = go (same word wanted) refl
  where
    go : (t : Bool) → same word wanted ≡ t → t ≡ false
    go true e = absurd (n (same-eq word wanted e))
    go false e = refl

-- what the tests of a word leave of the words before it
abbrev choice : (w : Words) (a b c d : Bool) → Words
choice w a b c d = pick a (pick b (with_cells w) (pick c (with_sheet w) (pick d (with_files w) w))) w

-- at most two more are understood, and files that are asked for are among the arguments
pub keeps : (w : Words) (word : List ℕ) (arguments : ℕ) → FilesNamed w arguments →
    ((with_word w word (ltb (w.next + 1) arguments)).next ≤ w.next + 2) × FilesNamed (with_word w word (ltb (w.next + 1) arguments)) arguments
unfolding with_word
keeps w word arguments h =
    go (is_none w.files) (same word (text "cells") && not w.cells) ((same word (text "sheet") && is_none w.sheet) && ltb (w.next + 1) arguments)
    (same word (text "join")) (ltb (w.next + 1) arguments) refl
  where
    go : (a b c d m : Bool) → ltb (w.next + 1) arguments ≡ m → ((choice w a b c (d && m)).next ≤ w.next + 2) × FilesNamed (choice w a b c (d && m)) arguments
    go false b c d m e = (omega arith, h)
    go true true c d m e = (omega arith, h)
    go true false true d m e = (omega arith, h)
    go true false false false m e = (omega arith, h)
    go true false false true false e = (omega arith, h)
    go true false false true true e = (omega arith, (omega arith, ltb-true (w.next + 1) arguments e))

-- what the tests of a word come to: s, t and u say which it is
module _ (w : Words) (word : List ℕ) (more : Bool) where
  pub is-after : (w.files ≡ None → ⊥) → w ≡ with_word w word more
  unfolding with_word
  is-after n = rw (some-is w.files n) refl

  module _ (z : w.files ≡ None) {s : Bool} (e : s ≡ same word (text "cells")) where
    pub is-cells : (s && not w.cells) ≡ true → with_cells w ≡ with_word w word more
    unfolding with_word
    is-cells f = rw (ap is_none z, ← e, f) refl

    module _ {t : Bool} (n : (s && not w.cells) ≡ false) (d : t ≡ same word (text "sheet")) where
      pub is-sheet : ((t && is_none w.sheet) && more) ≡ true → with_sheet w ≡ with_word w word more
      unfolding with_word
      is-sheet f = rw (ap is_none z, ← e, n, ← d, f) refl

      module _ {u : Bool} (m : ((t && is_none w.sheet) && more) ≡ false) (c : u ≡ same word (text "join")) where
        pub is_join : (u && more) ≡ true → with_files w ≡ with_word w word more
        unfolding with_word
        is_join f = rw (ap is_none z, ← e, n, ← d, m, ← c, f) refl

        pub is_unknown : (u && more) ≡ false → w ≡ with_word w word more
        unfolding with_word
        is_unknown f = rw (ap is_none z, ← e, n, ← d, m, ← c, f) refl

-- whether or not files were asked for
either : (w v : Words) → v ≡ w → (t : Bool) → pick t v w ≡ w
either w v e true = e
either w v e false = refl

pub command-words : CommandWords
unfolding with_word same
command-words = record {
  cells = λ w more z e. rw (ap is_none z, e) refl;
  cells_again = λ w more e.
      either w (pick (not w.cells) (with_cells w) w) (ap (λ (t : Bool). pick (not t) (with_cells w) w) e) (is_none w.files);
  sheet = λ w z e. rw (ap is_none z, ap is_none e) refl;
  sheet_again = λ w more n. rw (some-is w.sheet n) (either w w refl (is_none w.files));
  sheet_last = λ w. either w (pick (is_none w.sheet && false) (with_sheet w) w) (last w (is_none w.sheet)) (is_none w.files);
  join = λ w z. rw (ap is_none z) refl;
  join_last = λ w. either w w refl (is_none w.files);
  after_join = λ w word more n. rw (some-is w.files n) refl;
  other = λ w word more n m k.
      rw (another word (text "cells") n, another word (text "sheet") m, another word (text "join") k) (either w w refl (is_none w.files));
}
  where
    last : (w : Words) (t : Bool) → pick (t && false) (with_sheet w) w ≡ w
    last w true = refl
    last w false = refl
