-- What the program does with the bytes of files that are books to be joined (02, L8).
use Rattle.std.specs.Prelude.{ℕ, Option, Some, None, Result, Ok, Err, ◌+◌, ◌-◌, ◌≤◌, Bool, true, false, List, ◌++◌, ◌≡◌, length}
use Rattle.report.specs.Line.{Written}
use Rattle.book_model.specs.Calls.{State, lacks_lines, Sound}
use Rattle.driver.specs.Reading.{Stage}
use Rattle.regions.specs.Regions.{region_of, joined_from, printed_regions}
use Rattle.regions.specs.NextFile.{NextFile}
use Rattle.capital.specs.declared.ReadFailed.{ReadFailed}
use Rattle.capital.specs.declared.Words.{Words}
use Rattle.capital.specs.Reads.{Output, Answered}

-- A file was read to its end: what the lines of some input give.
abbrev pub FileRead : (sheet : List ℕ) → Stage → Type 0
FileRead sheet p = (input : List ℕ) × (p ≡ region_of sheet input)

-- What one more file made of the book of those before it: `done` where something is to be printed, of `count` bytes, or a read failed,
pub record Step : Type 0 where
  pub count : ℕ
  pub done : Bool
  pub failed : Bool

-- as the code's answers say it.
abbrev pub step_of : Result (Option ℕ) ReadFailed → Step
step_of (Ok (Some n)) = record { count = n; done = true; failed = false }
step_of (Ok None) = record { count = 0; done = false; failed = false }
step_of (Err e) = record { count = 0; done = true; failed = true }

-- One more file was read, and joined to the book of those before it or not. Where a read failed, nothing is written.
pub record NextRead (asked : Bool) (sheet : List ℕ) (before : State) (k : ℕ) (r : Step) (after : State) (old new : List ℕ) : Type 0 where
  pub reads : r.failed ≡ false → (input : List ℕ) × NextFile asked before k (region_of sheet input) r.done r.count after old new
  pub sound : r.done ≡ false → Sound after
  pub enough : r.done ≡ false → lacks_lines before.book.header before.book.sums.counts ≡ false →
      lacks_lines after.book.header after.book.sums.counts ≡ false
  pub fails : r.failed ≡ true → (r.done ≡ true) × (new ≡ old)

-- What is printed of the n files after the first, whose book is s: what it is of some inputs that were read, whatever is in files that were not.
pub record AnsweredOthers (asked : Bool) (sheet : List ℕ) (s : State) (n : ℕ) (old : List ℕ) (r : Output) (new : List ℕ) : Type 0 where
  pub prints : r.failed ≡ false → (inputs : List (List ℕ)) × (length inputs ≤ n) ×
      ((unread : List (List ℕ)) → length inputs + length unread ≡ n → Written old (joined_from asked sheet s 2 (inputs ++ unread)) r.count new)
  pub fails : r.failed ≡ true → new ≡ old

-- The same of all n files, the first of which is read.
pub record AnsweredFiles (asked : Bool) (sheet : List ℕ) (n : ℕ) (old : List ℕ) (r : Output) (new : List ℕ) : Type 0 where
  pub prints : r.failed ≡ false → (input : List ℕ) × (inputs : List (List ℕ)) × (1 + length inputs ≤ n) ×
      ((unread : List (List ℕ)) → 1 + length inputs + length unread ≡ n →
      Written old (printed_regions asked sheet input (inputs ++ unread)) r.count new)
  pub fails : r.failed ≡ true → new ≡ old

-- what the words ask for, of standard input or of the files that they name
pub record AnsweredWords (w : Words) (arguments : ℕ) (sheet old : List ℕ) (r : Output) (new : List ℕ) : Type 0 where
  pub input : w.files ≡ None → Answered w.cells sheet old r new
  pub files : (from : ℕ) → w.files ≡ Some from → AnsweredFiles w.cells sheet (arguments - from) old r new
