-- What the program does with the bytes that its reads got.
use Rattle.std.specs.Prelude.{ℕ, Result, Ok, Err, ◌≤◌, Bool, true, false, List, ◌⊎◌, ◌≡◌, length, take}
use Rattle.report.specs.Line.{Written}
use Rattle.sheet_file.specs.NumberList.{Numbers, NumberText, ReadsNumbers}
use Rattle.driver.specs.Printed.{printed}
use Rattle.driver.specs.Program.{Settled}
use Rattle.driver.specs.Reading.{Reading, from_start, with_bytes}
use Rattle.capital.specs.declared.ReadFailed.{ReadFailed}

-- After a read of n bytes into the buffer: the reading before with those bytes.
pub record ReadsOn (before after : Reading) (n : ℕ) (buffer : List ℕ) : Type 0 where
  pub count : n ≤ length buffer
  pub reads : after ≡ with_bytes before (take n buffer)

-- The reading of some input of n bytes from its start, under a sheet of factors.
pub record Reached (sheet : List ℕ) (s : Reading) (n : ℕ) : Type 0 where
  pub input : List ℕ
  pub size : length input ≡ n
  pub reads : s ≡ with_bytes (from_start sheet) input

-- Reading stops where a read failed, where one got no byte, which is the end of the input, and where more input would change nothing
-- (Program.stops of driver); n counts the bytes of the last read.
pub record EndsReading (s : Reading) (n : ℕ) (more failed : Bool) : Type 0 where
  pub ends : more ≡ false → (failed ≡ true) ⊎ (n ≡ 0) ⊎ Settled s

-- How many bytes are to be written, and whether a read failed,
pub record Output : Type 0 where
  pub count : ℕ
  pub failed : Bool

-- as the code's answers say it.
abbrev pub output_of : Result ℕ ReadFailed → Output
output_of (Ok n) = record { count = n; failed = false }
output_of (Err e) = record { count = 0; failed = true }

-- What reading a book to its end left in the buffer: what is printed of some input under the sheet, from the buffer's start, and its length is
-- told; where a read failed, nothing.
pub record Answered (asked : Bool) (sheet before : List ℕ) (r : Output) (after : List ℕ) : Type 0 where
  pub prints : r.failed ≡ false → (input : List ℕ) × Written before (printed asked sheet input) r.count after
  pub fails : r.failed ≡ true → after ≡ before

-- The numbers of some bytes, where a sheet could be read.
abbrev pub SheetRead : Numbers → (out : List ℕ) → Type 0
SheetRead r out = r.good ≡ true → (bytes : List ℕ) × ReadsNumbers bytes r out

-- Under the numbers handed out of a file that is a list of numbers the same is printed as under that list. (Of a list with more than 67 they
-- are the first 67; neither has 66.)
pub record SheetFile : Type 0 where
  pub prints : (asked : Bool) {bytes numbers : List ℕ} {r : Numbers} {out : List ℕ} → ReadsNumbers bytes r out → NumberText bytes numbers →
      (input : List ℕ) → printed asked (take r.count out) input ≡ printed asked numbers input
