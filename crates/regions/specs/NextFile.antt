-- What a call makes of one more file.
use Rattle.std.specs.Prelude.{ℕ, Bool, true, false, List, ◌≡◌}
use Rattle.report.specs.Line.{Written}
use Rattle.book_model.specs.Calls.{State}
use Rattle.book_model.specs.Joining.{joining}
use Rattle.driver.specs.Reading.{Stage}
use Rattle.regions.specs.Regions.{joins_on, stops_with}

-- The k-th file gave p, and `before` is the book of those before it. Where it is done, what is printed is written to the buffer and its length
-- told; else `after` is the joined book, and the buffer is as it was.
pub record NextFile (asked : Bool) (before : State) (k : ℕ) (p : Stage) (done : Bool) (told : ℕ) (after : State) (old new : List ℕ) : Type 0 where
  pub goes_on : done ≡ false → (joins_on before p ≡ true) × (after ≡ (joining before p.state).state) × (new ≡ old)
  pub stops : done ≡ true → (joins_on before p ≡ false) × Written old (stops_with asked k p) told new
