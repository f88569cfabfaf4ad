use borrow.Author.Rules.{rules}
use Rattle.exponential.specs.Exponential.{half_square_lem}
use Rattle.exponential.proofs.half_square.Goals as goal

-- `exponential::half_square` meets its contract: the square of a number of 32 bits fits 64. Assumes nothing.

pub returns : goal.returns
unfolding half_square_lem
returns c =
    search rules
