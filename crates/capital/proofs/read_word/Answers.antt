-- At most two words more are understood, and files that are asked for are among the arguments.
use Rattle.capital.proofs.CommandWords.{keeps}
use Rattle.capital.proofs.read_word.Goals as goal

pub returns : goal.returns
returns c = rw c.understood.ensures (keeps _ _ _ c.requires.1)
