use mathlib.Core.Path.{refl, sym, ◌∙◌}
use Rattle.book.proofs.Answers.{other-asks}
use Rattle.book.proofs.add_other.Goals as goal

pub add_share-requires : goal.add_share-requires
add_share-requires c =
    other-asks c.args.b.now c.args.share c.requires.0 c.requires.1 c.requires.2
    (rw (sym c.is_full.ensures ∙ c.if-is_full.false) refl)
