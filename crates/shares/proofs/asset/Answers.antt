use mathlib.Core.Path.{refl}
use Rattle.book_model.specs.Share.{asset_share}
use Rattle.shares.proofs.asset.Goals as goal

pub returns : goal.returns
unfolding asset_share
returns c =
    rw (c.charged.ensures, c.asset_parts.ensures) refl
