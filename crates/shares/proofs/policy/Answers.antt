use mathlib.Core.Path.{refl}
use Rattle.book_model.specs.Share.{policy_share}
use Rattle.shares.proofs.policy.Goals as goal

pub returns-in-Home : goal.returns-in-Home
unfolding policy_share
returns-in-Home c =
    rw (c.in-Home.is, c.charged.ensures, c.provision_parts.ensures) refl

pub returns-in-Multi : goal.returns-in-Multi
unfolding policy_share
returns-in-Multi c =
    rw (c.in-Multi.is, c.charged-in-Multi.ensures, c.provision_parts-in-Multi.ensures) refl
