use Rattle.book_model.specs.Share.{amount_share}
use mathlib.Core.Path.{refl}
use Rattle.shares.proofs.amount.Goals as goal

pub returns-in-Claims : goal.returns-in-Claims
unfolding amount_share
returns-in-Claims c =
    rw (c.in-Claims.is, c.charged.ensures, c.share_parts.ensures) refl

pub returns-in-Lossc : goal.returns-in-Lossc
unfolding amount_share
returns-in-Lossc c =
    rw (c.in-Lossc.is, c.charged-in-Lossc.ensures, c.share_parts-in-Lossc.ensures) refl

pub returns-in-Stated : goal.returns-in-Stated
unfolding amount_share
returns-in-Stated c =
    rw (c.in-Stated.is, c.charged-in-Stated.ensures, c.share_parts-in-Stated.ensures) refl

pub returns-in-Equity : goal.returns-in-Equity
unfolding amount_share
returns-in-Equity c =
    rw (c.in-Equity.is, c.other.ensures) refl

pub returns-in-Aoci : goal.returns-in-Aoci
unfolding amount_share
returns-in-Aoci c =
    rw (c.in-Aoci.is, c.other-in-Aoci.ensures) refl

pub returns-in-B : goal.returns-in-B
unfolding amount_share
returns-in-B c =
    rw (c.in-B.is, c.other-in-B.ensures) refl

pub returns-in-C : goal.returns-in-C
unfolding amount_share
returns-in-C c =
    rw (c.in-C.is, c.other-in-C.ensures) refl
