use mathlib.Core.Path.{refl}
use native.Mathlib.Omega.{arith}
use Rattle.book_model.proofs.Adjustments.{ratio-ranges}
use Rattle.book_model.proofs.Near.{rates-chargeable, inputs-chargeable}
use Rattle.book_model.specs.LineKinds.{kind_counts}
use Rattle.book_model.specs.Share.{numbers_with, share_with}
use Rattle.book_model.specs.Terms.{Terms, under}
use Rattle.shares.proofs.loan.Goals as goal

pub overflow_mul-inputs : goal.overflow_mul-inputs
overflow_mul-inputs c =
    omega (arith, (ratio-ranges c.args.a c.args.l c.requires.0 c.requires.1).value_most)

pub overflow_mul-inputs-2 : goal.overflow_mul-inputs-2
overflow_mul-inputs-2 c =
    omega (arith, (ratio-ranges c.args.a c.args.l c.requires.0 c.requires.1).over_most)

pub charge-charge-requires : goal.charge-charge-requires
charge-charge-requires c =
    let t : Terms = under c.args.h c.args.rates.now in
    (rw c.factor.ensures (inputs-chargeable t c.args.a c.args.l (rates-chargeable t c.requires.3 _) c.requires.0 c.requires.1), c.requires.2)

pub returns : goal.returns
unfolding share_with numbers_with kind_counts
returns c =
    rw (
      c.unscored.ensures,
      c.fresh.ensures,
      c.none.ensures,
      c.charge-charge.ensures,
      c.factor.ensures,
    ) refl
