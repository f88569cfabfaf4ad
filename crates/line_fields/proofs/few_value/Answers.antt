use mathlib.Core.Path.{◌∙◌}
use native.Mathlib.Omega.{arith}
use Rattle.line_forms.proofs.Bytes.{all-at}
use Rattle.line_forms.proofs.Numerals.{value-one, value-two, value-three}
use borrow.Author.Rules.{rules}
use Rattle.line_fields.proofs.few_value.Goals as goal

-- `few_value` meets its contract.

-- each byte is a digit
pub worth_at-one-requires : goal.worth_at-one-requires
worth_at-one-requires c =
    (search rules, (all-at 48 57 c.args.digits.now 0 c.requires.0 (omega arith)).0)

pub worth_at-requires : goal.worth_at-requires
worth_at-requires c =
    (search rules, (all-at 48 57 c.args.digits.now 1 c.requires.0 (omega arith)).0)

pub worth_at-requires-2 : goal.worth_at-requires-2
worth_at-requires-2 c =
    (search rules, (all-at 48 57 c.args.digits.now 2 c.requires.0 (omega arith)).0)

pub returns-then-digits-eq1 : goal.returns-then-digits-eq1
returns-then-digits-eq1 c =
    c.worth_at-one.ensures.0 ∙ value-one c.args.digits.now c.if-digits-eq1.true

pub returns-then-digits-eq2 : goal.returns-then-digits-eq2
returns-then-digits-eq2 c =
    rw (c.worth_at-one.ensures.0, c.worth_at.ensures.0) (value-two c.args.digits.now c.if-digits-eq2.true)

pub returns : goal.returns
returns c =
    rw (c.worth_at-one.ensures.0, c.worth_at.ensures.0, c.worth_at-2.ensures.0)
    (value-three c.args.digits.now (omega (arith, c.requires.1, c.requires.2, c.if-digits-eq1.false, c.if-digits-eq2.false)))
