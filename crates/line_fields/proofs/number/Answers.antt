use mathlib.Core.Path.{◌≡◌, ◌∙◌, ap, sym}
use mathlib.Core.Bool.{true, false, ◌&&◌}
use mathlib.Core.List.{List}
use lib.Dec.{eqb, ltb}
use Rattle.line_forms.specs.Bytes.{all_within}
use native.Mathlib.Omega.{arith}
use Prim.Native.Nat.{ℕ, ◌+◌, ◌<◌, ◌≤◌}
use lib.ListN.{length, drop, get_or}
use Rattle.line_forms.specs.Numerals.{value_from}
use Rattle.line_forms.specs.Parsing.{digits_at, number_at, after_number}
use Rattle.line_forms.proofs.Numerals.{count-some, none-count, none-zero, numeral-of}
use Rattle.line_forms.proofs.Positions.{number-found, number-missing}
use Rattle.line_forms.proofs.Bytes.{run_fits, run-within}
use Rattle.line_fields.proofs.Numbers.{digits-written, digits_value}
use Rattle.line_fields.proofs.number.Goals as goal

-- `number` meets its contract.

-- what the digits say
found : (line digits : List ℕ) (at : ℕ) → digits ≡ digits_at line at → (0 < length digits) × (length digits ≤ 14) →
    (eqb (get_or digits 0 0) 48 && ltb 1 (length digits)) ≡ false →
    (value_from 0 digits ≡ number_at line at) × (at + length digits ≡ after_number line at)
found line digits at e k z =
    let t : all_within 48 57 digits ≡ true = rw e (run-within 48 57 (drop at line)) in
    let f = number-found line at (rw (← e) (numeral-of digits k.0 k.1 z t)) in
    (rw e f.0, rw e f.1)

pub returns-then-n : goal.returns-then-n
returns-then-n c =
    let a = c.args in
    let m = number-missing a.line.now a.at (rw (← c.requires) (none-count a.digits.now c.if-n.true)) in
    (c.missing.ensures.0 ∙ m.0, c.missing.ensures.1 ∙ m.1)

pub returns-then-zero_first : goal.returns-then-zero_first
returns-then-zero_first c =
    let a = c.args in
    let m = number-missing a.line.now a.at
    (rw (← c.requires) (none-zero a.digits.now (sym c.zero_first.ensures ∙ c.if-zero_first.true))) in
    (c.missing-then-zero_first.ensures.0 ∙ m.0, c.missing-then-zero_first.ensures.1 ∙ m.1)

pub few_value-requires : goal.few_value-requires
few_value-requires c = (
  rw c.requires (run-within 48 57 (drop c.args.at c.args.line.now)),
  (count-some (length c.args.digits.now) c.if-n.false).0,
  c.if-n-le3.true,
)

pub overflow_add-result : goal.overflow_add-result
overflow_add-result c =
    record { fits = omega (arith, ap length c.requires, run_fits 48 57 c.args.line.now c.args.at, c.well_formed) }

pub returns-then-n-le3 : goal.returns-then-n-le3
returns-then-n-le3 c =
    let a = c.args in
    let f = found a.line.now a.digits.now a.at c.requires (count-some (length a.digits.now) c.if-n.false) (sym c.zero_first.ensures ∙ c.if-zero_first.false) in
    (c.few_value.ensures ∙ f.0, f.1)

pub number_of-requires : goal.number_of-requires
number_of-requires c =
    digits-written c.args.digits.now
    (rw c.requires (run-within 48 57 (drop c.args.at c.args.line.now)))
    (count-some (length c.args.digits.now) c.if-n.false).1

pub overflow_add-result-2 : goal.overflow_add-result-2
overflow_add-result-2 c =
    record { fits = omega (arith, ap length c.requires, run_fits 48 57 c.args.line.now c.args.at, c.well_formed) }

pub returns : goal.returns
returns c =
    let a = c.args in
    let f = found a.line.now a.digits.now a.at c.requires (count-some (length a.digits.now) c.if-n.false) (sym c.zero_first.ensures ∙ c.if-zero_first.false) in
    (c.number_of.ensures ∙ digits_value 0 _ ∙ f.0, f.1)
