use mathlib.Core.Path.{refl, ◌∙◌}
use Rattle.std.proofs.Common.{rules}
use Rattle.std.proofs.lemmas.Iterator.{YieldsList-from_range}
use Rattle.std.proofs.lemmas.Iterator.Search.{all_from_yields_List}
use borrow.Author.Tests.{eq-eqb, ne_eqb}
use native.Mathlib.Omega.{arith}
use lib.ListN.{length}
use Rattle.sheet.specs.Sheet.{place_passes_lem, sheet_passes}
use Rattle.sheet.proofs.Rules.{places}
use Rattle.sheet.proofs.passes.Goals as goal

-- `passes` meets its contract: the chain tests the numbers below 66 in turn. Assumes nothing.

pub returns-then-sheet-eq-RATES : goal.returns-then-sheet-eq-RATES
unfolding sheet_passes
returns-then-sheet-eq-RATES c =
    let s = c.args.sheet.now in
    rw (eq-eqb (length s) 66 (omega (arith, c.if-sheet-eq-RATES.true)))
    (all_from_yields_List (place_passes_lem s) _ _ _ c.all.ensures.ran (YieldsList-from_range 0 66 66 refl refl) (λ x b q k. search rules) ∙ places s 66)

pub returns-else-sheet-eq-RATES : goal.returns-else-sheet-eq-RATES
unfolding sheet_passes
returns-else-sheet-eq-RATES c =
    let s = c.args.sheet.now in
    rw (ne_eqb (length s) 66 c.if-sheet-eq-RATES.false) refl
