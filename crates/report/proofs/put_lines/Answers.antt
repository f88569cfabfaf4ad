-- Each line is added after those before it.
use Rattle.std.proofs.Common.{ℕ, List, [], ◌∷◌, ◌++◌, length, take, drop, sum_by, Bor, ◌+◌, ◌-◌, ◌<◌, ◌≤◌, refl, arith}
use Rattle.std.specs.List.{flat_map}
use Rattle.std.proofs.lemmas.Grind.{flat_map-append}
use Rattle.std.proofs.lemmas.List.{append-nil}
use Rattle.std.proofs.lemmas.List.Sums.{sum_by_more}
use lib.ListN.{get_or}
use lib.Seq.{take-suc}
use native.Mathlib.Numerals.{add-one}
use Rattle.fixed_point.specs.declared.Signed.{Signed}
use Rattle.report.specs.Decimal.{signed}
use Rattle.report.specs.Line.{line, Written}
use Rattle.report.proofs.Onto.{nothing_written, written-more}
use Rattle.report.proofs.put_lines.Goals as goal

abbrev text_of : Bor (List ℕ) × Signed → List ℕ
text_of l = line l.0.now (signed l.1 ∷ [])

abbrev most_of : Bor (List ℕ) × Signed → ℕ
most_of l = length l.0.now + 25

next_line :
    {old xs ys : List ℕ} {a r : ℕ} (lines : List (Bor (List ℕ) × Signed)) (i : ℕ) (d : Bor (List ℕ) × Signed) → i < length lines →
    Written old (flat_map text_of (take i lines)) a xs →
    Written (take (length xs - a) (drop a xs)) (text_of (get_or lines i d)) r ys →
    Written old (flat_map text_of (take (i + 1) lines)) (a + r) (take a xs ++ (ys ++ drop (length xs - a) (drop a xs)))
next_line lines i d h w s =
    rw (add-one i, take-suc lines i d h, flat_map-append text_of (take i lines) (get_or lines i d ∷ []), append-nil (text_of (get_or lines i d)))
    (written-more w s)

next_most :
    {a r : ℕ} (lines : List (Bor (List ℕ) × Signed)) (i : ℕ) (d : Bor (List ℕ) × Signed) → i < length lines →
    a ≤ sum_by most_of (take i lines) →
    r ≤ length (get_or lines i d).0.now + 25 →
    a + r ≤ sum_by most_of (take (i + 1) lines)
next_most lines i d h w s = omega (arith, sum_by_more most_of lines i d h, w, s)

pub loop-name-init : goal.loop-name-init
loop-name-init c = (omega arith, refl, nothing_written _)

pub loop-name-preserved : goal.loop-name-preserved
loop-name-preserved c = (
  next_most c.args.lines.now c.loop-name.name-index _ c.loop-name-test.true c.loop-name.invariant.0 c.put_value-at.ensures.short,
  omega arith,
  next_line c.args.lines.now c.loop-name.name-index _ c.loop-name-test.true c.loop-name.invariant.2 c.put_value-at.ensures.line,
)
