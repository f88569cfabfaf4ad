-- The nine lines of numbers, and the ratio's.
use Rattle.std.proofs.Common.{ℕ, List, [], ◌++◌, ◌≡◌, refl, subst}
use Rattle.std.proofs.lemmas.List.{append-nil}
use mathlib.Core.List.{append_assoc}
use Rattle.report.specs.Line.{Written}
use Rattle.report.proofs.Onto.{written-more}
use Rattle.book_report.specs.Report.{unsigned, value_line, ratio_line, report_text}
use Rattle.book_report.proofs.put_report.Goals as goal

-- five texts, and five more
grouped :
    (a b c d e f g h i r : List ℕ) {old new : List ℕ} {told : ℕ} →
    Written old ((a ++ (b ++ (c ++ (d ++ (e ++ (f ++ (g ++ (h ++ (i ++ []))))))))) ++ r) told new →
    Written old ((a ++ b ++ c ++ d ++ e) ++ (f ++ g ++ h ++ i ++ r)) told new
grouped a b c d e f g h i r {old} {new} {told} w =
    let same : (a ++ (b ++ (c ++ (d ++ (e ++ (f ++ (g ++ (h ++ (i ++ []))))))))) ++ r ≡ (a ++ b ++ c ++ d ++ e) ++ (f ++ g ++ h ++ i ++ r) =
    simp (append_assoc, append-nil) refl in
    subst (λ (t : List ℕ). Written old t told new) same w

pub returns : goal.returns
unfolding report_text
returns c =
    let written = written-more c.put_lines-at.ensures.lines c.put_ratio.ensures.line in
    let named = rw (
      c.unsigned.ensures,
      c.unsigned-2.ensures,
      c.unsigned-3.ensures,
      c.unsigned-4.ensures,
      c.unsigned-5.ensures,
      c.unsigned-6.ensures,
    ) at written in
    grouped
    (value_line "loans" (unsigned c.args.f.loans))
    (value_line "total" c.args.f.total)
    (value_line "supplement" c.args.f.supplement)
    (value_line "home" (unsigned c.args.f.home))
    (value_line "moved" (unsigned c.args.f.moved))
    (value_line "rest" (unsigned c.args.f.rest))
    (value_line "oper" (unsigned c.args.f.oper))
    (value_line "required" (unsigned c.args.f.required))
    (value_line "capital" c.args.f.capital)
    (ratio_line c.args.f.ratio)
    named
