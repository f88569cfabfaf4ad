-- Four lines of numbers, and one of a word.
use Rattle.std.proofs.Common.{ℕ, List, [], ◌∷◌, ◌++◌, ◌≡◌, refl, subst}
use Rattle.std.proofs.lemmas.List.{append-nil}
use mathlib.Core.List.{append_assoc}
use Rattle.exact.specs.Text.{text}
use Rattle.report.specs.Decimal.{signed}
use Rattle.report.specs.Line.{line, Written}
use Rattle.report.proofs.Onto.{written-more}
use Rattle.report_lines.proofs.put_sample.Goals as goal

grouped :
    (a b c d e : List ℕ) {old new : List ℕ} {told : ℕ} → Written old ((a ++ (b ++ (c ++ (d ++ [])))) ++ e) told new → Written old (a ++ b ++ c ++ d ++ e) told new
grouped a b c d e {old} {new} {told} w =
    let same : (a ++ (b ++ (c ++ (d ++ [])))) ++ e ≡ a ++ b ++ c ++ d ++ e = simp (append_assoc, append-nil) refl in
    subst (λ (t : List ℕ). Written old t told new) same w

pub returns : goal.returns
returns c =
    grouped
    (line (text "total") (signed c.args.a ∷ []))
    (line (text "supplement") (signed (record { plus = c.args.a.minus; minus = c.args.a.plus }) ∷ []))
    (line (text "capital") (signed c.args.b ∷ []))
    (line (text "required") (signed c.args.a ∷ []))
    (line (text "ratio") (text "none" ∷ []))
    (written-more c.put_lines-at.ensures.lines c.put_line.ensures)
