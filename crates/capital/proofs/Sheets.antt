-- What is printed under the numbers that were handed out of a file. Assumes nothing.
use mathlib.Core.Path.{◌≡◌, refl, sym, ◌∙◌, ap}
use mathlib.Core.Bool.{Bool, false}
use mathlib.Core.List.{List, [], ◌∷◌}
use Prim.Native.Nat.{ℕ}
use native.Mathlib.Decide.{dec_le}
use native.Mathlib.Omega.{arith}
use lib.Dec.{eqb}
use lib.ListN.{length, take}
use lib.Seq.{take_all, length-take-le}
use borrow.Author.Tests.{ne_eqb}
use Rattle.std.specs.Prelude.{Result, Ok, Err}
use Rattle.exact.specs.Choice.{pick}
use Rattle.report.specs.Line.{refusal_line}
use Rattle.line_forms.specs.declared.Header.{Header}
use Rattle.line_forms.specs.declared.refusal.Refusal.{Refusal}
use Rattle.line_forms.specs.Readings.{header_of}
use Rattle.sheet.specs.Sheet.{sheet_passes}
use Rattle.sheet_file.specs.NumberList.{most}
use Rattle.book_model.specs.Calls.{Answer, opening_for}
use Rattle.book_model.proofs.Openings.{sheet-fails, header-fails}
use Rattle.driver.specs.Printed.{lines_of, printed_feeding, printed_lines, printed}
use Rattle.capital.specs.Reads.{SheetFile}

-- two sheets that fail open, and print, alike
opens-alike : (s t : List ℕ) → sheet_passes s ≡ false → sheet_passes t ≡ false → (l : Result Header Refusal) → opening_for s l ≡ opening_for t l
opens-alike s t e f (Ok h) = sheet-fails s h e ∙ sym (sheet-fails t h f)
opens-alike s t e f (Err n) = header-fails s n ∙ sym (header-fails t n)

prints-alike : (asked : Bool) (s t : List ℕ) → sheet_passes s ≡ false → sheet_passes t ≡ false → (lines : List (List ℕ)) →
    printed_lines asked s lines ≡ printed_lines asked t lines
unfolding printed_lines
prints-alike asked s t e f [] = refl
prints-alike asked s t e f (header ∷ lines) =
    ap (λ (a : Answer). pick (eqb a.refusal 0) (printed_feeding asked a.state 2 lines) (refusal_line a.refusal 1))
    (opens-alike s t e f (header_of header))

-- a sheet of another length fails
another-length : (s : List ℕ) → (length s ≡ 66 → ⊥) → sheet_passes s ≡ false
unfolding sheet_passes
another-length s n = rw (ne_eqb (length s) 66 n) refl

cut-alike : (asked : Bool) (numbers input : List ℕ) → printed asked (take most numbers) input ≡ printed asked numbers input
cut-alike asked numbers input = elim (dec_le (length numbers) most) [
  | yes h ↦ ap (λ (s : List ℕ). printed asked s input) (take_all most numbers h)
  | no h ↦
      let n = length-take-le most numbers (omega arith) in
      prints-alike asked (take most numbers) numbers (another-length (take most numbers) (λ e. omega (arith, e, n)))
      (another-length numbers (λ e. omega (arith, e, h))) (lines_of input)
]

pub sheet-file : SheetFile
sheet-file = record {
  prints = λ asked {bytes} {numbers} {r} {out} k t input.
      ap (λ (s : List ℕ). printed asked s input) (k.stored numbers t) ∙ cut-alike asked numbers input;
}
