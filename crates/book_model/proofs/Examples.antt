-- The twelve examples, by computation. Assumes nothing.
use mathlib.Core.Path.{◌≡◌, refl, ap, ◌∙◌}
use mathlib.Core.List.{[]}
use Prim.Native.Nat.{ℕ, zero, suc, ◌≤◌, ◌<◌}
use native.Mathlib.Omega.{arith}
use lib.ListN.{length, take, get_or}
use Rattle.exact.specs.Fraction.{ceiling}
use Rattle.exact.proofs.Examples as exact
use Rattle.coefficients.proofs.Examples as coefficients
use Rattle.loan_charge.specs.CreditFactor.{built_in_sheet}
use Rattle.loan_charge.proofs.Examples as loan
use Rattle.sheet.specs.Sheet.{place_passes_lem, places_pass, sheet_passes}
use Rattle.other_charges.proofs.Examples as other
use Rattle.line_forms.specs.Bytes.{all_within, run_of, same, after}
use Rattle.line_forms.specs.Numerals.{is_numeral}
use Rattle.exact.specs.Decimal.{value_from}
use Rattle.line_forms.specs.Contents.{header_in_range, money_in_range, asset_in_range, amount_in_range}
use Rattle.line_forms.specs.Parsing.{number_at, after_number, after_negative, signed_at_lem, after_signed, place_of, after_word}
use Rattle.line_forms.specs.Readings.{header_held, asset_held, plain_held, signed_held, amount_held, content_of, line_for, line_of, header_for_lem, header_of}
use Rattle.other_charges.specs.Charges.{asset_charge, share_charge}
use Rattle.figures.specs.declared.Counts.{Counts}
use Rattle.figures.specs.Sums.{sum_of}
use Rattle.figures.specs.Figures.{required_of, admitted, capital_of, ratio_size_lem, ratio_of}
use Rattle.report.specs.Decimal.{leading, digits, signed}
use Rattle.book_model.specs.Share.{share, asset_share, amount_share}
use Rattle.book_model.specs.LineKinds.{content_kind, kind_counts}
use Rattle.book_model.specs.Accepted.{counts_in, refusal_for, refusal_of, accept}
use Rattle.book_model.specs.Exact.{exact_amount, exact_share, sum_over}
use Rattle.book_report.specs.Report.{ratio_line, report_text}
use Rattle.book_model.specs.History.{terms_of, accepted_of, all_fed, sums_by, opened, lines_taken}
use Rattle.book_model.specs.Calls.{opening_refusal, opening, closing}
use Rattle.book_model.specs.Demand2.{CountsReached}
use Rattle.book_model.specs.Demand3.{figures_for, report_for, after_lines}
use Rattle.book_model.specs.Terms.{terms_for}
use Rattle.book_model.specs.Examples.{worked_header, worked_lines, worked_report, TwelveExamples}
use Rattle.book_model.proofs.Demand2.{demand2}

taken : lines_taken (all_fed (opened built_in_sheet worked_header) worked_lines) ≡ worked_lines
unfolding all_within run_of same after is_numeral value_from header_in_range money_in_range asset_in_range amount_in_range number_at after_number after_negative signed_at_lem
    after_signed place_of after_word header_held asset_held plain_held signed_held amount_held content_of line_for line_of header_for_lem header_of content_kind kind_counts
    counts_in refusal_for accept terms_for terms_of accepted_of all_fed built_in_sheet place_passes_lem places_pass sheet_passes
taken = refl

fed : (n : ℕ) → n < length worked_lines →
    refusal_of (terms_of (opened built_in_sheet worked_header)) (accepted_of (all_fed (opened built_in_sheet worked_header) (take n worked_lines)))
    (get_or worked_lines n []) ≡ 0
unfolding all_within run_of same after is_numeral value_from header_in_range money_in_range asset_in_range amount_in_range number_at after_number after_negative signed_at_lem
    after_signed place_of after_word header_held asset_held plain_held signed_held amount_held content_of line_for line_of header_for_lem header_of content_kind kind_counts
    counts_in refusal_for accept terms_for terms_of accepted_of all_fed built_in_sheet place_passes_lem places_pass sheet_passes
fed zero h = refl
fed (suc zero) h = refl
fed (suc (suc zero)) h = refl
fed (suc (suc (suc zero))) h = refl
fed (suc (suc (suc (suc n)))) h = absurd (omega (arith, h))

opens : (opening built_in_sheet worked_header).refusal ≡ 0
unfolding all_within run_of same after is_numeral value_from header_in_range number_at after_number place_of after_word header_held content_of header_for_lem header_of
    opening_refusal built_in_sheet place_passes_lem places_pass sheet_passes
opens = refl

-- the header counts no loan
pub counts-none : (c : Counts) → CountsReached (terms_of (opened built_in_sheet worked_header)).header c
unfolding all_within run_of same after is_numeral value_from header_in_range number_at after_number place_of after_word header_held content_of header_for_lem header_of terms_for
    terms_of built_in_sheet place_passes_lem places_pass sheet_passes
counts-none c = (omega arith, omega arith, omega arith)

closes : (size : ℕ) → 512 ≤ size → (closing (after_lines (opening built_in_sheet worked_header).state worked_lines).book size).refusal ≡ 0
closes size h =
    (demand2.closings built_in_sheet worked_header worked_lines size).writes.1
    (counts-none (counts_in (lines_taken (all_fed (opened built_in_sheet worked_header) worked_lines))), h)

-- the report of the four lines
worked : report_for (terms_of (opened built_in_sheet worked_header)) worked_lines ≡ worked_report
unfolding all_within run_of same after is_numeral value_from header_in_range money_in_range asset_in_range amount_in_range number_at after_number after_negative signed_at_lem
    after_signed place_of after_word header_held asset_held plain_held signed_held amount_held content_of line_for line_of header_for_lem header_of terms_for terms_of
    built_in_sheet place_passes_lem places_pass sheet_passes
    ceiling asset_charge share_charge exact_amount exact_share sum_over kind_counts content_kind share asset_share amount_share sum_of sums_by required_of admitted
    capital_of ratio_size_lem ratio_of figures_for report_for ratio_line report_text leading digits signed
worked = refl

pub twelve : TwelveExamples
twelve =
    record {
      example1 = exact.example1;
      example2 = coefficients.example2;
      example3 = coefficients.example3;
      example4 = coefficients.example4;
      example5 = loan.example5;
      example6 = loan.example6;
      example7 = loan.example7;
      example8 = other.example8;
      example9 = other.example9;
      example10 = (refl, refl);
      example11 = refl;
      opens12 = opens;
      fed12 = fed;
      taken12 = taken;
      closes12 = closes;
      example12 = ap (report_for (terms_of (opened built_in_sheet worked_header))) taken ∙ worked;
    }
