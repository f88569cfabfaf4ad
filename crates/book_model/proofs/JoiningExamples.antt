-- By computation. Assumes nothing.
use mathlib.Core.Path.{◌≡◌, refl, ◌∙◌, ap}
use mathlib.Core.Bool.{Bool, true, false, ◌&&◌, ◌||◌}
use mathlib.Core.List.{◌++◌}
use Prim.Native.Nat.{ℕ, ◌+◌, ◌*◌}
use lib.Dec.{eqb, leb, ltb}
use borrow.Author.Tests.{ltb-true, ltb-false}
use Rattle.exact.specs.Choice.{pick}
use Rattle.exact.specs.Decimal.{value_from}
use Rattle.exact.specs.Fraction.{ceiling}
use Rattle.loan_charge.specs.CreditFactor.{rate_places, built_in_sheet, built_in_rates_lem}
use Rattle.sheet.specs.Sheet.{place_passes_lem, places_pass, sheet_passes}
use Rattle.line_forms.specs.declared.Header.{Header}
use Rattle.line_forms.specs.Bytes.{all_within, run_of, same, after}
use Rattle.line_forms.specs.Contents.{header_in_range, money_in_range, asset_in_range, amount_in_range, on_aged_table_lem, bytes_of}
use Rattle.line_forms.specs.Numerals.{is_numeral}
use Rattle.line_forms.specs.Parsing.{number_at, after_number, after_negative, signed_at_lem, after_signed, place_of, after_word}
use Rattle.line_forms.specs.Readings.{header_held, asset_held, plain_held, signed_held, amount_held, content_of, line_for, line_of, header_for_lem, header_of}
use Rattle.line_forms.proofs.HeaderCounts.{aged-serves, first-serves}
use Rattle.other_charges.specs.Charges.{asset_charge, share_charge}
use Rattle.figures.specs.Figures.{required_of, admitted, capital_of, ratio_size_lem, ratio_of, figures_of}
use Rattle.figures.specs.Sums.{sum_of}
use Rattle.report.specs.Decimal.{leading, digits, signed}
use Rattle.book_report.specs.Report.{ratio_line, report_text}
use Rattle.book_model.specs.Accepted.{most_other, counts_in, refusal_for, accept}
use Rattle.book_model.specs.Calls.{State, Answer, state_at, empty_state}
use Rattle.book_model.specs.Demand3.{figures_for, report_for}
use Rattle.book_model.specs.Exact.{exact_amount, exact_share, sum_over}
use Rattle.book_model.specs.Examples.{worked_header, worked_lines}
use Rattle.book_model.specs.Cells.{empty_cells}
use Rattle.book_model.specs.History.{opened, all_fed, terms_of, accepted_of, lines_taken, sums_by}
use Rattle.book_model.specs.HouseIndex.{index_places, empty_index}
use Rattle.book_model.specs.Joining.{added_header_lem, alike, many_unscored_lem, keeps_choices_lem, same_factors_lem, same_index_lem, may_join_lem, joined_state, joining}
use Rattle.book_model.specs.Joining.{index_lines, other_lines, added_header_line, standing_in_both}
use Rattle.book_model.specs.JoiningExamples.{having, counting, worked_book, worked_twice, JoiningExamples}
use Rattle.book_model.specs.LineKinds.{content_kind, kind_counts}
use Rattle.book_model.specs.Share.{share, asset_share, amount_share}
use Rattle.book_model.specs.Marks.{no_marks}
use Rattle.book_model.specs.Terms.{terms_for, refused_terms}
use Rattle.book_model.proofs.JoinedParts.{cells-none, joined-state}
use Rattle.book_model.proofs.Places.{same_self}

-- the column that serves, by its law
aged : (h : Header) → on_aged_table_lem h ≡ ltb (10 * h.fresh) (9 * h.loans)
aged h = go (ltb (10 * h.fresh) (9 * h.loans)) refl
  where
    go : (t : Bool) → ltb (10 * h.fresh) (9 * h.loans) ≡ t → on_aged_table_lem h ≡ t
    go true e = (aged-serves h).1 (ltb-true (10 * h.fresh) (9 * h.loans) e)
    go false e = (first-serves h).1 (ltb-false (10 * h.fresh) (9 * h.loans) e)

abbrev keeps : (own joined : Header) → (column : Bool) → Bool
keeps own joined column = eqb own.loans 0 || (column && (eqb own.unscored 0 || alike (many_unscored_lem own) (many_unscored_lem joined)))

abbrev test : Header → Header → (lines : ℕ) → Bool
test g h lines =
    header_in_range (added_header_lem g h) && leb lines most_other
    && keeps g (added_header_lem g h) (alike (ltb (10 * g.fresh) (9 * g.loans)) (ltb (10 * (g.fresh + h.fresh)) (9 * (g.loans + h.loans))))
    && keeps h (added_header_lem g h) (alike (ltb (10 * h.fresh) (9 * h.loans)) (ltb (10 * (g.fresh + h.fresh)) (9 * (g.loans + h.loans))))

answer : (g h : Header) (m n i j : ℕ) → (joining (having g m i) (having h n j)).refusal ≡ pick (test g h (m + n + i)) 0 16
unfolding joining may_join_lem same_factors_lem same_index_lem keeps_choices_lem
answer g h m n i j =
    rw (
      same_self rate_places built_in_rates_lem built_in_rates_lem refl,
      same_self index_places empty_index empty_index refl,
      aged g,
      aged h,
      aged (added_header_lem g h),
    ) (go (test g h (m + n + i)))
  where
    go : (t : Bool) → (pick {A = Answer} t (record { refusal = 0; state = joined_state (having g m i) (having h n j) }) (record { refusal = 16; state = empty_state refused_terms })).refusal ≡ pick t 0 16
    go true = refl
    go false = refl

held : (g h : Header) (m n i j r : ℕ) → pick (test g h (m + n + i)) 0 16 ≡ r → (joining (having g m i) (having h n j)).refusal ≡ r
held g h m n i j r e = answer g h m n i j ∙ e

-- books without lines joined are one without lines
none-joined : (g h : Header) → (joining (having g 0 0) (having h 0 0)).refusal ≡ 0 → (joining (having g 0 0) (having h 0 0)).state ≡ having (added_header_lem g h) 0 0
unfolding empty_cells
none-joined g h z =
    joined-state (having g 0 0) (having h 0 0) z
    ∙ (λ i. state_at (having (added_header_lem g h) 0 0).book built_in_rates_lem (cells-none empty_cells refl i) empty_index no_marks)

taken : lines_taken (all_fed (opened built_in_sheet worked_header) worked_lines) ≡ worked_lines
unfolding all_within run_of same after is_numeral value_from header_in_range money_in_range asset_in_range amount_in_range number_at after_number after_negative signed_at_lem
    after_signed place_of after_word header_held asset_held plain_held signed_held amount_held content_of line_for line_of header_for_lem header_of content_kind kind_counts
    counts_in refusal_for accept terms_for terms_of accepted_of all_fed built_in_sheet place_passes_lem places_pass sheet_passes
taken = refl

lines_twice : standing_in_both worked_book worked_book ≡ worked_lines ++ worked_lines
unfolding all_within run_of same after is_numeral value_from money_in_range asset_in_range amount_in_range number_at after_number after_negative signed_at_lem
    after_signed place_of after_word asset_held plain_held signed_held amount_held content_of line_for line_of index_lines other_lines
lines_twice = rw taken refl

header_twice : added_header_line worked_book worked_book ≡ worked_header
unfolding all_within run_of same after is_numeral value_from header_in_range number_at after_number place_of after_word header_held content_of header_for_lem header_of terms_for terms_of
    all_fed built_in_sheet place_passes_lem places_pass sheet_passes bytes_of digits leading
header_twice = refl

report_twice : report_for (terms_of (opened built_in_sheet worked_header)) (worked_lines ++ worked_lines) ≡ worked_twice
unfolding all_within run_of same after is_numeral value_from header_in_range money_in_range asset_in_range amount_in_range number_at after_number after_negative signed_at_lem
    after_signed place_of after_word header_held asset_held plain_held signed_held amount_held content_of line_for line_of header_for_lem header_of terms_for terms_of
    built_in_sheet place_passes_lem places_pass sheet_passes
    ceiling asset_charge share_charge exact_amount exact_share sum_over kind_counts content_kind share asset_share amount_share sum_of sums_by required_of admitted
    capital_of ratio_size_lem ratio_of figures_for report_for ratio_line report_text leading digits signed
report_twice = refl

other_first : (joining (having (counting 19 1 0 0) 0 0) (having (counting 1 1 0 0) 0 0)).refusal ≡ 0
unfolding header_in_range many_unscored_lem
other_first = held (counting 19 1 0 0) (counting 1 1 0 0) 0 0 0 0 0 refl

pub joining-examples : JoiningExamples
unfolding header_in_range many_unscored_lem figures_of bytes_of digits leading
joining-examples = record {
  added = refl;
  loans_most = held (counting 400000 0 0 0) (counting 600000 0 0 0) 0 0 0 0 0 refl;
  loans_beyond = held (counting 400000 0 0 0) (counting 600001 0 0 0) 0 0 0 0 16 refl;
  held_most = held (counting 0 0 0 4000000000000) (counting 0 0 0 6000000000000) 0 0 0 0 0 refl;
  held_beyond = held (counting 0 0 0 4000000000000) (counting 0 0 0 6000000000001) 0 0 0 0 16 refl;
  lines_most = held (counting 0 0 0 0) (counting 0 0 0 0) 60000 39990 10 10 0 refl;
  lines_beyond_law = held (counting 0 0 0 0) (counting 0 0 0 0) 60000 39991 10 10 16 refl;
  both_fresh = held (counting 10 0 9 0) (counting 10 0 10 0) 0 0 0 0 0 refl;
  both_aged = held (counting 10 0 0 0) (counting 10 0 8 0) 0 0 0 0 0 refl;
  first_loses = held (counting 10 0 9 0) (counting 10 0 8 0) 0 0 0 0 16 refl;
  second_gains = held (counting 10 0 10 0) (counting 10 0 8 0) 0 0 0 0 16 refl;
  no_loans = held (counting 0 0 0 5) (counting 10 0 0 0) 0 0 0 0 0 refl;
  no_loans_second = held (counting 10 0 0 0) (counting 0 0 0 5) 0 0 0 0 0 refl;
  both_low = held (counting 20 1 0 0) (counting 20 1 0 0) 0 0 0 0 0 refl;
  first_rises = held (counting 20 1 0 0) (counting 19 1 0 0) 0 0 0 0 16 refl;
  none_unscored = held (counting 1 0 0 0) (counting 1 1 0 0) 0 0 0 0 0 refl;
  second_falls = held (counting 19 0 0 0) (counting 1 1 0 0) 0 0 0 0 16 refl;
  one_way = held (counting 1 0 0 0) (counting 19 1 0 0) 0 0 0 0 16 refl;
  other_first = other_first;
  other_way = ap (λ (s : State). (joining (having (counting 1 0 0 0) 0 0) s).refusal) (none-joined (counting 19 1 0 0) (counting 1 1 0 0) other_first)
      ∙ held (counting 1 0 0 0) (counting 20 2 0 0) 0 0 0 0 0 refl;
  header_twice = header_twice;
  lines_twice = lines_twice;
  report_twice = report_twice;
  rounded_once = refl;
}
