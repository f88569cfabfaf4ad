-- Both ends of every range, by computation. Assumes nothing.
use mathlib.Core.Path.{refl}
use Rattle.exact.specs.Decimal.{value_from}
use Rattle.line_forms.specs.Bytes.{all_within, run_of, same, after}
use Rattle.line_forms.specs.Names.{name_from}
use Rattle.line_forms.specs.Numerals.{is_numeral}
use Rattle.line_forms.specs.Parsing.{number_at, after_number, after_negative, signed_at_lem, after_signed, place_of, after_word, score_at_lem, after_score, name_at, after_name}
use Rattle.line_forms.specs.Contents.{header_in_range, score_in_range, loan_in_range, policy_in_range, money_in_range}
use Rattle.line_forms.specs.Contents.{derivative_in_range, asset_in_range, amount_in_range, month_in_range, index_in_range}
use Rattle.line_forms.specs.Readings.{content_of, header_held, loan_held, policy_held, derivative_held, asset_held, index_held}
use Rattle.line_forms.specs.Readings.{mark_held, plain_held, signed_held, amount_held, line_for, line_of, header_for_lem, header_of}
use Rattle.line_forms.specs.RangeEnds.{RangeEnds}

pub range_ends : RangeEnds
unfolding content_of header_held loan_held policy_held derivative_held asset_held index_held mark_held plain_held signed_held amount_held
    number_at after_number after_negative signed_at_lem after_signed place_of after_word score_at_lem after_score name_at after_name name_from
    all_within run_of same after is_numeral value_from line_for line_of header_for_lem header_of
    header_in_range score_in_range loan_in_range policy_in_range money_in_range derivative_in_range asset_in_range amount_in_range month_in_range index_in_range
range_ends = record {
  at_ends = refl;
  beyond = refl;
  digits_14 = refl;
  no_digits = refl;
  named = refl;
  no_names = refl;
  bytes_240 = refl;
  bytes_241 = refl;
  headers_at_ends_law = refl;
  headers_beyond_law = refl;
  over_counted = refl;
}
