-- The lines of every form are the texts shown.
use Prim.Native.Nat.{ℕ}
use mathlib.Core.Bool.{true}
use mathlib.Core.List.{List}
use mathlib.Core.Logic.{inl, inr}
use mathlib.Core.Path.{◌≡◌, refl}
use native.Mathlib.Omega.{arith}
use Rattle.exact.specs.Decimal.{value_from}
use Rattle.line_forms.specs.Bytes.{all_within, run_of, same, after}
use Rattle.line_forms.specs.Names.{name_from}
use Rattle.line_forms.specs.Numerals.{is_numeral}
use Rattle.line_forms.specs.Parsing.{number_at, after_number, after_negative, signed_at_lem, after_signed, place_of, after_word, score_at_lem, after_score}
use Rattle.line_forms.specs.Parsing.{name_at, after_name}
use Rattle.line_forms.specs.Contents.{in_range, header_in_range, score_in_range, loan_in_range, policy_in_range, money_in_range}
use Rattle.line_forms.specs.Contents.{derivative_in_range, asset_in_range, amount_in_range, month_in_range, index_in_range}
use Rattle.line_forms.specs.Readings.{content_of, header_held, loan_held, policy_held, derivative_held, asset_held, index_held}
use Rattle.line_forms.specs.Readings.{mark_held, plain_held, signed_held, amount_held}
use Rattle.line_forms.specs.Claims.{ShowsInRange}
use Rattle.line_forms.specs.Examples.{LineTexts}
use Rattle.line_forms.specs.declared.Content.{Content}
use Rattle.line_forms.proofs.ContentLaws.{Right, content-right}

-- what a line is read as, where that is in range, is what it shows
shows : {s : List ℕ} {c : Content} → content_of s ≡ c → in_range c ≡ true → ShowsInRange s c
unfolding in_range
shows {s} {c} e r = go (content-right s)
  where
    go : Right s (content_of s) → ShowsInRange s c
    go (inl n) = let z : ◌≡◌ {A = ℕ} 0 1 = cc in absurd (omega arith)
    go (inr w) = record { shows = record { writable = rw e at w.0; bytes = rw e at w.1 }; within_range = r }

pub line-texts : LineTexts
unfolding content_of header_held loan_held policy_held derivative_held asset_held index_held mark_held plain_held signed_held amount_held
    number_at after_number after_negative signed_at_lem after_signed place_of after_word score_at_lem after_score name_at after_name name_from
    all_within run_of same after is_numeral value_from in_range
    header_in_range score_in_range loan_in_range policy_in_range money_in_range derivative_in_range asset_in_range amount_in_range month_in_range index_in_range
line-texts = record {
  book = shows refl refl;
  book-aged = shows refl refl;
  scored = shows refl refl;
  unscored = shows refl refl;
  home = shows refl refl;
  multi = shows refl refl;
  rate = shows refl refl;
  float = shows refl refl;
  fx = shows refl refl;
  equity-kind = shows refl refl;
  metal = shows refl refl;
  other = shows refl refl;
  asset = shows refl refl;
  claims = shows refl refl;
  lossc = shows refl refl;
  stated = shows refl refl;
  equity = shows refl refl;
  equity-below = shows refl refl;
  aoci = shows refl refl;
  aoci-zero = shows refl refl;
  b = shows refl refl;
  c = shows refl refl;
  calgary = shows refl refl;
  edmonton = shows refl refl;
  halifax = shows refl refl;
  hamilton = shows refl refl;
  montreal = shows refl refl;
  ottawagatineau = shows refl refl;
  quebec = shows refl refl;
  toronto = shows refl refl;
  vancouver = shows refl refl;
  victoria = shows refl refl;
  winnipeg = shows refl refl;
  composite = shows refl refl;
  mark-first = shows refl refl;
  mark-region = shows refl refl;
  back_last = shows refl refl;
}
