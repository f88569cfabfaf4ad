-- Both ends of every range as lines (01, "A book, line by line"; 02, L4 and L5), and the next number beyond each: a range that is changed alike in
-- the definitions and in the code is seen here. The other numbers of each line are well inside their ranges. So with how long a D, a name of a mark
-- (02, L6) and a line may be.
use Rattle.std.specs.Prelude.{ℕ, ◌≡◌, List, [], ◌∷◌, map, replicate}
use Rattle.exact.specs.Text.{text}
use Rattle.line_forms.specs.Claims.{line_refusal, header_refusal}
use Rattle.line_forms.specs.Readings.{line_of, header_of}

-- at the ends
abbrev pub lines_at_ends : List (List ℕ)
lines_at_ends =
    text "(loan (bal 1) (val 9) (amort 7) (term 61) (score 700 20) (sup 0) (from 200001) (area other))" ∷
    text "(loan (bal 200000000) (val 9) (amort 7) (term 61) (score 700 20) (sup 0) (from 200001) (area other))" ∷
    text "(loan (bal 5) (val 1) (amort 7) (term 61) (score 700 20) (sup 0) (from 200001) (area other))" ∷
    text "(loan (bal 5) (val 10000000000) (amort 7) (term 61) (score 700 20) (sup 0) (from 200001) (area other))" ∷
    text "(loan (bal 5) (val 9) (amort 1) (term 61) (score 700 20) (sup 0) (from 200001) (area other))" ∷
    text "(loan (bal 5) (val 9) (amort 480) (term 61) (score 700 20) (sup 0) (from 200001) (area other))" ∷
    text "(loan (bal 5) (val 9) (amort 7) (term 1) (score 700 20) (sup 0) (from 200001) (area other))" ∷
    text "(loan (bal 5) (val 9) (amort 7) (term 480) (score 700 20) (sup 0) (from 200001) (area other))" ∷
    text "(loan (bal 5) (val 9) (amort 7) (term 61) (score 300 0) (sup 0) (from 200001) (area other))" ∷
    text "(loan (bal 5) (val 9) (amort 7) (term 61) (score 900 600) (sup 0) (from 200001) (area other))" ∷
    text "(loan (bal 5) (val 9) (amort 7) (term 61) (score 700 20) (sup 0) (from 200001) (area other))" ∷
    text "(loan (bal 5) (val 9) (amort 7) (term 61) (score 700 20) (sup 1) (from 200001) (area other))" ∷
    text "(loan (bal 5) (val 9) (amort 7) (term 61) (score 700 20) (sup 0) (from 190001) (area other))" ∷
    text "(loan (bal 5) (val 9) (amort 7) (term 61) (score 700 20) (sup 0) (from 209912) (area other))" ∷
    text "(loan (bal 5) (val 9) (amort 7) (term 61) (score 700 20) (sup 0) (from 200512) (area other))" ∷
    text "(policy (class home) (prem 0) (term 60) (done 3))" ∷
    text "(policy (class home) (prem 100000000) (term 60) (done 3))" ∷
    text "(policy (class home) (prem 5) (term 1) (done 3))" ∷
    text "(policy (class home) (prem 5) (term 480) (done 3))" ∷
    text "(policy (class home) (prem 5) (term 60) (done 0))" ∷
    text "(policy (class home) (prem 5) (term 60) (done 40))" ∷
    text "(deriv (kind fx) (cost 100000000000) (notional 7) (months 9) (pays 2) (factor 3))" ∷
    text "(deriv (kind fx) (cost -100000000000) (notional 7) (months 9) (pays 2) (factor 3))" ∷
    text "(deriv (kind fx) (cost 5) (notional 0) (months 9) (pays 2) (factor 3))" ∷
    text "(deriv (kind fx) (cost 5) (notional 100000000000) (months 9) (pays 2) (factor 3))" ∷
    text "(deriv (kind fx) (cost 5) (notional 7) (months 0) (pays 2) (factor 3))" ∷
    text "(deriv (kind fx) (cost 5) (notional 7) (months 600) (pays 2) (factor 3))" ∷
    text "(deriv (kind fx) (cost 5) (notional 7) (months 9) (pays 1) (factor 3))" ∷
    text "(deriv (kind fx) (cost 5) (notional 7) (months 9) (pays 100) (factor 3))" ∷
    text "(deriv (kind fx) (cost 5) (notional 7) (months 9) (pays 2) (factor 0))" ∷
    text "(deriv (kind fx) (cost 5) (notional 7) (months 9) (pays 2) (factor 10000))" ∷
    text "(asset (amount 0) (factor 7))" ∷
    text "(asset (amount 100000000000) (factor 7))" ∷
    text "(asset (amount 5) (factor 0))" ∷
    text "(asset (amount 5) (factor 10000))" ∷
    text "(claims 0)" ∷
    text "(claims 100000000000)" ∷
    text "(lossc 0)" ∷
    text "(lossc 100000000000)" ∷
    text "(stated 0)" ∷
    text "(stated 100000000000)" ∷
    text "(b 0)" ∷
    text "(b 100000000000)" ∷
    text "(c 0)" ∷
    text "(c 100000000000)" ∷
    text "(equity -100000000000)" ∷
    text "(equity 100000000000)" ∷
    text "(aoci -100000000000)" ∷
    text "(aoci 100000000000)" ∷
    text "(index other 200501 5)" ∷
    text "(index other 201512 5)" ∷
    text "(index other 200702 1)" ∷
    text "(index other 200702 1000000)" ∷
    []

-- a D of 14 digits is a number, though one out of its range; one of 15, one with a leading zero and -0 are no form
abbrev pub fourteen_digits : List ℕ
fourteen_digits = text "(claims 99999999999999)"

abbrev pub other_digits : List (List ℕ)
other_digits = text "(claims 100000000000000)" ∷ text "(claims 01)" ∷ text "(claims 00)" ∷ text "(claims )" ∷ text "(equity -0)" ∷ text "(claims -1)" ∷ []

-- names of 1 and of 12 letters; none, one of 13 and one of other bytes
abbrev pub names : List (List ℕ)
names = text "(mark a)" ∷ text "(mark zzzzzzzzzzzz)" ∷ text "(back a)" ∷ text "(back zzzzzzzzzzzz)" ∷ []

abbrev pub other_names : List (List ℕ)
other_names = text "(mark )" ∷ text "(mark aaaaaaaaaaaaa)" ∷ text "(back aaaaaaaaaaaaa)" ∷ text "(mark A)" ∷ text "(mark a1)" ∷ []

-- beyond them
abbrev pub lines_beyond : List (List ℕ)
lines_beyond =
    text "(loan (bal 0) (val 9) (amort 7) (term 61) (score 700 20) (sup 0) (from 200001) (area other))" ∷
    text "(loan (bal 200000001) (val 9) (amort 7) (term 61) (score 700 20) (sup 0) (from 200001) (area other))" ∷
    text "(loan (bal 5) (val 0) (amort 7) (term 61) (score 700 20) (sup 0) (from 200001) (area other))" ∷
    text "(loan (bal 5) (val 10000000001) (amort 7) (term 61) (score 700 20) (sup 0) (from 200001) (area other))" ∷
    text "(loan (bal 5) (val 9) (amort 0) (term 61) (score 700 20) (sup 0) (from 200001) (area other))" ∷
    text "(loan (bal 5) (val 9) (amort 481) (term 61) (score 700 20) (sup 0) (from 200001) (area other))" ∷
    text "(loan (bal 5) (val 9) (amort 7) (term 0) (score 700 20) (sup 0) (from 200001) (area other))" ∷
    text "(loan (bal 5) (val 9) (amort 7) (term 481) (score 700 20) (sup 0) (from 200001) (area other))" ∷
    text "(loan (bal 5) (val 9) (amort 7) (term 61) (score 299 0) (sup 0) (from 200001) (area other))" ∷
    text "(loan (bal 5) (val 9) (amort 7) (term 61) (score 901 600) (sup 0) (from 200001) (area other))" ∷
    text "(loan (bal 5) (val 9) (amort 7) (term 61) (score 700 601) (sup 0) (from 200001) (area other))" ∷
    text "(loan (bal 5) (val 9) (amort 7) (term 61) (score 700 20) (sup 2) (from 200001) (area other))" ∷
    text "(loan (bal 5) (val 9) (amort 7) (term 61) (score 700 20) (sup 0) (from 190000) (area other))" ∷
    text "(loan (bal 5) (val 9) (amort 7) (term 61) (score 700 20) (sup 0) (from 189912) (area other))" ∷
    text "(loan (bal 5) (val 9) (amort 7) (term 61) (score 700 20) (sup 0) (from 209913) (area other))" ∷
    text "(loan (bal 5) (val 9) (amort 7) (term 61) (score 700 20) (sup 0) (from 210001) (area other))" ∷
    text "(loan (bal 5) (val 9) (amort 7) (term 61) (score 700 20) (sup 0) (from 200500) (area other))" ∷
    text "(loan (bal 5) (val 9) (amort 7) (term 61) (score 700 20) (sup 0) (from 200513) (area other))" ∷
    text "(policy (class home) (prem 100000001) (term 60) (done 3))" ∷
    text "(policy (class home) (prem 5) (term 0) (done 3))" ∷
    text "(policy (class home) (prem 5) (term 481) (done 3))" ∷
    text "(policy (class home) (prem 5) (term 60) (done 41))" ∷
    text "(deriv (kind fx) (cost 100000000001) (notional 7) (months 9) (pays 2) (factor 3))" ∷
    text "(deriv (kind fx) (cost -100000000001) (notional 7) (months 9) (pays 2) (factor 3))" ∷
    text "(deriv (kind fx) (cost 5) (notional 100000000001) (months 9) (pays 2) (factor 3))" ∷
    text "(deriv (kind fx) (cost 5) (notional 7) (months 601) (pays 2) (factor 3))" ∷
    text "(deriv (kind fx) (cost 5) (notional 7) (months 9) (pays 0) (factor 3))" ∷
    text "(deriv (kind fx) (cost 5) (notional 7) (months 9) (pays 101) (factor 3))" ∷
    text "(deriv (kind fx) (cost 5) (notional 7) (months 9) (pays 2) (factor 10001))" ∷
    text "(asset (amount 100000000001) (factor 7))" ∷
    text "(asset (amount 5) (factor 10001))" ∷
    text "(claims 100000000001)" ∷
    text "(lossc 100000000001)" ∷
    text "(stated 100000000001)" ∷
    text "(b 100000000001)" ∷
    text "(c 100000000001)" ∷
    text "(equity -100000000001)" ∷
    text "(equity 100000000001)" ∷
    text "(aoci -100000000001)" ∷
    text "(aoci 100000000001)" ∷
    text "(index other 200412 5)" ∷
    text "(index other 200500 5)" ∷
    text "(index other 200513 5)" ∷
    text "(index other 201513 5)" ∷
    text "(index other 201601 5)" ∷
    text "(index other 200702 0)" ∷
    text "(index other 200702 1000001)" ∷
    []

abbrev pub headers_at_ends : List (List ℕ)
headers_at_ends =
    text "(book (loans 0) (unscored 0) (fresh 0) (held 0))" ∷
    text "(book (loans 1000000) (unscored 0) (fresh 0) (held 0))" ∷
    text "(book (loans 5) (unscored 0) (fresh 0) (held 10000000000000))" ∷
    text "(book (loans 5) (unscored 2) (fresh 3) (held 0))" ∷
    []

abbrev pub headers_beyond : List (List ℕ)
headers_beyond =
    text "(book (loans 1000001) (unscored 0) (fresh 0) (held 0))" ∷
    text "(book (loans 5) (unscored 0) (fresh 0) (held 10000000000001))" ∷
    []

-- more loans without a score and with a fresh one than loans, whatever their size
abbrev pub headers_over_counted : List (List ℕ)
headers_over_counted =
    text "(book (loans 5) (unscored 6) (fresh 0) (held 0))" ∷
    text "(book (loans 5) (unscored 0) (fresh 6) (held 0))" ∷
    text "(book (loans 5) (unscored 3) (fresh 3) (held 0))" ∷
    text "(book (loans 5) (unscored 99999999999999) (fresh 0) (held 0))" ∷
    text "(book (loans 5) (unscored 0) (fresh 99999999999999) (held 0))" ∷
    []

abbrev pub line_answers : List (List ℕ) → List ℕ
line_answers lines = map (λ s. line_refusal (line_of s)) lines

abbrev pub header_answers : List (List ℕ) → List ℕ
header_answers lines = map (λ s. header_refusal (header_of s)) lines

pub record RangeEnds : Type 0 where
  pub at_ends : line_answers lines_at_ends ≡ replicate 53 0
  pub beyond : line_answers lines_beyond ≡ replicate 47 3
  pub digits_14 : line_refusal (line_of fourteen_digits) ≡ 3
  pub no_digits : line_answers other_digits ≡ replicate 6 2
  pub named : line_answers names ≡ replicate 4 0
  pub no_names : line_answers other_names ≡ replicate 5 2
  -- a line of 240 bytes, and one of 241: no form is so long
  pub bytes_240 : line_refusal (line_of (replicate 240 40)) ≡ 2
  pub bytes_241 : line_refusal (line_of (replicate 241 40)) ≡ 1
  pub headers_at_ends_law : header_answers headers_at_ends ≡ replicate 4 0
  pub headers_beyond_law : header_answers headers_beyond ≡ replicate 2 3
  pub over_counted : header_answers headers_over_counted ≡ replicate 5 4
