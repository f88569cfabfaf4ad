-- Document 01, "Proved examples": the twelve, one joint fact about the definitions. Proved in proofs/Examples.antt.
use Rattle.std.specs.Prelude.{ℕ, ◌≤◌, ◌<◌, ◌≡◌, List, [], ◌∷◌, ◌++◌, length, take, get_or}
use Rattle.exact.specs.Text.{text}
use Rattle.exact.specs.Examples.{Example1}
use Rattle.coefficients.specs.Examples.{Example2, Example3, Example4}
use Rattle.loan_charge.specs.CreditFactor.{built_in_sheet}
use Rattle.loan_charge.specs.Examples.{Example5, Example6, Example7}
use Rattle.other_charges.specs.Examples.{Example8, Example9}
use Rattle.figures.specs.Figures.{positive_equity, admitted_b_lem, admitted_c_lem}
use Rattle.book_model.specs.Accepted.{refusal_of}
use Rattle.book_model.specs.Calls.{opening, closing}
use Rattle.book_model.specs.Demand3.{report_for, after_lines}
use Rattle.book_model.specs.History.{opened, all_fed, terms_of, accepted_of, lines_taken}

-- the worked input of document 01, its header as 02, L5, has it, and what it prints
abbrev pub worked_header : List ℕ
worked_header = text "(book (loans 0) (unscored 0) (fresh 0) (held 0))"

abbrev pub worked_lines : List (List ℕ)
worked_lines =
    text "(asset (amount 100000) (factor 25))" ∷
    text "(claims 1001)" ∷
    text "(equity 1000)" ∷
    text "(c 100)" ∷
    []

abbrev pub worked_report : List ℕ
worked_report =
    text "(loans 0)\n"
    ++ text "(total 0)\n"
    ++ text "(supplement 0)\n"
    ++ text "(home 0)\n"
    ++ text "(moved 0)\n"
    ++ text "(rest 451)\n"
    ++ text "(oper 91)\n"
    ++ text "(required 542)\n"
    ++ text "(capital 1075)\n"
    ++ text "(ratio 29750)\n"

pub record TwelveExamples : Type 0 where
  pub example1 : Example1
  pub example2 : Example2
  pub example3 : Example3
  pub example4 : Example4
  pub example5 : Example5
  pub example6 : Example6
  pub example7 : Example7
  pub example8 : Example8
  pub example9 : Example9
  -- equity 600, b 500, c 100: admitted 400 and 0
  pub example10 : (admitted_b_lem (positive_equity (record { plus = 600; minus = 0 })) 500 ≡ 400)
      × (admitted_c_lem (positive_equity (record { plus = 600; minus = 0 })) 400 100 ≡ 0)
  -- equity 9,300, c 1,000: 700
  pub example11 : admitted_c_lem (positive_equity (record { plus = 9300; minus = 0 })) 0 1000 ≡ 700
  -- The worked input: its header opens a book, no line meets a refusal, all are taken, closing is not refused, and its report is the worked one.
  pub opens12 : (opening built_in_sheet worked_header).refusal ≡ 0
  pub fed12 : (n : ℕ) → n < length worked_lines →
      refusal_of (terms_of (opened built_in_sheet worked_header)) (accepted_of (all_fed (opened built_in_sheet worked_header) (take n worked_lines)))
      (get_or worked_lines n []) ≡ 0
  pub taken12 : lines_taken (all_fed (opened built_in_sheet worked_header) worked_lines) ≡ worked_lines
  pub closes12 : (size : ℕ) → 512 ≤ size → (closing (after_lines (opening built_in_sheet worked_header).state worked_lines).book size).refusal ≡ 0
  pub example12 : report_for (terms_of (opened built_in_sheet worked_header)) (lines_taken (all_fed (opened built_in_sheet worked_header) worked_lines)) ≡ worked_report
