-- 02, L8, by numbers: what is added, and pairs of headers and counts of lines at each limit and one beyond. Proved in proofs/JoiningExamples.antt.
use Rattle.std.specs.Prelude.{ℕ, ◌≡◌, List, ◌++◌}
use Rattle.exact.specs.Text.{text}
use Rattle.line_forms.specs.declared.Header.{Header}
use Rattle.line_forms.specs.declared.Content.TheVariants.{Header as header}
use Rattle.line_forms.specs.Contents.{bytes_of}
use Rattle.figures.specs.Sums.{zero_signed, zero_money, plus}
use Rattle.figures.specs.Examples.{sums12}
use Rattle.figures.specs.Figures.{figures_of}
use Rattle.loan_charge.specs.CreditFactor.{built_in_sheet, built_in_rates_lem}
use Rattle.book_model.specs.Calls.{State, state_at}
use Rattle.book_model.specs.Cells.{empty_cells}
use Rattle.book_model.specs.HouseIndex.{empty_index}
use Rattle.book_model.specs.Joining.{added_header_lem, joining, added_header_line, standing_in_both}
use Rattle.book_model.specs.Demand3.{report_for}
use Rattle.book_model.specs.Examples.{worked_header, worked_lines}
use Rattle.book_model.specs.History.{History, opened, all_fed, terms_of}
use Rattle.book_model.specs.Marks.{no_marks}

abbrev pub counting : (loans unscored fresh held : ℕ) → Header
counting loans unscored fresh held = record { loans = loans; unscored = unscored; fresh = fresh; held = held }

-- a book with a header, so many lines that are neither loans nor index lines, and so many index lines
abbrev pub having : Header → (other indexed : ℕ) → State
having h other indexed = state_at
    (record {
      header = h;
      sums = record {
        counts = record { loans = 0; unscored = 0; fresh = 0; other = other };
        total = zero_signed;
        supplement = zero_signed;
        rest = zero_money;
        moved = zero_money;
        equity = zero_signed;
        aoci = zero_signed;
        b = 0;
        c = 0;
      };
      indexed = indexed;
    })
    built_in_rates_lem empty_cells empty_index no_marks

-- what joining two such books answers
abbrev pub joins : Header → Header → ℕ
joins g h = (joining (having g 0 0) (having h 0 0)).refusal

-- the worked input of document 01, joined with itself
abbrev pub worked_book : History
worked_book = all_fed (opened built_in_sheet worked_header) worked_lines

abbrev pub worked_twice : List ℕ
worked_twice =
    text "(loans 0)\n(total 0)\n(supplement 0)\n(home 0)\n(moved 0)\n(rest 901)\n(oper 181)\n(required 1082)\n(capital 2150)\n(ratio 29805)\n"

pub record JoiningExamples : Type 0 where
  -- "held .. and header counts are added"
  pub added : bytes_of (header (added_header_lem (counting 30 1 4 500) (counting 1 2 3 70000))) ≡ text "(book (loans 31) (unscored 3) (fresh 7) (held 70500))"
  -- "the added header is in range"
  pub loans_most : joins (counting 400000 0 0 0) (counting 600000 0 0 0) ≡ 0
  pub loans_beyond : joins (counting 400000 0 0 0) (counting 600001 0 0 0) ≡ 16
  pub held_most : joins (counting 0 0 0 4000000000000) (counting 0 0 0 6000000000000) ≡ 0
  pub held_beyond : joins (counting 0 0 0 4000000000000) (counting 0 0 0 6000000000001) ≡ 16
  -- "the lines that are not loans, index lines once, total at most 100,000"
  pub lines_most : (joining (having (counting 0 0 0 0) 60000 10) (having (counting 0 0 0 0) 39990 10)).refusal ≡ 0
  pub lines_beyond_law : (joining (having (counting 0 0 0 0) 60000 10) (having (counting 0 0 0 0) 39991 10)).refusal ≡ 16
  -- "for each book whose header counts loans the added header chooses the same score column": 19 of 20, 18 of 20 and 17 of 20 fresh
  pub both_fresh : joins (counting 10 0 9 0) (counting 10 0 10 0) ≡ 0
  pub both_aged : joins (counting 10 0 0 0) (counting 10 0 8 0) ≡ 0
  pub first_loses : joins (counting 10 0 9 0) (counting 10 0 8 0) ≡ 16
  pub second_gains : joins (counting 10 0 10 0) (counting 10 0 8 0) ≡ 16
  -- a header that counts no loans asks nothing, whatever it holds
  pub no_loans : joins (counting 0 0 0 5) (counting 10 0 0 0) ≡ 0
  pub no_loans_second : joins (counting 10 0 0 0) (counting 0 0 0 5) ≡ 0
  -- "where that book's header counts unscored loans, the same factor for them": 2 of 40, 2 of 39, and one without any
  pub both_low : joins (counting 20 1 0 0) (counting 20 1 0 0) ≡ 0
  pub first_rises : joins (counting 20 1 0 0) (counting 19 1 0 0) ≡ 16
  pub none_unscored : joins (counting 1 0 0 0) (counting 1 1 0 0) ≡ 0
  pub second_falls : joins (counting 19 0 0 0) (counting 1 1 0 0) ≡ 16
  -- L9: one grouping of three may be refused where the other is not. 0 of 1, 1 of 19 and 1 of 1 loans have no score: 1 of 19 is above 5%, 1 of 20 is not.
  pub one_way : joins (counting 1 0 0 0) (counting 19 1 0 0) ≡ 16
  pub other_first : joins (counting 19 1 0 0) (counting 1 1 0 0) ≡ 0
  pub other_way : (joining (having (counting 1 0 0 0) 0 0) (joining (having (counting 19 1 0 0) 0 0) (having (counting 1 1 0 0) 0 0)).state).refusal ≡ 0
  -- the report of the one book that it counts as: rest, oper and ratio are reckoned anew
  pub header_twice : added_header_line worked_book worked_book ≡ worked_header
  pub lines_twice : standing_in_both worked_book worked_book ≡ worked_lines ++ worked_lines
  pub report_twice : report_for (terms_of (opened built_in_sheet worked_header)) (worked_lines ++ worked_lines) ≡ worked_twice
  -- rest is rounded once: 450.2 and 450.2 cents are 901, not 902
  pub rounded_once : (figures_of 0 (plus sums12 sums12)).rest ≡ 901
