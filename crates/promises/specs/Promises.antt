-- What is promised to the customer, on one page: the demands of 00 and the requests of 02 that have landed, of the program, of the calls, and of
-- the definitions that the calls' contracts equate them with; then what each layer promises to the one above, and what is shown as text. Each
-- field names the record that says it; all are proved in proofs/Promises.antt. An auditor starts here. That every call ends and does nothing
-- undefined is part of each crate's verdict. What the program does around its reads and writes is said by the contracts of crates/capital.
use Rattle.std.specs.Prelude.{ℕ, List}
use Rattle.exponential.specs.Promise as Exponential
use Rattle.coefficients.specs.Promise as Coefficients
use Rattle.loan_charge.specs.Promise as LoanCharge
use Rattle.loan_charge.specs.Words.{LoanWords}
use Rattle.sheet.specs.Loading.{Loading}
use Rattle.sheet_file.specs.NumberList.{OneList}
use Rattle.line_forms.specs.Claims.{LineReading, HeaderReading, BytesRead, NameNumbers}
use Rattle.line_forms.specs.Readings.{line_of, header_of}
use Rattle.line_forms.specs.Examples.{LineTexts}
use Rattle.line_forms.specs.RangeEnds.{RangeEnds}
use Rattle.figures.specs.Words.{FigureWords}
use Rattle.report.specs.Examples.{NumberTexts, RefusalText}
use Rattle.book_report.specs.Examples.{ReportTexts}
use Rattle.cell_report.specs.Examples.{CellTexts}
use Rattle.book_model.specs.Demand1.{Demand1}
use Rattle.book_model.specs.Demand2.{Demand2}
use Rattle.book_model.specs.Demand3.{Demand3}
use Rattle.book_model.specs.LoanTable.{LoanTable}
use Rattle.book_model.specs.OwnFactors.{OwnFactors}
use Rattle.book_model.specs.AdjustedValues.{AdjustedValues}
use Rattle.book_model.specs.FreshScores.{FreshScores}
use Rattle.book_model.specs.Standing.{Standing}
use Rattle.book_model.specs.Joining.{Joining}
use Rattle.book_model.specs.JoiningExamples.{JoiningExamples}
use Rattle.book_model.specs.JoiningLaws.{JoiningLaws}
use Rattle.book_model.specs.LineNumbers.{LineNumbers}
use Rattle.book_model.specs.Examples.{TwelveExamples}
use Rattle.histories.specs.Demands.{CallsDemand1, CallsDemand2, CallsDemand3, CallsLoanTable, CallsOwnFactors, CallsAdjustedValues}
use Rattle.histories.specs.Demands.{CallsFreshScores, CallsStanding}
use Rattle.histories.specs.Joinings.{CallsJoining, CallsJoiningLaws}
use Rattle.histories.specs.Asked.{CallsAsked}
use Rattle.driver.specs.InputLines.{InputLines}
use Rattle.driver.specs.Program.{Program}
use Rattle.regions.specs.Regions.{Regions}

-- of the calls open, open_sheet, feed, feed_with, join, close and close_cells, each known by its contract alone
pub record Calls : Type 0 where
  -- 00, 1: a line is taken or turned down by a numbered refusal; a refused line changes nothing, a refused closing writes nothing
  pub demand1 : CallsDemand1
  -- 00, 2: each refusal is given when and only when its condition holds
  pub demand2 : CallsDemand2
  -- 00, 3, and 02, L7: the report of the lines taken, never below the exact requirement, less than 1.5 cents a loan and 3 cents above it, the
  -- same bytes in whatever order
  pub demand3 : CallsDemand3
  -- 02, L1: the loans by score and loan-to-value
  pub loan_table : CallsLoanTable
  -- 02, L3: a sheet of credit factors of one's own
  pub own_factors : CallsOwnFactors
  -- 02, L4: the house price index for older loans
  pub adjusted_values : CallsAdjustedValues
  -- 02, L5: when scores count as fresh
  pub fresh_scores : CallsFreshScores
  -- 02, L6: marks, returns, and the lines still standing
  pub standing : CallsStanding
  -- 02, L8: two books joined, as one book fed the lines still standing in both, or 16
  pub joining : CallsJoining
  -- 02, L9: either order and any grouping that succeed give the same book; a book with a zero header and no lines but index lines changes nothing
  pub joining_laws : CallsJoiningLaws
  -- what a call asks is met by every state that the calls gave, so that each may follow each
  pub asked : CallsAsked

-- of opening, feeding, joining and both closings as definitions: what the calls' claims rest on, and what only definitions can say
pub record Definitions : Type 0 where
  pub demand1 : Demand1
  -- also which lines count as loans, as unscored, as fresh and as other lines, by their bytes
  pub demand2 : Demand2
  -- for every sheet, header line and list of lines, with no hypothesis
  pub demand3 : (sheet header : List ℕ) (lines : List (List ℕ)) → Demand3 sheet header lines
  -- also bands and columns in inequalities, and which loan adds to which cell
  pub loan_table : LoanTable
  pub own_factors : OwnFactors
  -- also the value that a loan is charged by, as a fraction
  pub adjusted_values : AdjustedValues
  pub fresh_scores : FreshScores
  pub standing : Standing
  pub joining : Joining
  pub joining_laws : JoiningLaws
  -- equity, aoci, b and c by their lines; what a loan is charged by
  pub line_numbers : LineNumbers

-- of each layer, to the one above
pub record Layers : Type 0 where
  -- 01, the exponential: its table's rule, and its values between and beyond the entries (02, L2)
  pub table_rule : Exponential.TableRule
  pub exponential : Exponential.Promise
  -- the code's whole numbers are the regulator's coefficients
  pub coefficients : Coefficients.Promise
  -- 01, the loan charge, and 02, L7: a loan's two numbers, less than 1.05 cents from the exact ones, on their sides
  pub loan_charge : LoanCharge.Promise
  -- age columns, and 1.3 or 3.0 without a score, in inequalities
  pub loan_words : LoanWords
  -- 02, L3: which sheets pass, and their rates
  pub sheet : Loading
  -- a file that is a list of numbers is one list
  pub number_list : OneList
  -- 01, line forms: each answer to a line, and to a header, by how a form is written
  pub line_reading : (s : List ℕ) → LineReading s (line_of s)
  pub header_reading : (s : List ℕ) → HeaderReading s (header_of s)
  -- what is written can be read back, and no form is too long
  pub bytes_read : BytesRead
  -- 02, L6: names of marks, one number each
  pub name_numbers : NameNumbers
  -- 01, closing: the figures, the limits on capital and the ratio in inequalities
  pub figure_words : FigureWords
  -- 01: where a line of the input ends
  pub input_lines : InputLines

-- as text, so that a definition changed alike in specs and code is seen
pub record Examples : Type 0 where
  -- 01's twelve examples, the worked report among them
  pub twelve : TwelveExamples
  -- one line of each form
  pub lines : LineTexts
  -- both ends of every range, and the next number beyond
  pub range_ends : RangeEnds
  -- numbers, `(refused N L)`, the ten lines and `none`, the 60 lines
  pub numbers : NumberTexts
  pub refusal : RefusalText
  pub reports : ReportTexts
  pub cells : CellTexts
  -- 02, L8: what is added, each condition at its limit and beyond, 01's worked report joined with itself; L9: one grouping refused, the other not
  pub joining : JoiningExamples

pub record Promises : Type 0 where
  -- what is printed of every input under every sheet
  pub program : Program
  -- 02, L8: what is printed of files that are books, joined from the first on; L9: the same bytes in every order that joins them
  pub regions : Regions
  pub calls : Calls
  pub definitions : Definitions
  pub layers : Layers
  pub examples : Examples
