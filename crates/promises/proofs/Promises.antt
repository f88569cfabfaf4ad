-- All that is promised holds. Assumes nothing.
use Rattle.exponential.proofs.Promise as Exponential
use Rattle.coefficients.proofs.CoefficientLaws as Coefficients
use Rattle.loan_charge.proofs.Promise as LoanCharge
use Rattle.loan_charge.proofs.Words.{loan_words}
use Rattle.sheet.proofs.Loading.{loading}
use Rattle.sheet_file.proofs.NumberTexts.{one_list}
use Rattle.line_forms.proofs.HeaderLaws.{header_reading, bytes_read}
use Rattle.line_forms.proofs.LineLaws.{line_reading}
use Rattle.line_forms.proofs.NameLaws.{name_numbers}
use Rattle.line_forms.proofs.Examples.{line-texts}
use Rattle.line_forms.proofs.RangeEnds.{range_ends}
use Rattle.figures.proofs.Words.{figure_words}
use Rattle.report.proofs.Examples.{number-texts, refusal-text}
use Rattle.book_report.proofs.Examples.{report-texts}
use Rattle.cell_report.proofs.Examples.{cell-texts}
use Rattle.book_model.proofs.Demand1.{demand1}
use Rattle.book_model.proofs.Demand2.{demand2}
use Rattle.book_model.proofs.Demand3.{demand3}
use Rattle.book_model.proofs.LoanTable.{loan_table}
use Rattle.book_model.proofs.OwnFactors.{own_factors}
use Rattle.book_model.proofs.AdjustedValues.{adjusted_values}
use Rattle.book_model.proofs.FreshScores.{fresh_scores}
use Rattle.book_model.proofs.Standing.{standing}
use Rattle.book_model.proofs.Joining.{joining-holds}
use Rattle.book_model.proofs.JoiningLaws.{joining_laws}
use Rattle.book_model.proofs.JoiningExamples.{joining-examples}
use Rattle.book_model.proofs.LineNumbers.{line_numbers}
use Rattle.book_model.proofs.Examples.{twelve}
use Rattle.histories.proofs.Demands.{calls-demand1, calls-demand2, calls-demand3, calls-loan-table, calls-own-factors, calls-adjusted-values}
use Rattle.histories.proofs.Demands.{calls-fresh-scores, calls-standing, calls-asked}
use Rattle.histories.proofs.Joinings.{calls-joining, calls-joining-laws}
use Rattle.driver.proofs.InputLines.{input_lines}
use Rattle.driver.proofs.Program as Driver
use Rattle.regions.proofs.Regions as Regions
use Rattle.promises.specs.Promises.{Promises}

pub promises : Promises
promises = record {
  program = Driver.program;
  regions = Regions.regions;
  calls = record {
    demand1 = calls-demand1;
    demand2 = calls-demand2;
    demand3 = calls-demand3;
    loan_table = calls-loan-table;
    own_factors = calls-own-factors;
    adjusted_values = calls-adjusted-values;
    fresh_scores = calls-fresh-scores;
    standing = calls-standing;
    joining = calls-joining;
    joining_laws = calls-joining-laws;
    asked = calls-asked;
  };
  definitions = record {
    demand1 = demand1;
    demand2 = demand2;
    demand3 = demand3;
    loan_table = loan_table;
    own_factors = own_factors;
    adjusted_values = adjusted_values;
    fresh_scores = fresh_scores;
    standing = standing;
    joining = joining-holds;
    joining_laws = joining_laws;
    line_numbers = line_numbers;
  };
  layers = record {
    table_rule = Exponential.table_rule;
    exponential = Exponential.promise;
    coefficients = Coefficients.promise;
    loan_charge = LoanCharge.promise;
    loan_words = loan_words;
    sheet = loading;
    number_list = one_list;
    line_reading = line_reading;
    header_reading = header_reading;
    bytes_read = bytes_read;
    name_numbers = name_numbers;
    figure_words = figure_words;
    input_lines = input_lines;
  };
  examples = record {
    twelve = twelve;
    lines = line-texts;
    range_ends = range_ends;
    numbers = number-texts;
    refusal = refusal-text;
    reports = report-texts;
    cells = cell-texts;
    joining = joining-examples;
  };
}
