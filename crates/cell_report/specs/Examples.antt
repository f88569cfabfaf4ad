-- A table as text, as 02, L1, has it: 60 lines `(cell BAND LTV COUNT BAL CHARGE)`, BAND 1 to 12, LTV 1 to 5, bands outermost. No two cells are
-- alike, so that a line left out, printed twice, or with two numbers exchanged alike in the definitions and in the code is seen here.
use Rattle.std.specs.Prelude.{ℕ, ◌+◌, ◌*◌, ◌≡◌, List, ◌++◌}
use Rattle.exact.specs.Text.{text}
use Rattle.cell_report.specs.declared.Cell.{Cell}
use Rattle.cell_report.specs.CellReport.{cells_text, place_of}

abbrev pub distinct_cells : (band ltv : ℕ) → Cell
distinct_cells band ltv = record { count = 100 * band + ltv; balance = 100000 * band + ltv; charge = record { plus = ltv; minus = band } }

abbrev pub sixty_lines : List ℕ
sixty_lines =
    text "(cell 1 1 101 100001 0)\n(cell 1 2 102 100002 1)\n(cell 1 3 103 100003 2)\n(cell 1 4 104 100004 3)\n(cell 1 5 105 100005 4)\n" ++
    text "(cell 2 1 201 200001 -1)\n(cell 2 2 202 200002 0)\n(cell 2 3 203 200003 1)\n(cell 2 4 204 200004 2)\n(cell 2 5 205 200005 3)\n" ++
    text "(cell 3 1 301 300001 -2)\n(cell 3 2 302 300002 -1)\n(cell 3 3 303 300003 0)\n(cell 3 4 304 300004 1)\n(cell 3 5 305 300005 2)\n" ++
    text "(cell 4 1 401 400001 -3)\n(cell 4 2 402 400002 -2)\n(cell 4 3 403 400003 -1)\n(cell 4 4 404 400004 0)\n(cell 4 5 405 400005 1)\n" ++
    text "(cell 5 1 501 500001 -4)\n(cell 5 2 502 500002 -3)\n(cell 5 3 503 500003 -2)\n(cell 5 4 504 500004 -1)\n(cell 5 5 505 500005 0)\n" ++
    text "(cell 6 1 601 600001 -5)\n(cell 6 2 602 600002 -4)\n(cell 6 3 603 600003 -3)\n(cell 6 4 604 600004 -2)\n(cell 6 5 605 600005 -1)\n" ++
    text "(cell 7 1 701 700001 -6)\n(cell 7 2 702 700002 -5)\n(cell 7 3 703 700003 -4)\n(cell 7 4 704 700004 -3)\n(cell 7 5 705 700005 -2)\n" ++
    text "(cell 8 1 801 800001 -7)\n(cell 8 2 802 800002 -6)\n(cell 8 3 803 800003 -5)\n(cell 8 4 804 800004 -4)\n(cell 8 5 805 800005 -3)\n" ++
    text "(cell 9 1 901 900001 -8)\n(cell 9 2 902 900002 -7)\n(cell 9 3 903 900003 -6)\n(cell 9 4 904 900004 -5)\n(cell 9 5 905 900005 -4)\n" ++
    text "(cell 10 1 1001 1000001 -9)\n(cell 10 2 1002 1000002 -8)\n(cell 10 3 1003 1000003 -7)\n(cell 10 4 1004 1000004 -6)\n(cell 10 5 1005 1000005 -5)\n" ++
    text "(cell 11 1 1101 1100001 -10)\n(cell 11 2 1102 1100002 -9)\n(cell 11 3 1103 1100003 -8)\n(cell 11 4 1104 1100004 -7)\n(cell 11 5 1105 1100005 -6)\n" ++
    text "(cell 12 1 1201 1200001 -11)\n(cell 12 2 1202 1200002 -10)\n(cell 12 3 1203 1200003 -9)\n(cell 12 4 1204 1200004 -8)\n(cell 12 5 1205 1200005 -7)\n"

pub record CellTexts : Type 0 where
  pub sixty : cells_text distinct_cells ≡ sixty_lines
  pub last_place : place_of 12 5 ≡ 236
