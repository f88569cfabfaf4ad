-- Need not be believed: Promise.antt ties these numbers to the paper's. The coefficients as the whole numbers that the code computes with:
-- weights in 12ths, means and deviations in 120000ths, c in 12000ths, b in tenths.
use Rattle.std.specs.Prelude.{ℕ, ◌+◌, ◌*◌, ◌-◌, Bool, true, false}
use Rattle.exact.specs.Choice.{up_to}
use Rattle.coefficients.specs.declared.ScaledCurve.{ScaledCurve}

-- C2 of A is negative up to 8 months, so the second weight is plus2 - minus2, of which one is 0.
unfoldable pub scaled_a : Bool → ℕ → ScaledCurve
scaled_a true n = record {
  weight1 = up_to 132 n (123 * n + 6240) (27000 - 25 * n);
  mean1 = 108000;
  deviation1 = up_to 120 n 20400 (up_to 300 n (22800 - 20 * n) 16800);
  plus2 = up_to 204 n (115 * n - 1020) 22800;
  minus2 = 1020 - 115 * n;
  mean2 = 150000;
  deviation2 = up_to 186 n 19200 (59 * n + 8400);
}
scaled_a false n = record {
  weight1 = up_to 192 n (123 * n + 6240) (up_to 300 n (42180 - 65 * n) (34620 - 39 * n));
  mean1 = 108000;
  deviation1 = 20400;
  plus2 = up_to 300 n (115 * n - 1020) (68 * n + 13320);
  minus2 = 1020 - 115 * n;
  mean2 = 150000;
  deviation2 = up_to 186 n 19200 (109 * n - 1128);
}

unfoldable pub scaled_b : Bool → ℕ → ScaledCurve
scaled_b true n = record {
  weight1 = up_to 132 n (233 * n + 23700) 53400;
  mean1 = 112800;
  deviation1 = up_to 168 n 27600 (up_to 300 n (38400 - 64 * n) 19200);
  plus2 = up_to 180 n 18600 (up_to 216 n (400 * n - 53400) (up_to 300 n (130 * n + 5040) (30 * n + 36240)));
  minus2 = 0;
  mean2 = up_to 180 n (62 * n + 145200) 156000;
  deviation2 = up_to 180 n 16800 (40 * n + 9600);
}
scaled_b false n = record {
  weight1 = up_to 300 n (233 * n + 23700) (282 * n + 8880);
  mean1 = up_to 237 n 112800 (up_to 312 n (168000 - 233 * n) 96000);
  deviation1 = up_to 177 n 27600 (163 * n - 984);
  plus2 = up_to 231 n 18600 (up_to 312 n (133 * n - 12360) (65880 - 117 * n));
  minus2 = 0;
  mean2 = up_to 399 n (62 * n + 145200) 170400;
  deviation2 = up_to 228 n 16800 (up_to 324 n (103 * n - 7008) 25800);
}

unfoldable pub scaled_c : Bool → ℕ → ℕ
scaled_c true n = up_to 120 n 960 (up_to 156 n (3840 - 13 * n) 2280)
scaled_c false n = 960

unfoldable pub tenths_b : Bool → ℕ → ℕ
tenths_b true n = up_to 120 n 3 0
tenths_b false n = 3
