-- The text that `itoa` gives a number is its digits.
-- Assumes nothing.
use Rattle.std.proofs.Common.{◌≡◌, ℕ, ◌^◌, ◌<◌, refl, sym}
use Rattle.std.proofs.lemmas.Fmt.{decimal_by_steps}
use Rattle.std.specs.Fmt.{decimal}
use Rattle.report.specs.Decimal.{digits}
use Rattle.report.proofs.Decimal.{digits-one, digits_more}

pub decimal-digits : (n : ℕ) → n < 2 ^ 64 → decimal n ≡ digits n
decimal-digits =
    decimal_by_steps (λ n ds. ds ≡ digits n) (λ n h. sym (digits-one n h)) (λ n ds h e. rw (digits_more n h, e) refl)
