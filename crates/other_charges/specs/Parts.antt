-- Need not be believed: a law of proofs/ChargeLaws.antt ties each of these to the paper's charge. The charges in ten-millionths of a cent.
use Rattle.std.specs.Prelude.{ℕ, ◌+◌, ◌*◌}
use Rattle.line_forms.specs.declared.Kind.{Kind}
use Rattle.other_charges.specs.Charges.{provision_tenths_lem, add_on_thousandths}

abbrev pub asset_parts_lem : (amount factor : ℕ) → ℕ
asset_parts_lem amount factor = amount * factor * 1000

abbrev pub share_parts_lem : (amount percent : ℕ) → ℕ
share_parts_lem amount percent = amount * percent * 100000

-- cost is the replacement cost where that is positive, else 0
abbrev pub derivative_parts_lem : (kind : Kind) (cost notional months pays factor : ℕ) → ℕ
derivative_parts_lem kind cost notional months pays factor =
    (cost * 1000 + notional * add_on_thousandths kind months * pays) * factor

-- scale is 10,000 for a provision as it stands and 12,500 for 1.25 times
abbrev pub provision_parts_lem : (premium term done scale : ℕ) → ℕ
provision_parts_lem premium term done scale = premium * provision_tenths_lem term done * scale
