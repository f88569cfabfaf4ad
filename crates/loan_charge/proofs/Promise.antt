-- What the layer promises, from its laws. Assumes nothing.
use Rattle.loan_charge.specs.Promise.{Promise}
use Rattle.loan_charge.proofs.ChargeLaws.{charge-near, promised, charge-range, no_supplement}
use Rattle.loan_charge.proofs.CreditLaws.{built_in, within_range}

pub promise : Promise
promise = record {
  close = λ l c. promised l c;
  near = λ l c. charge-near l c;
  total_range = λ l c. (charge-range l c).0;
  supplement_range = λ l c. (charge-range l c).1;
  no_supplement = no_supplement;
  built_in = built_in;
  factors = within_range;
}
