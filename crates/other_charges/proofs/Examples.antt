-- Document 01's examples 8 and 9, by computation. Assumes nothing.
use mathlib.Core.Path.{refl}
use lib.Dec.{lit<}
use Rattle.exact.proofs.Dependence.{equals-of}
use Rattle.other_charges.specs.Charges.{add_on_thousandths, provision_tenths_lem, provision, multi_provision}
use Rattle.other_charges.specs.Examples.{Example8, Example9}

pub example8 : Example8
unfolding add_on_thousandths
example8 = record { at60 = equals-of (lit< tt) (lit< tt) refl; at61 = equals-of (lit< tt) (lit< tt) refl }

pub example9 : Example9
unfolding provision_tenths_lem provision multi_provision
example9 = record { charge = equals-of (lit< tt) (lit< tt) refl }
