-- The number's digits are the text that `itoa` gives it.
use Rattle.report.proofs.Numbers.{decimal-digits}
use Rattle.report.proofs.put_number.Goals as goal

pub put_bytes-requires : goal.put_bytes-requires
put_bytes-requires c =
    rw (c.as_bytes.ensures.value, c.format.ensures.text, decimal-digits c.args.n c.ranges.n.fits) c.requires

pub returns : goal.returns
returns c =
    rw (← decimal-digits c.args.n c.ranges.n.fits, ← c.format.ensures.text, ← c.as_bytes.ensures.value) c.put_bytes.ensures
