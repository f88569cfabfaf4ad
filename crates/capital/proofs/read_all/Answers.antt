-- Each read goes on from those before it.
use Rattle.std.proofs.Common.{refl, sym, arith, rules}
use Rattle.driver.specs.Reading.{reading_of}
use Rattle.capital.proofs.Turns.{reached-none, reached-on, ends-settled}
use Rattle.capital.proofs.read_all.Goals as goal

pub loop-init : goal.loop-init
loop-init g c =
    (c.requires.1, reached-none _ _ _ (c.requires.0 c.args.sheet.now) c.requires.2, omega (arith, c.requires.2))

pub returns-in_err-n-clause-reached : goal.returns-in_err-n-clause-reached
returns-in_err-n-clause-reached g c =
    let r = c.read_once.ensures in
    rw r.running.1 (reached-on c.loop.invariant.1 r.reading)

pub returns-then-not-more-clause-reached : goal.returns-then-not-more-clause-reached
returns-then-not-more-clause-reached g c =
    let r = c.read_once.ensures in
    rw r.running.1 (reached-on c.loop.invariant.1 r.reading)

pub returns-then-not-more-clause-ends : goal.returns-then-not-more-clause-ends
returns-then-not-more-clause-ends g c =
    let r = c.read_once in
    let next = r.new.run in
    ends-settled (reading_of next c.args.sheet.now r.new.open_book) c.in_ok-n.n c.len.result next.progress.answer refl (sym c.len.ensures.length)
    (rw (← c.is_ok.ensures.value) (search rules))

pub loop-preserved : goal.loop-preserved
loop-preserved g c =
    let r = c.in_ok-n.ensures in (
      r.running.0,
      rw r.running.1 (reached-on c.loop.invariant.1 r.reading),
      omega (arith, r.running.1, r.reading.count, c.loop.invariant.2),
    )
