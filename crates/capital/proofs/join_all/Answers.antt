-- One more file ends it, or is joined to those before it.
use Rattle.std.proofs.Common.{◌≡◌, ◌+◌, ◌-◌, refl, arith}
use Rattle.capital.proofs.Files.{none_yet, next-as, done-there, goes_further, all_read}
use Rattle.capital.proofs.join_all.Goals as goal

pub loop-file-init : goal.loop-file-init
loop-file-init c =
    let none : c.args.from - c.args.from ≡ 0 = omega arith in
    (c.requires.0, c.requires.1, none_yet _ _ _ none (omega (arith, none)), refl)

pub returns-in-Some : goal.returns-in-Some
returns-in-Some c =
    let l = c.loop-file.invariant in
    done-there l.2 (next-as c.in_ok-count.field-0 c.in_ok-count.ensures c.in-Some.is) l.3 (omega (arith, c.loop-file-test.true)) refl

pub loop-file-preserved : goal.loop-file-preserved
loop-file-preserved c =
    let l = c.loop-file.invariant in
    let n : c.loop-file.file + 1 - c.args.from ≡ (c.loop-file.file - c.args.from) + 1 = omega arith in
    let (sound, enough, far, same) = goes_further l.2 (next-as c.in_ok-count.field-0 c.in_ok-count.ensures c.in_default.is) l.3 n (omega (arith, n)) l.1 refl in
    (sound, enough, far, same)

pub returns : goal.returns
returns c =
    let l = c.loop-file.invariant in
    all_read l.2 (omega (arith, c.loop-file-test.false)) l.1 l.3 c.put_answer.ensures
