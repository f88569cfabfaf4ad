use mathlib.Core.List.{[]}
use mathlib.Core.Path.{◌≡◌, sym, ◌∙◌, ap}
use Prim.Native.Nat.{ℕ, ◌-◌}
use native.Mathlib.Omega.{arith}
use lib.ListN.{length, drop, length-drop}
use lib.Seq.{drop-length}
use borrow.Author.Rules.{rules}
use Rattle.line_bytes.specs.LineBytes.{unbroken}
use Rattle.line_bytes.proofs.FirstNewline.{none_found}
use Rattle.driver.specs.Reading.{with_bytes, stage_at}
use Rattle.driver.proofs.Bytes.{line_read}
use Rattle.driver.proofs.lines.Goals as goal

pub loop-i-init : goal.loop-i-init
unfolding with_bytes
loop-i-init c =
    search rules

pub returns-then-size-end : goal.returns-then-size-end
returns-then-size-end c =
    let l = c.loop-i in
    let bytes = c.args.bytes.now in
    let n : length (drop l.i c.args.bytes.now) ≡ length
    c.args.bytes.now - l.i = length-drop l.i bytes in
    record {
      equation = l.invariant.0;
      rest = (
        l.invariant.3,
        none_found (drop l.i bytes) (c.line_end-end.result - l.i) (omega (arith, c.line_end-end.ensures.equation))
            (omega (arith, c.if-size-end.true)),
      );
      sound = l.invariant.1;
      number = l.invariant.2;
    }

pub end_line-requires : goal.end_line-requires
end_line-requires c =
    let l = c.loop-i in
    (l.invariant.1, omega (arith, c.requires.1), c.requires.2)

pub overflow_add-i : goal.overflow_add-i
overflow_add-i c =
    record {
      fits = omega (
        arith,
        c.requires.1,
        c.if-size-end.false,
      );
    }

pub loop-i-preserved : goal.loop-i-preserved
loop-i-preserved c =
    let a = c.args in
    let l = c.loop-i in
    let e = c.line_end-end in
    let n = c.end_line.ensures in (
      (λ j. record { stage = n.equation j; tail = [] })
          ∙ sym (line_read (record { stage = stage_at a.p.now a.sheet.now a.open_book.now; tail = [] }) a.bytes.now
          (stage_at l.p a.sheet.now l.open_book) l.i e.result l.invariant.0 (omega arith) e.ensures.equation (omega arith)),
      n.sound,
      omega (arith, n.number, l.invariant.2, e.ensures.inside),
      omega arith,
    )

pub returns : goal.returns
unfolding unbroken
returns c =
    let l = c.loop-i in
    let bytes = c.args.bytes.now in
    let e : l.i ≡ length c.args.bytes.now = omega arith in
    record {
      equation = l.invariant.0;
      rest = (l.invariant.3, ap (λ (n : ℕ). unbroken (drop n bytes)) e ∙ ap unbroken (drop-length bytes));
      sound = l.invariant.1;
      number = l.invariant.2;
    }
