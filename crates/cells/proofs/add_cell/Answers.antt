use mathlib.Core.Path.{refl}
use native.Mathlib.Omega.{arith}
use Rattle.book_model.specs.Cells.{with_cell}
use Rattle.book_model.proofs.Cells.{fits, bounded-more}
use Rattle.cells.proofs.add_cell.Goals as goal

-- `add_cell` meets its contract: four additions, each with room at its place. Assumes nothing.

pub add_at-requires : goal.add_at-requires
add_at-requires c =
    let p = c.requires in
    (omega arith, fits _ _ _ 4000000 p.2.count (omega arith) p.1)

pub add_at-requires-2 : goal.add_at-requires-2
add_at-requires-2 c =
    let p = c.requires in
    (omega arith, rw c.add_at.ensures (fits _ _ _ 4000001 p.2.balance (omega arith) (bounded-more _ _ _ 4000000 p.2.count p.1)))

pub add_at-requires-3 : goal.add_at-requires-3
add_at-requires-3 c =
    let p = c.requires in (
      omega arith,
      rw (c.add_at-2.ensures, c.add_at.ensures)
          (fits _ _ _ 4000002 p.2.plus (omega arith)
          (bounded-more _ _ _ 4000001 p.2.balance (bounded-more _ _ _ 4000000 p.2.count p.1))),
    )

pub add_at-requires-4 : goal.add_at-requires-4
add_at-requires-4 c =
    let p = c.requires in (
      omega arith,
      rw (c.add_at-3.ensures, c.add_at-2.ensures, c.add_at.ensures)
          (fits _ _ _ 4000003 p.2.minus (omega arith)
          (bounded-more _ _ _ 4000002 p.2.plus (bounded-more _ _ _ 4000001 p.2.balance (bounded-more _ _ _ 4000000 p.2.count p.1)))),
    )

pub returns : goal.returns
unfolding with_cell
returns c =
    rw (
      c.add_at-4.ensures,
      c.add_at-3.ensures,
      c.add_at-2.ensures,
      c.add_at.ensures,
    )
    refl
