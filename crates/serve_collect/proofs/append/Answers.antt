-- The item's spot decides; there it has room, so its length is a byte.
use Rattle.std.proofs.Common.{◌++◌, sym, arith, length-append}
use Rattle.serve_collect.specs.Collect.{head_of}
use Rattle.serve_collect.specs.CollectLaws.{spot_fits, taken_here, taken_nowhere}
use Rattle.serve_collect.proofs.append.Goals as goal

pub overflow_cast-result : goal.overflow_cast-result
overflow_cast-result c = let a = c.args in omega (arith, spot_fits a.room _ a.state _ (sym c.in-Some.ensures))

pub overflow_add-result : goal.overflow_add-result
overflow_add-result c = let a = c.args in omega (arith, spot_fits a.room _ a.state _ (sym c.in-Some.ensures))

pub returns-in-None : goal.returns-in-None
returns-in-None c =
    let a = c.args in
    taken_nowhere a.room (head_of a.head ++ a.tail.now) a.state _ a.items.now _ (omega (arith, length-append (head_of a.head) a.tail.now))
    (sym c.in-None.ensures) c.stop.ensures

pub returns-in-Some : goal.returns-in-Some
returns-in-Some c =
    let a = c.args in
    taken_here a.room (head_of a.head ++ a.tail.now) a.state a.items.now _ _ _ (omega (arith, length-append (head_of a.head) a.tail.now))
    (sym c.in-Some.ensures) c.lay_at.ensures
