-- What stands on the line and what is still to be put there are all items.
use Rattle.std.proofs.Common.{◌-◌, length}
use Rattle.explain_items.specs.Items.{kind_of}
use Rattle.explain_items.specs.ItemsLaws.{Putting}
use Rattle.explain_items.proofs.items.Given as goal

abbrev pub invariant-loop : goal.invariant-loop
invariant-loop l = Putting (kind_of l.op) l.att l.src (length l.src) l.initial.line l.line l.pos (length l.src - l.counter)
