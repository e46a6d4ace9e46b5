-- The records so far keep the rules: the walk over all of them is the one that goes on from here.
use Rattle.std.proofs.Common.{◌≡◌, drop}
use Rattle.table_rules.specs.Walks.{begun, walk_from}
use Rattle.table_rules.proofs.walk_records.Given as goal

abbrev pub invariant-loop-r : goal.invariant-loop-r
invariant-loop-r l = walk_from l.fixed_len l.live_len begun l.r-items ≡ walk_from l.fixed_len l.live_len l.walked (drop l.r-index l.r-items)
