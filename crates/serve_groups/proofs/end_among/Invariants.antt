-- The loop keeps: the end, told from all records, is the end told from `last` and the records that are left.
use Rattle.std.proofs.Common.{◌≡◌, drop}
use Rattle.serve_groups.specs.GroupsLaws.{end_from}
use Rattle.serve_groups.proofs.end_among.Given as goal

abbrev pub invariant-loop-r : goal.invariant-loop-r
invariant-loop-r l = end_from l.handle l.handle l.records ≡ end_from l.handle l.last (drop l.r-index l.records)
