-- The loop keeps: the walk over the records so far gives the state and the items so far, and what each of these gives fits.
use Rattle.std.proofs.Common.{◌≡◌, take}
use Rattle.attributes.specs.Lists.{Each}
use Rattle.attributes.specs.declared.Record.{Record}
use Rattle.answers.specs.Contract.{lent_state}
use Rattle.serve_collect.specs.Collect.{Fits}
use Rattle.serve_search.specs.Search.{asked, room_for}
use Rattle.serve_search.specs.Walk.{given_by, walked}
use Rattle.serve_search.proofs.walk.Given as goal

abbrev pub invariant-loop-r : goal.invariant-loop-r
invariant-loop-r l = record {
  so_far : walked (asked l.query) (lent_state l.lent) (take l.r-index l.records) l.initial.items ≡ (l.state, l.items);
  fits : Each (λ (r : Record). Fits (room_for l.query.ask l.lent.link) (given_by (asked l.query) (lent_state l.lent) r)) (take l.r-index l.records);
}
