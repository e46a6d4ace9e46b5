-- For an MTU that is not legal nothing is found; else the walk over the records that count gives the list.
use Rattle.std.proofs.Common.{sym}
use Rattle.answers.specs.Contract.{lent_state}
use Rattle.serve_link.specs.LinkLaws.{legal_least, legal_most}
use Rattle.serve_search.specs.Search.{asked, no_items}
use Rattle.serve_search.specs.WalkLaws.{listing_is, listing_none}
use Rattle.serve_search.proofs.search.Goals as goal

pub returns-then-not-legal_mtu : goal.returns-then-not-legal_mtu
unfolding no_items
returns-then-not-legal_mtu c = listing_none (asked c.args.query) (lent_state c.args.lent) (sym c.if-not-legal_mtu.ensures)

pub walk-state-requires-clause-le_mtu : goal.walk-state-requires-clause-le_mtu
walk-state-requires-clause-le_mtu c = legal_least _ (sym c.if-not-legal_mtu.ensures)

pub walk-state-requires-clause-mtu_bound : goal.walk-state-requires-clause-mtu_bound
walk-state-requires-clause-mtu_bound c = legal_most _ (sym c.if-not-legal_mtu.ensures)

pub returns : goal.returns
unfolding no_items
returns c =
    listing_is (asked c.args.query) (lent_state c.args.lent) (_, _) _ (sym c.if-not-legal_mtu.ensures) (sym c.walk-state.ensures.walk) c.result.ensures
