-- Each turn is a step of the walk. Behind its end a list stays as it is.
use Rattle.std.proofs.Common.{List, map, sym, ap, ◌∙◌, subst, arith}
use Rattle.attributes.specs.declared.Record.{Record}
use Rattle.answers.specs.Contract.{lent_state}
use Rattle.serve_collect.specs.Collect.{FirstFits}
use Rattle.serve_search.specs.Search.{asked, room_for}
use Rattle.serve_search.specs.Walk.{given_by, walked}
use Rattle.serve_search.specs.WalkLaws.{walk_ended, first_ended, first_all}
use Rattle.serve_search.proofs.walk.Goals as goal

pub returns-then-ended-clause-walk : goal.returns-then-ended-clause-walk
returns-then-ended-clause-walk c =
    let q = asked c.args.query in
    let s = lent_state c.args.lent in
    ap (λ (l : List Record). walked q s l c.args.items.now) (sym c.entries-records.ensures)
    ∙ walk_ended q s c.entries-records.result.now c.loop-r.r-index _ c.args.items.now _ _ (omega arith) c.loop-r.invariant.so_far c.turn-state.ensures.turn (sym c.if-ended.ensures)

pub returns-then-ended-clause-fits : goal.returns-then-ended-clause-fits
returns-then-ended-clause-fits c =
    let q = asked c.args.query in
    let s = lent_state c.args.lent in
    subst (λ (l : List Record). FirstFits (room_for q.ask s.link) (map (given_by q s) l)) c.entries-records.ensures
    (first_ended q s c.entries-records.result.now c.loop-r.r-index _ c.args.items.now _ _ (omega arith) c.loop-r.invariant.so_far c.turn-state.ensures.turn (sym c.if-ended.ensures)
    c.loop-r.invariant.fits c.turn-state.ensures.fits)

pub returns-clause-fits : goal.returns-clause-fits
returns-clause-fits c =
    let q = asked c.args.query in
    let s = lent_state c.args.lent in
    subst (λ (l : List Record). FirstFits (room_for q.ask s.link) (map (given_by q s) l)) c.entries-records.ensures
    (first_all q s c.entries-records.result.now c.loop-r.r-index (omega arith) c.loop-r.invariant.fits)
