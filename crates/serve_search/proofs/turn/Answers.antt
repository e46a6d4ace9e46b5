-- Outside of the range the state stays; inside, the offer decides.
use Rattle.std.proofs.Common.{◌≤◌, length, Some, None, Ok, Err, sym, ap, ◌∙◌, rules}
use Rattle.ble_uuid.specs.Uuids.{own}
use Rattle.answers.specs.Contract.{lent_state}
use Rattle.serve_collect.specs.declared.Progress.{Progress}
use Rattle.serve_search.specs.Search.{asked}
use Rattle.serve_search.specs.WalkLaws.{given_fits, turn_before, turn_behind, turn_within, taken_same}
use Rattle.serve_search.proofs.turn.Goals as goal
use Rattle.serve_search.proofs.turn.Goals.{then-r-query-via-then-r-query, then-r-query-via-else-r-query+then-query-r}

pub returns-then-r-query-clause-turn : goal.returns-then-r-query-clause-turn
returns-then-r-query-clause-turn c =
    let a = c.args in
    elim c.then-r-query.branch [
      | then-r-query-via-then-r-query w ↦ turn_before (asked a.query) (lent_state a.lent) (a.state, a.items.now) a.r w.if-r-query.true
      | then-r-query-via-else-r-query+then-query-r w ↦
          turn_behind (asked a.query) (lent_state a.lent) (a.state, a.items.now) a.r w.if-r-query.false w.if-query-r.true
    ]

pub returns-then-r-query-clause-fits : goal.returns-then-r-query-clause-fits
returns-then-r-query-clause-fits c =
    let w : length (own c.args.r.kind) ≤ 16 = search rules in
    given_fits (asked c.args.query) (lent_state c.args.lent) c.args.r c.requires.le_mtu w

pub returns-in-None-clause-turn : goal.returns-in-None-clause-turn
returns-in-None-clause-turn c =
    let a = c.args in
    turn_within (asked a.query) (lent_state a.lent) (a.state, a.items.now) a.r None c.if-r-query.false c.if-query-r.false (sym c.in-None.ensures)

pub returns-in-None-clause-fits : goal.returns-in-None-clause-fits
returns-in-None-clause-fits c =
    let w : length (own c.args.r.kind) ≤ 16 = search rules in
    given_fits (asked c.args.query) (lent_state c.args.lent) c.args.r c.requires.le_mtu w

pub returns-in-Some-Ok-clause-turn : goal.returns-in-Some-Ok-clause-turn
returns-in-Some-Ok-clause-turn c =
    let a = c.args in
    turn_within (asked a.query) (lent_state a.lent) (a.state, a.items.now) a.r (Some (Ok _)) c.if-r-query.false c.if-query-r.false (sym (rw c.in-Some-Ok.field-0-is at c.in-Some-Ok.ensures))
    ∙ taken_same _ _ _ _ _ _ _ _ c.room.ensures c.tail.ensures c.append.ensures

pub returns-in-Some-Ok-clause-fits : goal.returns-in-Some-Ok-clause-fits
returns-in-Some-Ok-clause-fits c =
    let w : length (own c.args.r.kind) ≤ 16 = search rules in
    given_fits (asked c.args.query) (lent_state c.args.lent) c.args.r c.requires.le_mtu w

pub returns-in-Some-Err-clause-turn : goal.returns-in-Some-Err-clause-turn
returns-in-Some-Err-clause-turn c =
    let a = c.args in
    turn_within (asked a.query) (lent_state a.lent) (a.state, a.items.now) a.r (Some (Err _)) c.if-r-query.false c.if-query-r.false (sym (rw c.in-Some-Err.field-0-is at c.in-Some-Err.ensures))
    ∙ ap (λ (p : Progress). (p, a.items.now)) (sym c.fail.ensures)

pub returns-in-Some-Err-clause-fits : goal.returns-in-Some-Err-clause-fits
returns-in-Some-Err-clause-fits c =
    let w : length (own c.args.r.kind) ≤ 16 = search rules in
    given_fits (asked c.args.query) (lent_state c.args.lent) c.args.r c.requires.le_mtu w
