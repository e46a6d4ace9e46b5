-- The range, then the type, then what the search found: each way is the reply.
use Rattle.std.proofs.Common.{◌≡◌, sym, arith}
use Rattle.att.specs.Wire.{send}
use Rattle.answers.specs.Contract.{lent_state}
use Rattle.answers.specs.Replies.{error_packet}
use Rattle.answers.specs.Serve.{views}
use Rattle.serve_search.specs.Search.{asked}
use Rattle.serve_tell.specs.Tell.{coded_of}
use Rattle.serve_tell.specs.TellLaws.{tells_as, tells_by}
use Rattle.serve_list.specs.Lists.{op_for, list_reply}
use Rattle.serve_list.specs.ListsLaws.{start_zero, start_above, kind_refused, list_coded}
use Rattle.serve_list.proofs.list.Goals as goal
use Rattle.serve_list.proofs.list.Goals.{then-from-eq0-via-then-from-eq0, then-from-eq0-via-else-from-eq0+then-query-from}

pub returns-then-from-eq0 : goal.returns-then-from-eq0
returns-then-from-eq0 c =
    let a = c.args in
    let e = c.error.ensures in
    let refused : send (error_packet (op_for a.query.ask) a.query.from 0x01) ≡ coded_of (list_reply (asked a.query) (views (lent_state a.lent)) a.lent.link) =
    elim c.then-from-eq0.branch [
      | then-from-eq0-via-then-from-eq0 w ↦ start_zero (asked a.query) (lent_state a.lent) w.if-from-eq0.true
      | then-from-eq0-via-else-from-eq0+then-query-from w ↦ start_above (asked a.query) (lent_state a.lent) w.if-query-from.true
    ] in
    let t = tells_by (λ op. send (error_packet op a.query.from 0x01)) _ (op_for a.query.ask) a.out.now _ _ _ (e.value, e.out_after) c.opcode-op.ensures refused in
    record { value = t.0; out_after = t.1 }

pub returns-then-not-may_ask : goal.returns-then-not-may_ask
returns-then-not-may_ask c =
    let a = c.args in
    let e = c.error-then-not-may_ask.ensures in
    let t = tells_by (λ op. send (error_packet op a.query.from 0x10)) _ (op_for a.query.ask) a.out.now _ _ _ (e.value, e.out_after) c.opcode-op.ensures
    (kind_refused (asked a.query) (lent_state a.lent) (omega arith) (omega arith) (sym c.if-not-may_ask.ensures)) in
    record { value = t.0; out_after = t.1 }

pub returns : goal.returns
returns c =
    let a = c.args in
    let e = c.tell_found.ensures in
    let t = tells_as (op_for a.query.ask) a.out.now _ _ _ _ (e.value, e.out_after)
    (list_coded (asked a.query) (lent_state a.lent) (omega arith) (omega arith) _ (sym c.if-not-may_ask.ensures) c.search-listed.ensures) in
    record { value = t.0; out_after = t.1 }
