-- The tests in their order; each way is the reply of the book.
use Rattle.std.proofs.Common.{refl, sym, ◌∙◌, arith}
use Rattle.answers.specs.Contract.{lent_state}
use Rattle.answers.specs.Serve.{views}
use Rattle.serve_packet.specs.PacketsLaws.{strict_packet, request_long, request_unserved, request_loose, request_opcode, request_typed}
use Rattle.serve_packet.specs.SpeakLaws.{as_typed, refused_as}
use Rattle.serve_packet.proofs.request.Goals as goal

pub returns-then-lent-packet : goal.returns-then-lent-packet
returns-then-lent-packet c =
    let a = c.args in
    let e = c.refuse.ensures in
    let s = refused_as a.packet.now _ a.op 0x04 a.out.now _ _ (e.value, e.out_after)
    (request_long (views (lent_state a.lent)) a.lent.link a.op a.packet.now c.requires.op_value c.requires.packet_nonzero (omega arith)) in
    record { result_value = s.0; out_after = s.1 }

pub returns-then-not-served : goal.returns-then-not-served
returns-then-not-served c =
    let a = c.args in
    let e = c.refuse-then-not-served.ensures in
    let s = refused_as a.packet.now _ a.op 0x06 a.out.now _ _ (e.value, e.out_after)
    (request_unserved (views (lent_state a.lent)) a.lent.link a.op a.packet.now c.requires.op_value c.requires.packet_nonzero (omega arith) (sym c.served.ensures ∙ c.if-not-served.true)) in
    record { result_value = s.0; out_after = s.1 }

pub returns-then-not-strict : goal.returns-then-not-strict
returns-then-not-strict c =
    let a = c.args in
    let e = c.refuse-then-not-strict.ensures in
    let s = refused_as a.packet.now _ a.op 0x04 a.out.now _ _ (e.value, e.out_after)
    (request_loose (views (lent_state a.lent)) a.lent.link a.op a.packet.now c.requires.op_value c.requires.packet_nonzero (omega arith) (sym c.served.ensures ∙ c.if-not-served.false) (sym c.strict.ensures ∙ c.if-not-strict.true)) in
    record { result_value = s.0; out_after = s.1 }

pub typed-requires-clause-op_value : goal.typed-requires-clause-op_value
typed-requires-clause-op_value c =
    let a = c.args in
    request_opcode (views (lent_state a.lent)) a.lent.link a.op a.packet.now c.requires.op_value c.requires.packet_nonzero
    (sym c.strict.ensures ∙ c.if-not-strict.false) _ (sym c.in-Ok.ensures)

pub returns-in-Err : goal.returns-in-Err
returns-in-Err c =
    absurd (strict_packet c.args.packet.now (sym c.strict.ensures ∙ c.if-not-strict.false) _ (sym c.in-Err.ensures))

pub returns-in-Ok : goal.returns-in-Ok
returns-in-Ok c =
    let a = c.args in
    let e = c.typed.ensures in
    let s = as_typed a.packet.now _ _ _ a.op a.out.now _ c.typed.result refl
    (request_typed (views (lent_state a.lent)) a.lent.link a.op a.packet.now c.requires.op_value c.requires.packet_nonzero (omega arith) (sym c.strict.ensures ∙ c.if-not-strict.false) _ (sym c.in-Ok.ensures))
    (e.result_value, e.out_after) in
    record { result_value = s.0; out_after = s.1 }
