-- The typed packet that was matched: a request is answered, and what is none is refused.
use Rattle.std.proofs.Common.{ap, ◌∙◌}
use Rattle.att.specs.declared.Att.TheVariants.{Client}
use Rattle.answers.specs.Contract.{lent_state}
use Rattle.serve_packet.specs.PacketsLaws.{typed_request, typed_server, typed_command, typed_confirmation}
use Rattle.serve_packet.specs.SpeakLaws.{as_typed, refused_as}
use Rattle.serve_packet.proofs.typed.Goals as goal

pub returns-in-Client-Request : goal.returns-in-Client-Request
returns-in-Client-Request c =
    let a = c.args in
    let e = c.answer.ensures in
    let g = typed_request (lent_state a.lent) a.src.now a.op a.att c.requires.op_value c.requires.link_value _ (c.in-Client-Request.is ∙ ap (λ x. Client x) (rw c.in-Client-Request.is at c.in-Client-Request.field-0-is)) in
    let s = as_typed a.src.now _ _ _ a.op a.out.now _ c.answer.result g.0 g.1 (e.result_value, e.out_after) in
    record { result_value = s.0; out_after = s.1 }

pub returns-in-Client-Command : goal.returns-in-Client-Command
returns-in-Client-Command c =
    let a = c.args in
    let e = c.refuse.ensures in
    let s = refused_as a.src.now _ a.op 0x06 a.out.now _ _ (e.value, e.out_after)
    (typed_command (lent_state a.lent) a.src.now a.op a.att _ (c.in-Client-Command.is ∙ ap (λ x. Client x) (rw c.in-Client-Command.is at c.in-Client-Command.field-0-is))) in
    record { result_value = s.0; out_after = s.1 }

pub returns-in-Client-Confirmation : goal.returns-in-Client-Confirmation
returns-in-Client-Confirmation c =
    let a = c.args in
    let e = c.refuse-in-Client-Confirmation.ensures in
    let s = refused_as a.src.now _ a.op 0x06 a.out.now _ _ (e.value, e.out_after)
    (typed_confirmation (lent_state a.lent) a.src.now a.op a.att _ (c.in-Client-Confirmation.is ∙ ap (λ x. Client x) (rw c.in-Client-Confirmation.is at c.in-Client-Confirmation.field-0-is))) in
    record { result_value = s.0; out_after = s.1 }

pub returns-in-Server : goal.returns-in-Server
returns-in-Server c =
    let a = c.args in
    let e = c.refuse-in-Server.ensures in
    let s = refused_as a.src.now _ a.op 0x06 a.out.now _ _ (e.value, e.out_after)
    (typed_server (lent_state a.lent) a.src.now a.op a.att _ c.in-Server.is) in
    record { result_value = s.0; out_after = s.1 }
