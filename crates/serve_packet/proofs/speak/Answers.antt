-- The tests; then the reply.
use Rattle.std.proofs.Common.{sym}
use Rattle.answers.specs.Contract.{lent_state}
use Rattle.serve_packet.specs.Packets.{replied_as}
use Rattle.serve_packet.specs.SpeakLaws.{refused, passed, speak_passed}
use Rattle.serve_packet.proofs.speak.Goals as goal

pub returns-in-Err : goal.returns-in-Err
returns-in-Err c =
    let a = c.args in
    let g = refused (lent_state a.lent) a.packet.now a.out.now _ (sym c.in-Err.ensures) in
    record { result_value = g.0; out_after = g.1 }

pub reply-requires-clause-link_value : goal.reply-requires-clause-link_value
reply-requires-clause-link_value c = (passed (lent_state c.args.lent) c.args.packet.now c.args.out.now (sym c.in-Ok.ensures)).0

pub reply-requires-clause-in_bounds : goal.reply-requires-clause-in_bounds
reply-requires-clause-in_bounds c = (passed (lent_state c.args.lent) c.args.packet.now c.args.out.now (sym c.in-Ok.ensures)).1

pub reply-requires-clause-packet_nonzero : goal.reply-requires-clause-packet_nonzero
reply-requires-clause-packet_nonzero c = (passed (lent_state c.args.lent) c.args.packet.now c.args.out.now (sym c.in-Ok.ensures)).2

pub returns-in-Ok : goal.returns-in-Ok
returns-in-Ok c =
    let a = c.args in
    let e = c.reply.ensures in
    let s = speak_passed (lent_state a.lent) a.packet.now a.out.now (sym c.in-Ok.ensures) (replied_as a.packet.now c.reply.result) _ (e.result_value, e.out_after) in
    record { result_value = s.0; out_after = s.1 }
