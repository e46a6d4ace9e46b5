-- The opcode decides: no answer and the command's effect, or the answer to a request.
use Rattle.std.proofs.Common.{get_or, length, sym, ◌∙◌}
use Rattle.answers.specs.Contract.{lent_state}
use Rattle.serve_packet.specs.PacketsLaws.{first_is}
use Rattle.serve_packet.specs.SpeakLaws.{silence, answering}
use Rattle.serve_packet.proofs.reply.Goals as goal

pub returns-then-silent : goal.returns-then-silent
returns-then-silent c =
    let a = c.args in
    let s = silence (lent_state a.lent) (get_or a.packet.now 0 0) a.packet.now c.command.result (length a.out.now) (first_is a.packet.now 0 c.requires.packet_nonzero)
    c.requires.packet_nonzero (sym c.silent.ensures ∙ c.if-silent.true) c.command.ensures in
    record { result_value = s.0; out_after = s.1 a.out.now }

pub returns : goal.returns
returns c =
    let a = c.args in
    let e = c.request-told.ensures in
    let s = answering (lent_state a.lent) (get_or a.packet.now 0 0) a.packet.now c.request-told.result a.out.now _ (first_is a.packet.now 0 c.requires.packet_nonzero)
    c.requires.packet_nonzero (sym c.silent.ensures ∙ c.if-silent.false) c.requires.in_bounds e.result_value e.out_after in
    record { result_value = s.0; out_after = s.1 }
