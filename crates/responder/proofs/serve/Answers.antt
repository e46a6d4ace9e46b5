-- What was said of the packet, and what it asks for carried out.
use Rattle.answers.specs.Contract.{state_of}
use Rattle.responder.specs.ChangeLaws.{served_said}
use Rattle.responder.proofs.serve.Goals as goal

pub returns : goal.returns
returns c =
    let a = c.args in
    let e = c.speak-said.ensures in
    let s = served_said (state_of a.table a.link a.fixed.now a.live.now) a.packet.now a.out.now c.speak-said.result _ _ _
    e.result_value e.out_after (c.change.ensures.value, c.change.ensures.live_after) in
    record { value = s.0; live_after = s.1.0; out_after = s.1.1 }
