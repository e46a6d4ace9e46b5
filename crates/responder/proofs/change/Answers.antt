-- Each effect, as it is carried out.
use Rattle.answers.specs.Contract.{state_of}
use Rattle.responder.specs.ChangeLaws.{change_as, stores_as}
use Rattle.responder.proofs.change.Goals as goal

pub returns-in-Stores : goal.returns-in-Stores
returns-in-Stores c =
    let a = c.args in
    let e = c.store.ensures in
    let s = change_as a.said.answer (state_of a.table a.link a.fixed.now a.live.now) a.packet.now _ _ a.said.effect _ c.in-Stores.is
    (stores_as a.said.answer a.table _ a.link _ _ a.fixed.now a.live.now _ _ _ (e.value, e.live_after) c.unwrap_or-next.ensures c.part-value.ensures) in
    record { value = s.0; live_after = s.1 }
